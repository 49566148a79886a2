-- Operations that are drawn before others.
use Rattle.std.specs.Prelude.{◌≡◌, List, [], ◌∷◌, ◌++◌}
use Rattle.std.proofs.Common.{refl, sym, subst, append_assoc}
use mathlib.Core.Logic.{inl, inr}
use Rattle.pp_model.specs.Lists.{In}
use Rattle.pp_model.specs.Object.{Object, Allowed, AllowedFrom, Swaps, ops, state_from}
use Rattle.pp_model.specs.Config.{LocalEntry, own, own_items, local_ops}
use Rattle.pp_laws_summary.proofs.Entries.{ops_local}

-- a list is allowed in two parts
pub allowed_join : {Op State : Type 0} (O : Object Op State) (s : State) (l k : List Op) → AllowedFrom O s l → AllowedFrom O (state_from O s l) k → AllowedFrom O s (l ++ k)
allowed_join O s [] k h g = g
allowed_join O s (a ∷ l) k h g = (h.0, allowed_join O (O.next s a) l k h.1 g)

-- An operation may be drawn before those that swap with it.
drawn : {Op State : Type 0} (O : Object Op State) (W : List Op) (n : Op) (before k : List Op) → ((w : Op) → In w W → Swaps O w n) → Allowed O (before ++ (W ++ n ∷ k)) → Allowed O (before ++ (n ∷ (W ++ k)))
drawn O [] n before k sw h = h
drawn {Op} O (w ∷ W) n before k sw h =
    let h1 = subst (λ (l : List Op). Allowed O l) (sym (append_assoc before (w ∷ []) (W ++ n ∷ k))) h in
    let h2 = drawn O W n (before ++ w ∷ []) k (λ r i. sw r (inr i)) h1 in
    (sw w (inl refl)).always before (W ++ k) (subst (λ (l : List Op). Allowed O l) (append_assoc before (w ∷ []) (n ∷ (W ++ k))) h2)

-- Operations may be drawn before those that swap with each of them.
pub all_drawn : {Op State : Type 0} (O : Object Op State) (N W before k : List Op) → ((w n : Op) → In w W → In n N → Swaps O w n) → Allowed O (before ++ (W ++ (N ++ k))) → Allowed O (before ++ (N ++ (W ++ k)))
all_drawn O [] W before k sw h = h
all_drawn {Op} O (n ∷ N) W before k sw h =
    let h1 = drawn O W n before (N ++ k) (λ w i. sw w n i (inl refl)) h in
    let h2 = subst (λ (l : List Op). Allowed O l) (sym (append_assoc before (n ∷ []) (W ++ (N ++ k)))) h1 in
    let h3 = all_drawn O N W (before ++ n ∷ []) k (λ w m i j. sw w m i (inr j)) h2 in
    subst (λ (l : List Op). Allowed O l) (append_assoc before (n ∷ []) (N ++ (W ++ k))) h3

-- The operations of the own entries are those of the own items.
pub own_ops : {Op : Type 0} (l : List (LocalEntry Op)) → local_ops (own l) ≡ ops (own_items l)
own_ops l = sym (ops_local (own l))
