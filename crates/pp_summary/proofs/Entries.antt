-- Which ids are in a local log, and which operations are allowed after its operations.
use Rattle.std.specs.Prelude.{◌≡◌, ◌≢◌, ◌⊎◌, ◌==◌, ◌||◌, List, [], ◌∷◌, ◌++◌}
use Rattle.std.proofs.Common.{refl, sym, subst, ◌∙◌, append_assoc}
use mathlib.Core.Logic.{inl, inr}
use Rattle.pp_model.specs.Lists.{In}
use Rattle.pp_model.specs.Object.{Object, Allowed, Swaps}
use Rattle.pp_model.specs.Config.{SharedEntry, shared_ops}
use Rattle.pp_model.proofs.Serial.{allowed_front}

-- An operation that is allowed after entries that swap with it is allowed before them.
drawn : {Op State : Type 0} (O : Object Op State) (p : List (SharedEntry Op)) (o : Op) (before after : List Op) →
    ((q : SharedEntry Op) → In q p → Swaps O q.op o) →
    Allowed O (before ++ (shared_ops p ++ (o ∷ after))) → Allowed O (before ++ (o ∷ (shared_ops p ++ after)))
drawn O [] o before after sw h = h
drawn {Op} O (q ∷ p) o before after sw h =
    let h1 : Allowed O ((before ++ q.op ∷ []) ++ (shared_ops p ++ (o ∷ after))) = rw append_assoc h in
    let h2 = drawn O p o (before ++ q.op ∷ []) after (λ r i. sw r (inr i)) h1 in
    let h3 : Allowed O (before ++ (q.op ∷ o ∷ (shared_ops p ++ after))) = rw append_assoc at h2 in
    (sw q (inl refl)).always before (shared_ops p ++ after) h3

-- An operation that is allowed after entries that swap with it is allowed without them.
pub drawn_front : {Op State : Type 0} (O : Object Op State) (p : List (SharedEntry Op)) (o : Op) (before after : List Op) →
    ((q : SharedEntry Op) → In q p → Swaps O q.op o) →
    Allowed O (before ++ (shared_ops p ++ (o ∷ after))) → Allowed O (before ++ o ∷ [])
drawn_front {Op} O p o before after sw h =
    allowed_front O O.start (before ++ o ∷ []) (shared_ops p ++ after)
    (subst (λ (w : List Op). Allowed O w) (sym (append_assoc before (o ∷ []) (shared_ops p ++ after))) (drawn O p o before after sw h))
