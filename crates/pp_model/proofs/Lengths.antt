-- How long lists of operations are.
use Rattle.std.specs.Prelude.{◌≡◌, ◌≤◌, List, [], ◌∷◌, ◌++◌, length}
use Rattle.std.proofs.Common.{refl, sym, ap, subst, arith, length-append}
use Rattle.std.proofs.lemmas.List.{length-map}
use mathlib.Core.Logic.{inl, inr}
use Rattle.pp_model.specs.Config.{Config, shared_item, uncommitted}
use Rattle.pp_model.specs.Lists.{In}
use Rattle.pp_model.specs.Object.{HasDistinctIds, Item, Object, ops}
use Rattle.pp_model.specs.Sound.{Sound, serial_items, serial_ops}
use Rattle.pp_model.proofs.Lists.{in_cases, in_left, in_right, split_at}
use Rattle.pp_model.proofs.Serial.{items, ordered, reorders, target}

-- A list of items has as many operations as items.
pub length-ops : {Op : Type 0} (l : List (Item Op)) → length (ops l) ≡ length l
length-ops {Op} l = length-map l (λ (p : Item Op). p.op)

-- A list with distinct ids whose items all are in another is no longer than that.
pub no_longer : {Op : Type 0} (xs ys : List (Item Op)) → HasDistinctIds xs → ((p : Item Op) → In p xs → In p ys) → length xs ≤ length ys
no_longer [] ys distinct within = omega arith
no_longer {Op} (x ∷ xs) ys distinct within =
    let s = split_at x ys (within x (inl refl)) in
    let rest : length xs ≤ length (s.0 ++ s.1) = no_longer xs (s.0 ++ s.1) (λ p q b. distinct p q (inr b)) (λ q i. left s.0 s.1 q i (subst (In q) s.2 (within q (inr i)))) in
    omega (arith, rest, ap length s.2, length-append s.0 s.1, length-append s.0 (x ∷ s.1))
  where
    left : (front back : List (Item Op)) (q : Item Op) → In q xs → In q (front ++ x ∷ back) → In q (front ++ back)
    left front back q i there =
        elim (in_cases q front (x ∷ back) there) [
          | inl f ↦ in_left q front back f
          | inr b ↦ elim b [ inl e ↦ absurd (distinct x q (inl (refl, i)) (ap (λ (p : Item Op). p.id) (sym e))) | inr t ↦ in_right q front back t ]
        ]

-- The serial run of a sound configuration is no longer than its shared log.
pub serial_fits : {Op State : Type 0} (O : Object Op State) (c : Config Op) → Sound O c → length (serial_ops c.done) ≤ length c.shared
serial_fits {Op} O c sound =
    let r = reorders O c.shared c.done (ordered O c sound) in
    let all : length (target c.shared c.done) ≤ length (items c.shared) = no_longer (target c.shared c.done) (items c.shared) r.distinct_y r.back in
    omega (arith, all, length-append (serial_items c.done) (items (uncommitted c.shared)), length-map (serial_items c.done) (λ (p : Item Op). p.op), length-map c.shared (shared_item {Op = Op}))
