-- Proof machinery: what is among samples, and what follows for all that they represent.
use Rattle.std.proofs.Common.{◌≡◌, ℕ, zero, suc, ◌<◌, false, List, [], ◌∷◌, ◌++◌, All, length}
use Rattle.std.proofs.Common.{get_or, inl, inr, refl, sym, ap, subst, arith, Option, None, Some}
use Rattle.pp_model.specs.Lists.{In}
use Rattle.pp_model.proofs.Lists.{in_left, in_right}
use Rattle.pp_kind.specs.Object.{Object, Swaps}
use Rattle.pp_kind.specs.Parts.{SampleList, IsStoodForBy, Covers, first_and}

-- the element at a place is one of them
pub in_there : {A : Type 0} (xs : List A) (i : ℕ) (d : A) → i < length xs → In (get_or xs i d) xs
in_there [] i d h = absurd (omega arith)
in_there (x ∷ xs) zero d h = inl refl
in_there (x ∷ xs) (suc i) d h = inr (in_there xs i d (omega arith))

-- What is true for all elements of a list is true for each one.
pub of_each : {A : Type 0} (P : A → Type 0) (xs : List A) (x : A) → All P xs → In x xs → P x
of_each P [] x h there = elim there [ ]
of_each P (y ∷ xs) x h (inl e) = subst P (sym e) (h 0 y (omega arith))
of_each P (y ∷ xs) x h (inr there) = of_each P xs x (λ k d l. h (suc k) d (omega arith)) there

-- One more at the end, after a first.
pub first_push : {A : Type 0} (first : Option A) (others more : List A) (x : A)
    → more ≡ others ++ x ∷ [] → first_and first more ≡ first_and first others ++ x ∷ []
first_push None others more x e = e
first_push {A} (Some y) others more x e = ap (λ (l : List A). y ∷ l) e

-- What is true for the first element and for all others is true for all.
pub all_of_both : {A : Type 0} (P : A → Type 0) (first : Option A) (others : List A)
    → All P (first_and first []) → All P others → All P (first_and first others)
all_of_both P None others h rest = rest
all_of_both {A} P (Some y) others h rest = at
  where
    at : (k : ℕ) (d : A) → k < length (y ∷ others) → P (get_or (y ∷ others) k d)
    at zero d l = h 0 d (omega arith)
    at (suc k) d l = rest k d (omega arith)

module _ {Shape State Op Undo : Type 0} (o : Object Shape State Op Undo) where
  -- One more keeps those that represent others, and represents itself.
  pub still_stood_for : (ops more : List Op) (op b : Op) → more ≡ ops ++ op ∷ []
      → IsStoodForBy o ops b → IsStoodForBy o more b
  still_stood_for ops more op b e s =
      subst (λ (l : List Op). IsStoodForBy o l b) (sym e)
      (s.0, in_left s.0 ops (op ∷ []) s.1, s.2)

  -- The last operation of a list of samples has a sample in it: itself.
  pub stands_last : (ops more : List Op) (op : Op) → more ≡ ops ++ op ∷ [] → IsStoodForBy o more op
  stands_last ops more op e =
      subst (λ (l : List Op). IsStoodForBy o l op) (sym e)
      (op, in_right op ops (op ∷ []) (inl refl), ((λ c h. h), (λ c h. h)))

  -- If one of the others represents an operation, one of the first and the others does.
  pub stood_for_by_others : (first : Option Op) (others : List Op) (op : Op)
      → IsStoodForBy o others op → IsStoodForBy o (first_and first others) op
  stood_for_by_others None others op s = s
  stood_for_by_others (Some y) others op s = (s.0, inr s.1, s.2)

  -- If all samples swap with an operation, so does each operation that they represent.
  pub all_before : (samples : SampleList Op) (op b : Op) → samples.cut ≡ false
      → All (λ s. Swaps o s op) samples.ops → Covers o samples b → Swaps o b op
  all_before samples op b whole each covered =
      let s = covered.0 whole in
      s.2.0 op (of_each (λ c. Swaps o c op) samples.ops s.0 each s.1)

  -- If no sample was left out, what swaps with all samples swaps with all that they cover.
  pub all_behind : (samples : SampleList Op) (op b : Op) → samples.cut ≡ false
      → All (λ s. Swaps o op s) samples.ops → Covers o samples b → Swaps o op b
  all_behind samples op b whole each covered =
      let s = covered.0 whole in
      s.2.1 op (of_each (λ c. Swaps o op c) samples.ops s.0 each s.1)
