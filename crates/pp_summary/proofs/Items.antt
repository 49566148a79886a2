-- Lists that are walked from the front and from the end.
use Rattle.std.specs.Prelude.{◌≡◌, ◌⊎◌, ◌<◌, ◌≤◌, ◌+◌, ℕ, zero, suc, List, [], ◌∷◌, ◌++◌, take, drop, length, slice_get, Some}
use Rattle.std.proofs.Common.{refl, sym, ap, subst, ◌∙◌, arith, get_or}
use Rattle.std.proofs.lemmas.Option.{same_Some}
use mathlib.Core.Logic.{inl, inr}
use Rattle.pp_log.proofs.Lists.{cut_there}
use Rattle.pp_model.specs.Lists.{In}
use Rattle.pp_model.proofs.Lists.{in_cases, in_right}

-- The first i + 1 elements are the first i and then the one at position i.
pub take_one : {A : Type 0} (xs : List A) (i : ℕ) (e : A) → i < length xs → e ≡ get_or xs i e → take (suc i) xs ≡ take i xs ++ e ∷ []
take_one [] i e l h = absurd (omega arith)
take_one {A} (x ∷ xs) zero e l h = ap (λ (w : A). w ∷ []) (sym h)
take_one {A} (x ∷ xs) (suc i) e l h = ap (λ (w : List A). x ∷ w) (take_one xs i e (omega arith) h)

-- The first i + 1 elements are the first i and the one at position i.
pub take_next : {A : Type 0} (xs : List A) (i : ℕ) (e : A) → i < length xs → e ≡ get_or xs i e → take (i + 1) xs ≡ take i xs ++ e ∷ []
take_next {A} xs i e l h = ap (λ (k : ℕ). take k xs) (let z : i + 1 ≡ suc i = omega arith in z) ∙ take_one xs i e l h

-- There is an element at each position below the length.
pub some_there : {A : Type 0} (xs : List A) (i : ℕ) → i < length xs → (e : A) × (e ≡ get_or xs i e)
some_there [] i l = absurd (omega arith)
some_there (x ∷ xs) zero l = (x, refl)
some_there (x ∷ xs) (suc i) l = some_there xs i (omega arith)

-- The element at a position is in the list.
pub in_there : {A : Type 0} (xs : List A) (i : ℕ) (e : A) → i < length xs → e ≡ get_or xs i e → In e xs
in_there {A} xs i e l h = subst (λ (w : List A). In e w) (sym (cut_there xs i e l h)) (in_right e (take i xs) (e ∷ drop (i + 1) xs) (inl refl))

-- An element of the first i + 1 elements is one of the first i, or the one at position i.
pub in_next : {A : Type 0} (xs : List A) (i : ℕ) (e a : A) → i < length xs → e ≡ get_or xs i e → In a (take (i + 1) xs) → In a (take i xs) ⊎ (a ≡ e)
in_next {A} xs i e a l h k = elim (in_cases a (take i xs) (e ∷ []) (subst (λ (w : List A). In a w) (take_next xs i e l h) k)) [
  | inl j ↦ inl j
  | inr (inl j) ↦ inr j
  | inr (inr j) ↦ absurd j
]

-- An element after the first k is at a position of k or more.
pub in_drop : {A : Type 0} (xs : List A) (k : ℕ) (a : A) → In a (drop k xs) → (j : ℕ) × (k ≤ j) × (slice_get xs j ≡ Some a) × (j < length xs)
in_drop [] zero a h = absurd h
in_drop [] (suc k) a h = absurd h
in_drop {A} (x ∷ xs) zero a (inl h) = (zero, omega arith, ap (λ (w : A). Some w) (sym h), omega arith)
in_drop (x ∷ xs) zero a (inr h) = let r = in_drop xs zero a h in (suc r.0, omega arith, r.2, (let l : r.0 < length xs = r.3 in omega arith))
in_drop (x ∷ xs) (suc k) a h = let r = in_drop xs k a h in (suc r.0, (let m : k ≤ r.0 = r.1 in omega arith), r.2, (let l : r.0 < length xs = r.3 in omega arith))

-- An element at a position of k or more is among those after the first k.
pub drop_in : {A : Type 0} (xs : List A) (k j : ℕ) (a : A) → k ≤ j → slice_get xs j ≡ Some a → In a (drop k xs)
drop_in [] k j a l h = absurd (cc)
drop_in (x ∷ xs) zero zero a l h = inl (sym (same_Some x a h))
drop_in (x ∷ xs) zero (suc j) a l h = inr (drop_in xs zero j a (omega arith) h)
drop_in (x ∷ xs) (suc k) zero a l h = absurd (omega arith)
drop_in (x ∷ xs) (suc k) (suc j) a l h = drop_in xs k j a (omega arith) h

-- A number below k + 1 is below k or equal to it.
pub below_next : (j k : ℕ) → j < k + 1 → (j < k) ⊎ (j ≡ k)
below_next zero zero l = inr refl
below_next zero (suc k) l = inl (omega arith)
below_next (suc j) zero l = absurd (omega arith)
below_next (suc j) (suc k) l = elim (below_next j k (omega arith)) [ inl h ↦ inl (omega arith) | inr h ↦ inr (ap (λ (n : ℕ). suc n) h) ]
