-- How the list of the steps of some entries grows from entry to entry.
use Rattle.std.proofs.Common.{◌≡◌, ◌<◌, ◌≤◌, ◌+◌, ℕ, zero, suc, Bool, true, false, cond, List, []}
use Rattle.std.proofs.Common.{◌∷◌, ◌++◌, map, filter, reverse, take, drop, length, Some, refl}
use Rattle.std.proofs.Common.{if◌then◌else◌, sym, ap, ◌∙◌, append_assoc, arith}
use Rattle.std.specs.List.{slice_get}
use Rattle.std.proofs.Math.Seq.{take-nil}
use Rattle.std.proofs.lemmas.List.{append-nil, drop_more, map-append, reverse-append, take_all}
use Rattle.std.proofs.lemmas.Option.{get_or_from_slice_get, same_Some, slice_get_within}

-- an entry at a place, and the rest of the list
pub drop_there : {A : Type 0} (xs : List A) (i : ℕ) (x : A) → slice_get xs i ≡ Some x → drop i xs ≡ x ∷ drop (suc i) xs
drop_there {A} xs i x h =
    drop_more xs i x (slice_get_within xs i x h)
    ∙ ap (λ (z : A). z ∷ drop (i + 1) xs) (get_or_from_slice_get xs i x x h)
    ∙ ap (λ (n : ℕ). x ∷ drop n xs) (one_more i)
  where
    one_more : (n : ℕ) → n + 1 ≡ suc n
    one_more n = omega arith

module _ {A B : Type 0} (f : A → B) (p : A → Bool) where
  -- what an entry gives
  abbrev pub one : A → List B
  one x = if p x then f x ∷ [] else []

  -- what some entries give
  abbrev pub chosen : List A → List B
  chosen xs = map f (filter p xs)

  first_of : (x : A) (ys : List A) (b : Bool) → map f (cond b (x ∷ ys) ys) ≡ (if b then f x ∷ [] else []) ++ map f ys
  first_of x ys true = refl
  first_of x ys false = refl

  chosen-cons : (x : A) (xs : List A) → chosen (x ∷ xs) ≡ one x ++ chosen xs
  chosen-cons x xs = first_of x (filter p xs) (p x)

  last_of : (x : A) (ys : List A) (b : Bool) → map f (reverse (cond b (x ∷ ys) ys)) ≡ map f (reverse ys) ++ (if b then f x ∷ [] else [])
  last_of x ys true = ap (map f) (reverse-append (x ∷ []) ys) ∙ map-append f (reverse ys) (x ∷ [])
  last_of x ys false = sym (append-nil (map f (reverse ys)))

  -- one more entry in front, where the list is turned round
  pub turned-cons : (xs : List A) (i : ℕ) (x : A) → slice_get xs i ≡ Some x → map f (reverse (filter p (drop i xs))) ≡ map f (reverse (filter p (drop (suc i) xs))) ++ one x
  turned-cons xs i x h = ap (λ (w : List A). map f (reverse (filter p w))) (drop_there xs i x h) ∙ last_of x (filter p (drop (suc i) xs)) (p x)

  -- one more entry at the end
  pub chosen-next : (xs : List A) (i : ℕ) (x : A) → slice_get xs i ≡ Some x → chosen (take (suc i) xs) ≡ chosen (take i xs) ++ one x
  chosen-next [] i x h = absurd (cc)
  chosen-next (y ∷ xs) zero x h = chosen-cons y [] ∙ append-nil (one y) ∙ ap one (same_Some y x h)
  chosen-next (y ∷ xs) (suc i) x h =
      chosen-cons y (take (suc i) xs) ∙ ap (λ (w : List B). one y ++ w) (chosen-next xs i x h)
      ∙ sym (append_assoc (one y) (chosen (take i xs)) (one x))
      ∙ ap (λ (w : List B). w ++ one x) (sym (chosen-cons y (take i xs)))

  -- entries that give nothing
  pub chosen-skip : (xs : List A) (from k : ℕ) → from ≤ k → ((j : ℕ) (x : A) → from ≤ j → j < k → slice_get xs j ≡ Some x → p x ≡ false) → chosen (take k xs) ≡ chosen (take from xs)
  chosen-skip [] from k le h = ap chosen (take-nil k ∙ sym (take-nil from))
  chosen-skip (y ∷ xs) zero zero le h = refl
  chosen-skip (y ∷ xs) zero (suc k) le h =
      chosen-cons y (take k xs) ∙ ap (λ (b : Bool). (if b then f y ∷ [] else []) ++ chosen (take k xs)) (h 0 y (omega arith) (omega arith) refl)
      ∙ chosen-skip xs zero k (omega arith) (λ j x from_on below there. h (suc j) x (omega arith) (omega arith) there)
  chosen-skip (y ∷ xs) (suc from) zero le h = absurd (omega arith)
  chosen-skip (y ∷ xs) (suc from) (suc k) le h =
      chosen-cons y (take k xs)
      ∙ ap (λ (w : List B). one y ++ w) (chosen-skip xs from k (omega arith) (λ j x from_on below there. h (suc j) x (omega arith) (omega arith) there))
      ∙ sym (chosen-cons y (take from xs))

  -- from an entry on, none of those before gives any, and this one gives its own
  pub chosen-found : (xs : List A) (from k : ℕ) (x : A) → from ≤ k → slice_get xs k ≡ Some x → ((j : ℕ) (y : A) → from ≤ j → j < k → slice_get xs j ≡ Some y → p y ≡ false) →
      chosen (take (suc k) xs) ≡ chosen (take from xs) ++ one x
  chosen-found xs from k x le is h = chosen-next xs k x is ∙ ap (λ (w : List B). w ++ one x) (chosen-skip xs from k le h)

  -- none from here on gives any
  pub chosen-rest : (xs : List A) (from : ℕ) → from ≤ length xs → ((j : ℕ) (y : A) → from ≤ j → slice_get xs j ≡ Some y → p y ≡ false) → chosen (take from xs) ≡ chosen xs
  chosen-rest xs from le h = sym (chosen-skip xs from (length xs) le (λ j y from_on below there. h j y from_on there)) ∙ ap chosen (take_all (length xs) xs (omega arith))

-- a list that has grown
pub grown : {A : Type 0} {mid new s : List A} (old r p : List A) → new ≡ mid ++ p → mid ≡ old ++ r → s ≡ r ++ p → new ≡ old ++ s
grown {A} {mid} {new} {s} old r p last before all =
    last ∙ ap (λ (w : List A). w ++ p) before ∙ append_assoc old r p ∙ ap (λ (w : List A). old ++ w) (sym all)
