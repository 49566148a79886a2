-- Tests, positions and lookups in lists.
use Rattle.std.proofs.Common.{◌≡◌, ◌↔◌, IsTrue, ℕ, zero, suc, ◌<◌, ◌≤◌, Bool, true, false, cond}
use Rattle.std.proofs.Common.{◌||◌, List, [], ◌∷◌, ◌++◌, length, Option, Some, None, position, nat_lt, find}
use Rattle.std.proofs.Common.{slice_get, reverse, refl, sym, ◌∙◌, ap, subst, arith, inl, inr}
use Rattle.std.specs.List.{list_any, position_or_len}
use Rattle.std.proofs.lemmas.Bool.{ltb-false}
use Rattle.std.proofs.lemmas.List.{reverse-append}
use Rattle.std.proofs.lemmas.List.Folds.{find_at}
use Rattle.std.proofs.lemmas.List.Quantifiers.{position-Some}
use Rattle.std.proofs.lemmas.Option.{slice_get_past}
use Rattle.pp_model.specs.Lists.{In}
use Rattle.pp_model.proofs.Lists.{in_cases, in_left, in_right}
use Rattle.pp_model.proofs.Logs.{found}

-- An element at a position of a list is in the list.
pub stands_in : {A : Type 0} (x : List A) (i : ℕ) (a : A) → slice_get x i ≡ Some a → In a x
stands_in [] i a h = cc
stands_in (b ∷ x) zero a h = inl cc
stands_in (b ∷ x) (suc i) a h = inr (stands_in x i a h)

-- A list has an element at each position below its length.
pub not_past : {A : Type 0} (x : List A) (k : ℕ) → k < length x → slice_get x k ≡ None → ⊥
not_past [] k h at = absurd (omega arith)
not_past (a ∷ x) zero h at = cc
not_past (a ∷ x) (suc k) h at = not_past x k (omega arith) at

-- the first place of a test
place_is : (n m i : ℕ) (b : Bool) → cond b (Some n) None ≡ Some i → n ≡ i
place_is n m i true e = cc
place_is n m i false e = absurd (cc)

place_past : (n m : ℕ) (b : Bool) → nat_lt n m ≡ b → cond b (Some n) None ≡ None → m ≤ n
place_past n m true e k = absurd (cc)
place_past n m false e k = ltb-false n m e

place_or_len : {X : Type 0} (p : X → Bool) (xs : List X) (i : ℕ) → position p xs ≡ Some i → position_or_len p xs ≡ i
place_or_len p xs i h = place_is (position_or_len p xs) (length xs) i (nat_lt (position_or_len p xs) (length xs)) h

-- If `position` returns the position i, `find` returns the element at i.
pub place_find : {X : Type 0} (p : X → Bool) (xs : List X) (i : ℕ) → position p xs ≡ Some i → find p xs ≡ slice_get xs i
place_find p xs i h = find_at p xs ∙ ap (slice_get xs) (place_or_len p xs i h)

-- If `position` returns none, `find` returns none.
pub place_none : {X : Type 0} (p : X → Bool) (xs : List X) → position p xs ≡ None → find p xs ≡ None
place_none p xs h = find_at p xs ∙ slice_get_past xs (position_or_len p xs) (place_past (position_or_len p xs) (length xs) (nat_lt (position_or_len p xs) (length xs)) refl h)

-- The position that `position` returns is not past the end of the list.
pub place_there : {X : Type 0} (p : X → Bool) (xs : List X) (i : ℕ) → position p xs ≡ Some i → slice_get xs i ≡ None → ⊥
place_there p [] i h e = absurd (cc)
place_there p (y ∷ ys) i h e = not_past (y ∷ ys) i (position-Some p (y ∷ ys) i y h).0 e

-- If `position` returns i, and x is the element at i, `find` returns x.
pub place_found : {X : Type 0} (p : X → Bool) (xs : List X) (i : ℕ) (x : X) → position p xs ≡ Some i → slice_get xs i ≡ Some x → find p xs ≡ Some x
place_found p xs i x h e = place_find p xs i h ∙ e

-- If `find` returns none, no element of the list passes the test.
pub find_nowhere : {X : Type 0} (p : X → Bool) (xs : List X) → find p xs ≡ None → (x : X) → In x xs → p x ≡ false
find_nowhere p [] h x i = elim i [ ]
find_nowhere {X} p (y ∷ ys) h x i = go (p y) refl h i (λ k j. find_nowhere p ys k x j)
  where
    go : (b : Bool) → p y ≡ b → cond b (Some y) (find p ys) ≡ None → In x (y ∷ ys) → (find p ys ≡ None → In x ys → p x ≡ false) → p x ≡ false
    go true e k j f = absurd (cc)
    go false e k (inl j) f = ap p j ∙ e
    go false e k (inr j) f = f k j

-- tests of some and of all
pub any_in : {X : Type 0} (p : X → Bool) (xs : List X) → list_any p xs ≡ true → (x : X) × In x xs × (p x ≡ true)
any_in p [] h = absurd (cc)
any_in {X} p (y ∷ ys) h = go (p y) refl h (λ k. any_in p ys k)
  where
    go : (b : Bool) → p y ≡ b → (b || list_any p ys) ≡ true → (list_any p ys ≡ true → (x : X) × In x ys × (p x ≡ true)) → (x : X) × In x (y ∷ ys) × (p x ≡ true)
    go true e k f = (y, inl refl, e)
    go false e k f = let r = f k in (r.0, inr r.1, r.2)

or_false : (a b : Bool) → (a || b) ≡ false → (a ≡ false) × (b ≡ false)
or_false true b e = absurd (cc)
or_false false b e = (refl, e)

-- If `list_any` is false, no element of the list passes the test.
pub none_in : {X : Type 0} (p : X → Bool) (xs : List X) → list_any p xs ≡ false → (x : X) → In x xs → p x ≡ false
none_in p [] h x i = elim i [ ]
none_in p (y ∷ ys) h x (inl e) = ap p e ∙ (or_false (p y) (list_any p ys) h).0
none_in p (y ∷ ys) h x (inr j) = none_in p ys (or_false (p y) (list_any p ys) h).1 x j

-- a list turned round
pub reverse_more : {X : Type 0} (xs : List X) (x : X) → reverse (xs ++ x ∷ []) ≡ x ∷ reverse xs
reverse_more xs x = reverse-append xs (x ∷ [])

-- An element of a reversed list is an element of the list.
pub from_reverse : {X : Type 0} (x : X) (xs : List X) → In x (reverse xs) → In x xs
from_reverse x [] h = h
from_reverse {X} x (y ∷ ys) h = elim (in_cases x (reverse ys) (y ∷ []) (subst (λ (w : List X). In x w) (reverse-append (y ∷ []) ys) h)) [
  | inl j ↦ inr (from_reverse x ys j)
  | inr (inl e) ↦ inl e
  | inr (inr j) ↦ absurd j
]

-- An element of a list is an element of the reversed list.
pub in_reverse : {X : Type 0} (x : X) (xs : List X) → In x xs → In x (reverse xs)
in_reverse x [] h = h
in_reverse {X} x (y ∷ ys) (inl e) = subst (λ (w : List X). In x w) (sym (reverse-append (y ∷ []) ys)) (in_right x (reverse ys) (y ∷ []) (inl e))
in_reverse {X} x (y ∷ ys) (inr j) = subst (λ (w : List X). In x w) (sym (reverse-append (y ∷ []) ys)) (in_left x (reverse ys) (y ∷ []) (in_reverse x ys j))

-- a test and what it decides
pub decided : (b : Bool) (P : Type 0) → IsTrue b ↔ P → b ≡ true → P
decided b P h e = h.0 e

-- If a test decides a property and is false, the property is false.
pub decided_not : (b : Bool) (P : Type 0) → IsTrue b ↔ P → b ≡ false → P → ⊥
decided_not b P h e p = let k : true ≡ false = sym (h.1 p) ∙ e in cc

-- If `position` returns i, there is an element at i, and it passes the test.
pub placed : {X : Type 0} (p : X → Bool) (xs : List X) (i : ℕ) → position p xs ≡ Some i → (x : X) × (slice_get xs i ≡ Some x) × (p x ≡ true)
placed {X} p xs i h = go (slice_get xs i) refl
  where
    go : (r : Option X) → slice_get xs i ≡ r → (x : X) × (slice_get xs i ≡ Some x) × (p x ≡ true)
    go None e = absurd (place_there p xs i h e)
    go (Some x) e = (x, e, (found p xs x (place_found p xs i x h e)).1)

-- a test that fails of each element
pub nowhere : {X : Type 0} (p : X → Bool) (xs : List X) → ((x : X) → In x xs → p x ≡ false) → position p xs ≡ None
nowhere {X} p xs n = go (position p xs) refl
  where
    go : (r : Option ℕ) → position p xs ≡ r → r ≡ None
    go None e = refl
    go (Some i) e = let k = placed p xs i e in let z : true ≡ false = sym k.2 ∙ n k.0 (stands_in xs i k.0 k.1) in absurd (cc)
