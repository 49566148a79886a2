-- The first position at which a test is true, in a list and in a part of it.
use Rattle.std.proofs.Common.{◌≡◌, ℕ, zero, suc, ◌<◌, ◌≤◌, ◌+◌, ◌-◌, Bool, true, false, not, cond}
use Rattle.std.proofs.Common.{nat_lt, List, [], ◌∷◌, length, take, drop, Option, Some, None}
use Rattle.std.proofs.Common.{option_map, position, slice_get, refl, sym, ◌∙◌, ap, arith, inl, inr}
use Rattle.std.specs.List.{position_or_len}
use Rattle.std.proofs.lemmas.Bool.{cases_lt, le-ltb, ltb-true}
use Rattle.std.proofs.lemmas.List.{drop-take, length-drop}
use borrow.Author.Tests.{lt-ltb}
use Rattle.pp_model.specs.Lists.{In}
use Rattle.pp_model.proofs.Finding.{stands_in, nowhere}
use Rattle.pp_log.proofs.Lists.{in_at}

lt_suc : (n m : ℕ) → nat_lt (1 + n) (suc m) ≡ nat_lt n m
lt_suc n m = elim (cases_lt n m) [
  | inl l ↦ lt-ltb (1 + n) (suc m) (omega arith) ∙ sym (lt-ltb n m l)
  | inr l ↦ le-ltb (1 + n) (suc m) (omega arith) ∙ sym (le-ltb n m l)
]

plus_none : (n : ℕ) → n ≡ 0 + n
plus_none n = omega arith

plus_one : (n : ℕ) → 1 + n ≡ suc n
plus_one n = omega arith

plus_more : (n m : ℕ) → suc (n + m) ≡ suc n + m
plus_more n m = omega arith

later : (n : ℕ) (b : Bool) → cond b (Some (1 + n)) None ≡ option_map suc (cond b (Some n) None)
later n true = ap (λ (k : ℕ). Some k) (plus_one n)
later n false = refl

-- a test that fails, or holds, of the first element
pub passed : {X : Type 0} (p : X → Bool) (x : X) (xs : List X) → p x ≡ false → position p (x ∷ xs) ≡ option_map suc (position p xs)
passed p x xs h =
    let n = position_or_len p xs in
    let front : position_or_len p (x ∷ xs) ≡ 1 + n = ap (λ (b : Bool). cond (not b) (1 + n) 0) h in
    ap (λ (k : ℕ). cond (nat_lt k (suc (length xs))) (Some k) None) front
    ∙ ap (λ (b : Bool). cond b (Some (1 + n)) None) (lt_suc n (length xs))
    ∙ later n (nat_lt n (length xs))

-- If the first element passes a test, the test first holds at position 0.
pub met : {X : Type 0} (p : X → Bool) (x : X) (xs : List X) → p x ≡ true → position p (x ∷ xs) ≡ Some 0
met p x xs h =
    let front : position_or_len p (x ∷ xs) ≡ 0 = ap (λ (b : Bool). cond (not b) (1 + position_or_len p xs) 0) h in
    ap (λ (k : ℕ). cond (nat_lt k (suc (length xs))) (Some k) None) front
    ∙ ap (λ (b : Bool). cond b (Some 0) None) (lt-ltb 0 (suc (length xs)) (omega arith))

-- elements of a front, and of a rest
pub get_taken : {X : Type 0} (xs : List X) (n j : ℕ) (x : X) → slice_get (take n xs) j ≡ Some x → slice_get xs j ≡ Some x
get_taken xs zero j x h = absurd (cc)
get_taken [] (suc n) j x h = absurd (cc)
get_taken (y ∷ ys) (suc n) zero x h = h
get_taken (y ∷ ys) (suc n) (suc j) x h = get_taken ys n j x h

taken_within : {X : Type 0} (xs : List X) (n j : ℕ) (x : X) → slice_get (take n xs) j ≡ Some x → j < n
taken_within xs zero j x h = absurd (cc)
taken_within [] (suc n) j x h = absurd (cc)
taken_within (y ∷ ys) (suc n) zero x h = omega arith
taken_within (y ∷ ys) (suc n) (suc j) x h = let k = taken_within ys n j x h in omega arith

-- The element at j after n elements were dropped is the one at n + j before.
pub get_dropped : {X : Type 0} (xs : List X) (n j : ℕ) → slice_get (drop n xs) j ≡ slice_get xs (n + j)
get_dropped xs zero j = ap (slice_get xs) (plus_none j)
get_dropped [] (suc n) j = refl
get_dropped (y ∷ ys) (suc n) j = get_dropped ys n j ∙ ap (slice_get (y ∷ ys)) (plus_more n j)

-- An element of the first n elements is an element of the list.
pub in_front : {X : Type 0} (xs : List X) (n : ℕ) (x : X) → In x (take n xs) → In x xs
in_front xs n x i = let r = in_at (take n xs) x i in stands_in xs r.0 x (get_taken xs n r.0 x r.2)

-- An element of what is after the first n elements is an element of the list.
pub in_rest : {X : Type 0} (xs : List X) (n : ℕ) (x : X) → In x (drop n xs) → In x xs
in_rest xs n x i = let r = in_at (drop n xs) x i in stands_in xs (n + r.0) x (sym (get_dropped xs n r.0) ∙ r.2)

-- a test that fails of the first n elements
same_place : (o : Option ℕ) → o ≡ option_map (λ k. 0 + k) o
same_place None = refl
same_place (Some k) = ap (λ (m : ℕ). Some m) (plus_none k)

later_place : (n : ℕ) (o : Option ℕ) → option_map suc (option_map (λ k. n + k) o) ≡ option_map (λ k. suc n + k) o
later_place n None = refl
later_place n (Some k) = ap (λ (m : ℕ). Some m) (plus_more n k)

-- If a test fails for the first n elements, its position is n plus that among the others.
pub skip : {X : Type 0} (p : X → Bool) (xs : List X) (n : ℕ) → ((j : ℕ) (x : X) → j < n → slice_get xs j ≡ Some x → p x ≡ false) → position p xs ≡ option_map (λ k. n + k) (position p (drop n xs))
skip p xs zero h = same_place (position p xs)
skip p [] (suc n) h = refl
skip p (x ∷ xs) (suc n) h =
    passed p x xs (h 0 x (omega arith) refl)
    ∙ ap (option_map suc) (skip p xs n (λ j y lt at. h (suc j) y (omega arith) at))
    ∙ later_place n (position p (drop n xs))

-- a test that fails of all from the n-th on
cut_head : {X : Type 0} (p : X → Bool) (x : X) (xs ys : List X) (b : Bool) → p x ≡ b → position p xs ≡ position p ys → position p (x ∷ xs) ≡ position p (x ∷ ys)
cut_head p x xs ys true h e = met p x xs h ∙ sym (met p x ys h)
cut_head p x xs ys false h e = passed p x xs h ∙ ap (option_map suc) e ∙ sym (passed p x ys h)

-- If a test fails for all elements from n on, its position is that among the first n.
pub cut : {X : Type 0} (p : X → Bool) (xs : List X) (n : ℕ) → ((j : ℕ) (x : X) → n ≤ j → slice_get xs j ≡ Some x → p x ≡ false) → position p (take n xs) ≡ position p xs
cut p xs zero h = sym (nowhere p xs (λ x i. let r = in_at xs x i in h r.0 x (omega arith) r.2))
cut p [] (suc n) h = refl
cut p (x ∷ xs) (suc n) h = cut_head p x (take n xs) xs (p x) refl (cut p xs n (λ j y le at. h (suc j) y (omega arith) at))

-- A search from n on finds the first position before i, if the test is false for the first n.
pub before_from : {X : Type 0} (p : X → Bool) (xs : List X) (n i : ℕ) (r : Option ℕ) → n ≤ i → ((j : ℕ) (x : X) → j < n → slice_get xs j ≡ Some x → p x ≡ false) → r ≡ position p (take (i - n) (drop n xs)) → option_map (λ k. n + k) r ≡ position p (take i xs)
before_from {X} p xs n i r le h is =
    let all : n + (i - n) ≡ i = omega arith in
    let part : drop n (take i xs) ≡ take (i - n) (drop n xs) = ap (λ (k : ℕ). drop n (take k xs)) (sym all) ∙ drop-take n (i - n) xs in
    ap (option_map (λ (k : ℕ). n + k)) (is ∙ ap (position p) (sym part))
    ∙ sym (skip p (take i xs) n (λ j x lt at. h j x lt (get_taken xs i j x at)))

-- If a test fails for the first n elements, it has no position among the first i of them.
pub none_before : {X : Type 0} (p : X → Bool) (xs : List X) (n i : ℕ) → i ≤ n → ((j : ℕ) (x : X) → j < n → slice_get xs j ≡ Some x → p x ≡ false) → None ≡ position p (take i xs)
none_before p xs n i le h =
    sym (nowhere p (take i xs) (λ x m.
    let r = in_at (take i xs) x m in
    let lt = taken_within xs i r.0 x r.2 in
    h r.0 x (omega arith) (get_taken xs i r.0 x r.2)))

-- A search from n to m finds the first position from n on, if the test is false from m on.
pub from_before : {X : Type 0} (p : X → Bool) (xs : List X) (n m : ℕ) (r : Option ℕ) → ((j : ℕ) (x : X) → m ≤ j → slice_get xs j ≡ Some x → p x ≡ false) → r ≡ position p (take (m - n) (drop n xs)) → option_map (λ k. n + k) r ≡ option_map (λ k. n + k) (position p (drop n xs))
from_before {X} p xs n m r h is =
    ap (option_map (λ (k : ℕ). n + k))
    (is ∙ cut p (drop n xs) (m - n) (λ j x le at. h (n + j) x (omega arith) (sym (get_dropped xs n j) ∙ at)))

-- If a test fails for all elements from m on, it has no position from a later n on.
pub none_from : {X : Type 0} (p : X → Bool) (xs : List X) (n m : ℕ) → m ≤ n → ((j : ℕ) (x : X) → m ≤ j → slice_get xs j ≡ Some x → p x ≡ false) → None ≡ option_map (λ k. n + k) (position p (drop n xs))
none_from {X} p xs n m le h =
    sym (ap (option_map (λ (k : ℕ). n + k)) (nowhere p (drop n xs) (λ x i.
    let r = in_at (drop n xs) x i in
    h (n + r.0) x (omega arith) (sym (get_dropped xs n r.0) ∙ r.2))))

-- a place that was found lies within its list
within_len : (n m k : ℕ) (b : Bool) → nat_lt n m ≡ b → cond b (Some n) None ≡ Some k → k < m
within_len n m k true h e = let l = ltb-true n m h in let same : n ≡ k = cc in omega arith
within_len n m k false h e = absurd (cc)

-- A position that a search found is below the length of the list.
pub place_within : {X : Type 0} (p : X → Bool) (xs : List X) (k : ℕ) → position p xs ≡ Some k → k < length xs
place_within p xs k h = within_len (position_or_len p xs) (length xs) k (nat_lt (position_or_len p xs) (length xs)) refl h

-- a place that was found from the n-th on
pub found_from : {X : Type 0} (p : X → Bool) (xs : List X) (n k : ℕ) → Some k ≡ option_map (λ j. n + j) (position p (drop n xs)) → (j : ℕ) × (position p (drop n xs) ≡ Some j) × (k ≡ n + j)
found_from {X} p xs n k is = go (position p (drop n xs)) refl is
  where
    go : (r : Option ℕ) → position p (drop n xs) ≡ r → Some k ≡ option_map (λ j. n + j) r → (j : ℕ) × (position p (drop n xs) ≡ Some j) × (k ≡ n + j)
    go None e same = absurd (cc)
    go (Some j) e same = let there : k ≡ n + j = cc in (j, e, there)

-- If no position from n on was found, the search in the rest of the list found none.
pub not_found_from : {X : Type 0} (p : X → Bool) (xs : List X) (n : ℕ) → None ≡ option_map (λ j. n + j) (position p (drop n xs)) → position p (drop n xs) ≡ None
not_found_from {X} p xs n is = go (position p (drop n xs)) refl is
  where
    go : (r : Option ℕ) → position p (drop n xs) ≡ r → None ≡ option_map (λ j. n + j) r → position p (drop n xs) ≡ None
    go None e same = e
    go (Some j) e same = absurd (cc)

-- A position that a search from n on found is below the length of the list.
pub from_within : {X : Type 0} (p : X → Bool) (xs : List X) (n k : ℕ) → Some k ≡ option_map (λ j. n + j) (position p (drop n xs)) → k < length xs
from_within p xs n k is =
    let r = found_from p xs n k is in
    let l = place_within p (drop n xs) r.0 r.1 in
    let size = length-drop n xs in
    let there = r.2 in
    omega arith

-- An element that a search in the rest of a list finds is at its position in the rest.
pub stands_from : {X : Type 0} (p : X → Bool) (xs : List X) (n k : ℕ) (x : X) → Some k ≡ option_map (λ j. n + j) (position p (drop n xs)) → slice_get xs k ≡ Some x → (j : ℕ) × (position p (drop n xs) ≡ Some j) × (slice_get (drop n xs) j ≡ Some x)
stands_from {X} p xs n k x is at =
    let r = found_from p xs n k is in
    (r.0, r.1, get_dropped xs n r.0 ∙ ap (slice_get xs) (sym r.2) ∙ at)
