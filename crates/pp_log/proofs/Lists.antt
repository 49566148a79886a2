-- Lists: the positions of elements, and lists with one more, one less, or one set.
use Rattle.std.proofs.Common.{◌≡◌, ℕ, ◌<◌, ◌≤◌, ◌+◌, ◌-◌, zero, suc, Bool, not, cond, nat_lt, List, []}
use Rattle.std.proofs.Common.{◌∷◌, ◌++◌, length, take, drop, map, get_or, refl, sym, ◌∙◌, ap, arith}
use Rattle.std.proofs.Common.{inl, inr, Some, None}
use Rattle.std.specs.List.{slice_get, slice_set, remove, swap, position, position_or_len}
use Rattle.std.proofs.lemmas.List.{drop_more, get_or-append-add, length-drop}
use Rattle.std.proofs.lemmas.List.{length-map, take_all}
use Rattle.std.proofs.Math.Seq.{drop-append-add}
use Rattle.std.proofs.lemmas.Bool.{cases_lt}
use borrow.Author.Tests.{lt-ltb}
use Rattle.pp_model.specs.Lists.{In}

-- The pair of two values.
abbrev pub pair : {A B : Type 0} → A → B → A × B
pair a b = (a, b)

-- lists that are equal to the last item are equal before it, and so are the items
not_alone : {A : Type 0} (a b x : A) (xs : List A) → a ∷ [] ≡ b ∷ (xs ++ x ∷ []) → ⊥
not_alone a b x [] e = cc
not_alone a b x (y ∷ xs) e = cc

-- Equal lists with one element added to each have equal fronts and equal last elements.
pub push-injective : {A : Type 0} (xs ys : List A) (x y : A) → xs ++ x ∷ [] ≡ ys ++ y ∷ [] → (xs ≡ ys) × (x ≡ y)
push-injective [] [] x y e = let k : x ≡ y = cc in (refl, k)
push-injective [] (b ∷ ys) x y e = absurd (not_alone x b y ys e)
push-injective (a ∷ xs) [] x y e = absurd (not_alone y a x xs (sym e))
push-injective (a ∷ xs) (b ∷ ys) x y e =
    let first : a ≡ b = cc in
    let rest : xs ++ x ∷ [] ≡ ys ++ y ∷ [] = cc in
    let h = push-injective xs ys x y rest in
    let both : (a ∷ xs) ≡ (b ∷ ys) = let k = h.0 in cc in
    (both, h.1)

-- An element of a list is in the joined list, later by the length of the list before it.
pub found_behind : {A : Type 0} (before x : List A) (i j : ℕ) (a : A) → j ≡ length before + i → a ≡ get_or x i a → a ≡ get_or (before ++ x) j a
found_behind before x i j a e is = is ∙ sym (get_or-append-add before x i a) ∙ ap (λ (k : ℕ). get_or (before ++ x) k a) (sym e)

-- All that is after a position.
pub all_behind : {A : Type 0} (x : List A) (i : ℕ) → take (length x - i) (drop i x) ≡ drop i x
all_behind x i = let size = length-drop i x in take_all (length x - i) (drop i x) (omega arith)

-- To remove the element between two lists joins the lists.
pub remove_mid : {A : Type 0} (u v : List A) (e : A) → remove (u ++ e ∷ v) (length u) ≡ u ++ v
remove_mid [] v e = refl
remove_mid {A} (d ∷ u) v e = ap (λ (z : List A). d ∷ z) (remove_mid u v e)

-- Two that are one after the other.
pub get_second : {A : Type 0} (u v : List A) (d e f : A) (n : ℕ) → length u ≡ n → get_or (u ++ d ∷ e ∷ v) (n + 1) f ≡ e
get_second {A} u v d e f n is = ap (λ (k : ℕ). get_or (u ++ d ∷ e ∷ v) (k + 1) f) (sym is) ∙ get_or-append-add u (d ∷ e ∷ v) 1 f

set_both : {A : Type 0} (u v : List A) (d e f : A) → slice_set (slice_set (u ++ d ∷ e ∷ v) (length u) (get_or (u ++ d ∷ e ∷ v) (suc (length u)) f))
    (suc (length u)) (get_or (u ++ d ∷ e ∷ v) (length u) f) ≡ u ++ e ∷ d ∷ v
set_both [] v d e f = refl
set_both {A} (a ∷ u) v d e f = ap (λ (z : List A). a ∷ z) (set_both u v d e f)

swap_both : {A : Type 0} (u v : List A) (d e : A) → swap (u ++ d ∷ e ∷ v) (length u) (suc (length u)) ≡ u ++ e ∷ d ∷ v
swap_both [] v d e = refl
swap_both (a ∷ u) v d e = set_both (a ∷ u) v d e a

-- To swap the two elements between two lists turns their order.
pub swap_mid : {A : Type 0} (u v : List A) (d e : A) (n : ℕ) → length u ≡ n → swap (u ++ d ∷ e ∷ v) n (n + 1) ≡ u ++ e ∷ d ∷ v
swap_mid u v d e n is =
    ap (λ (k : ℕ). swap (u ++ d ∷ e ∷ v) k (n + 1)) (sym is) ∙ ap (swap (u ++ d ∷ e ∷ v) (length u)) (let next : n + 1 ≡ suc (length u) = omega arith in next) ∙ swap_both u v d e

-- The elements from a position on are the one there and those after it.
pub drop_there : {A : Type 0} (x : List A) (i : ℕ) (e : A) → i < length x → e ≡ get_or x i e → drop i x ≡ e ∷ drop (i + 1) x
drop_there {A} x i e h is = drop_more x i e h ∙ ap (λ (b : A). b ∷ drop (i + 1) x) (sym is)

-- The element right after a list is at the position that is the length of the list.
pub at_first : {A : Type 0} (before x : List A) (a : A) → slice_get (before ++ a ∷ x) (length before) ≡ Some a
at_first [] x a = refl
at_first (b ∷ before) x a = at_first before x a

-- To drop a list and the element after it leaves the rest.
pub behind_first : {A : Type 0} (before x : List A) (a : A) → drop (length before + 1) (before ++ a ∷ x) ≡ x
behind_first before x a = drop-append-add before (a ∷ x) 1

-- a list cut at an element
plus_one : (i : ℕ) → suc (i + 1) ≡ suc i + 1
plus_one i = omega arith

-- A list is its part before a position, the element there, and the part after it.
pub cut_there : {A : Type 0} (x : List A) (i : ℕ) (e : A) → i < length x → e ≡ get_or x i e → x ≡ take i x ++ e ∷ drop (i + 1) x
cut_there [] i e h is = absurd (omega arith)
cut_there {A} (a ∷ x) zero e h is = ap (λ (b : A). b ∷ x) (sym is)
cut_there {A} (a ∷ x) (suc i) e h is = ap (λ (z : List A). a ∷ z) (cut_there x i e (omega arith) is) ∙ ap (λ (k : ℕ). take (suc i) (a ∷ x) ++ e ∷ drop k (a ∷ x)) (plus_one i)

-- lists in which one element was set
pub set_same : {A : Type 0} (x : List A) (p : ℕ) (a : A) → p < length x → slice_get (slice_set x p a) p ≡ Some a
set_same [] p a h = absurd (omega arith)
set_same (b ∷ x) zero a h = refl
set_same (b ∷ x) (suc p) a h = set_same x p a (omega arith)

-- To set the element at a position leaves those at other positions.
pub set_other : {A : Type 0} (x : List A) (p r : ℕ) (a : A) → (p ≡ r → ⊥) → slice_get (slice_set x p a) r ≡ slice_get x r
set_other [] p r a n = refl
set_other (b ∷ x) zero zero a n = absurd (n refl)
set_other (b ∷ x) zero (suc r) a n = refl
set_other (b ∷ x) (suc p) zero a n = refl
set_other (b ∷ x) (suc p) (suc r) a n = set_other x p r a (λ e. n (ap suc e))

-- Each element of a list is at some position.
pub in_at : {A : Type 0} (x : List A) (a : A) → In a x → (j : ℕ) × (j < length x) × (slice_get x j ≡ Some a)
in_at [] a h = absurd h
in_at (b ∷ x) a h = elim h [
  | inl same ↦ (0, omega arith, ap Some (sym same))
  | inr later ↦ let r = in_at x a later in let lt : suc r.0 < length (b ∷ x) = omega arith in (suc r.0, lt, r.2)
]

-- An element of the first list has the same position in the joined list.
pub front_stays : {A : Type 0} (x y : List A) (j : ℕ) → j < length x → slice_get (x ++ y) j ≡ slice_get x j
front_stays [] y j h = absurd (omega arith)
front_stays (a ∷ x) y zero h = refl
front_stays (a ∷ x) y (suc j) h = front_stays x y j (omega arith)

-- The removal of an element leaves those before it at their positions.
pub before_stays : {A : Type 0} (x : List A) (i j : ℕ) → j < i → slice_get (remove x i) j ≡ slice_get x j
before_stays [] zero j h = absurd (omega arith)
before_stays [] (suc i) j h = refl
before_stays (a ∷ x) zero j h = absurd (omega arith)
before_stays (a ∷ x) (suc i) zero h = refl
before_stays (a ∷ x) (suc i) (suc j) h = before_stays x i j (omega arith)

-- lists that are mapped
pub mapped_from : {A B : Type 0} (f : A → B) (x : List A) (k : ℕ) (b : B) → slice_get (map f x) k ≡ Some b → (a : A) × (slice_get x k ≡ Some a) × (f a ≡ b)
mapped_from f [] k b h = cc
mapped_from f (a ∷ x) zero b h = (a, refl, cc)
mapped_from f (a ∷ x) (suc k) b h = mapped_from f x k b h

-- A mapped list stays the same if the element that is set has the image of the old one.
pub map_set_same : {A B : Type 0} (f : A → B) (x : List A) (i : ℕ) (b : A) → ((a : A) → slice_get x i ≡ Some a → f b ≡ f a) → map f (slice_set x i b) ≡ map f x
map_set_same f [] i b h = refl
map_set_same {A} {B} f (a ∷ x) zero b h = ap (λ (c : B). c ∷ map f x) (h a refl)
map_set_same {A} {B} f (a ∷ x) (suc i) b h = ap (λ (z : List B). f a ∷ z) (map_set_same f x i b h)

-- a list cut at the element at which the list that it is mapped to is cut
pub record IsCut {A B : Type 0} (f : A → B) (x : List A) (before : List B) (b : B) : Type 0 where
  pub front : List A
  pub entry : A
  pub back : List A
  pub is : x ≡ front ++ entry ∷ back
  pub front_is : map f front ≡ before
  pub entry_is : f entry ≡ b

-- If a mapped list is cut at an element, the list is cut at an element of which this is the image.
pub cut : {A B : Type 0} (f : A → B) (x : List A) (before after : List B) (b : B) → map f x ≡ before ++ b ∷ after → IsCut f x before b
cut f [] [] after b h = cc
cut f [] (c ∷ before) after b h = cc
cut f (a ∷ x) [] after b h = record { front = []; entry = a; back = x; is = refl; front_is = refl; entry_is = cc }
cut {A} {B} f (a ∷ x) (c ∷ before) after b h =
    let first : f a ≡ c = cc in
    let rest : map f x ≡ before ++ b ∷ after = cc in
    let r = cut f x before after b rest in
    record {
      front = a ∷ r.front;
      entry = r.entry;
      back = r.back;
      is = ap (λ (z : List A). a ∷ z) r.is;
      front_is = ap (λ (z : List B). f a ∷ z) r.front_is ∙ ap (λ (d : B). d ∷ before) first;
      entry_is = r.entry_is;
    }

-- The first position at which a test is true is the same in a list and in the list that it is mapped to.
place_of_same : {A B : Type 0} (f : A → B) (p : B → Bool) (q : A → Bool) → ((a : A) → p (f a) ≡ q a) → (x : List A) → position_or_len p (map f x) ≡ position_or_len q x
place_of_same f p q h [] = refl
place_of_same f p q h (a ∷ x) =
    ap (λ (b : Bool). cond (not b) (1 + position_or_len p (map f x)) 0) (h a) ∙ ap (λ (n : ℕ). cond (not (q a)) (1 + n) 0) (place_of_same f p q h x)

-- A test of the images first holds at the position at which the test of the elements does.
pub same_position : {A B : Type 0} (f : A → B) (p : B → Bool) (q : A → Bool) → ((a : A) → p (f a) ≡ q a) → (x : List A) → position p (map f x) ≡ position q x
same_position f p q h x =
    ap (λ (n : ℕ). cond (nat_lt n (length (map f x))) (Some n) None) (place_of_same f p q h x)
    ∙ ap (λ (m : ℕ). cond (nat_lt (position_or_len q x) m) (Some (position_or_len q x)) None) (length-map x f)

-- If no element passes a test, `position_or_len` is at least the length of the list.
pub none_len : {A : Type 0} (p : A → Bool) (x : List A) → position p x ≡ None → length x ≤ position_or_len p x
none_len p x h = elim (cases_lt (position_or_len p x) (length x)) [
  | inl l ↦ let there : position p x ≡ Some (position_or_len p x) = ap (λ (b : Bool). cond b (Some (position_or_len p x)) None) (lt-ltb (position_or_len p x) (length x) l) in
      let both : Some (position_or_len p x) ≡ None = sym there ∙ h in cc
  | inr l ↦ l
]

-- Setting an element after a first list sets it in the second list.
pub set_behind : {A : Type 0} (x y : List A) (i n : ℕ) (a : A) → n ≡ length x + i → slice_set (x ++ y) n a ≡ x ++ slice_set y i a
set_behind {A} [] y i n a e = let same : n ≡ i = omega arith in ap (λ (k : ℕ). slice_set y k a) same
set_behind (b ∷ x) y i zero a e = absurd (omega arith)
set_behind {A} (b ∷ x) y i (suc n) a e = ap (λ (z : List A). b ∷ z) (set_behind x y i n a (omega arith))

-- To set the element between two lists replaces it.
pub set_mid : {A : Type 0} (x y : List A) (a b : A) → slice_set (x ++ a ∷ y) (length x) b ≡ x ++ b ∷ y
set_mid [] y a b = refl
set_mid {A} (c ∷ x) y a b = ap (λ (z : List A). c ∷ z) (set_mid x y a b)

-- A list of one item has none after it.
pub only_one : {X : Type 0} (x : X) (l : List X) → length (x ∷ l) ≡ 1 → l ≡ []
only_one x [] h = refl
only_one x (z ∷ l) h = absurd (omega arith)
