use Rattle.std.proofs.Common.{append-nil, ◌≡◌, ℕ, ◌<◌, ◌+◌, suc, map, take, drop, get_or, ◌==◌, Bool, true, false, cond, filter}
use Rattle.std.proofs.Common.{List, [], ◌∷◌, ◌++◌, length, refl, sym, ◌∙◌, ap, arith, eq-eqb, ◌⊎◌}
use Rattle.std.proofs.Common.{inl, inr, append_assoc, length-append, zero}
use Rattle.std.proofs.lemmas.List.{get_or-append-add, length_push, map-append, map_push, take-append-drop, take_more}
use Rattle.std.proofs.lemmas.Bool.{ne_eqb}
use Rattle.std.proofs.lemmas.Bool.Decides.{eqb_tells}
use Rattle.pp_core.specs.declared.entry.Item.{Item}
use Rattle.pp_model.specs.Lists.{In}
use Rattle.pp_model.specs.Object.{ops}
use Rattle.pp_log.specs.Parts.{there, elsewhere, items_on, with_first}
use Rattle.pp_log.specs.TakesOut.{itself}
use Rattle.pp_log.proofs.Lists.{found_behind}

-- Lists of items and their parts by places.
pub ops-append : {Op : Type 0} (x y : List (Item Op)) → ops (x ++ y) ≡ ops x ++ ops y
ops-append [] y = refl
ops-append {Op} (e ∷ x) y = ap (λ (z : List Op). e.op ∷ z) (ops-append x y)

module _ {Op : Type 0} (place : Op → ℕ) where
  -- an item is at a place or not
  pub is_at : (e : Item Op) (p : ℕ) → (place e.op ≡ p) ⊎ (place e.op ≡ p → ⊥)
  is_at e p = elim (eqb_tells (place e.op) p) [ inl h ↦ inl h.1 | inr h ↦ inr h.1 ]

  -- An item with the place, before a list, is the first of the items of the place.
  pub there_at : (p : ℕ) (e : Item Op) (x : List (Item Op)) → place e.op ≡ p → there place p (e ∷ x) ≡ e ∷ there place p x
  there_at p e x h = ap (λ (b : Bool). cond b (e ∷ there place p x) (there place p x)) (eq-eqb (place e.op) p h)

  -- An item of another place, before a list, adds nothing to the items of the place.
  pub there_off : (p : ℕ) (e : Item Op) (x : List (Item Op)) → (place e.op ≡ p → ⊥) → there place p (e ∷ x) ≡ there place p x
  there_off p e x h = ap (λ (b : Bool). cond b (e ∷ there place p x) (there place p x)) (ne_eqb (place e.op) p h)

  -- An item with the place, before a list, adds nothing to the items of the other places.
  pub elsewhere_at : (p : ℕ) (e : Item Op) (x : List (Item Op)) → place e.op ≡ p → elsewhere place p (e ∷ x) ≡ elsewhere place p x
  elsewhere_at p e x h = ap (λ (b : Bool). cond b (elsewhere place p x) (e ∷ elsewhere place p x)) (eq-eqb (place e.op) p h)

  -- An item of another place, before a list, is the first of the items of the other places.
  pub elsewhere_off : (p : ℕ) (e : Item Op) (x : List (Item Op)) → (place e.op ≡ p → ⊥) → elsewhere place p (e ∷ x) ≡ e ∷ elsewhere place p x
  elsewhere_off p e x h = ap (λ (b : Bool). cond b (elsewhere place p x) (e ∷ elsewhere place p x)) (ne_eqb (place e.op) p h)

  -- The items of a place in joined lists are those of the first, then those of the second.
  pub there-append : (p : ℕ) (x y : List (Item Op)) → there place p (x ++ y) ≡ there place p x ++ there place p y
  there-append p [] y = refl
  there-append p (e ∷ x) y = elim (is_at e p) [
    | inl h ↦ there_at p e (x ++ y) h ∙ ap (λ (z : List (Item Op)). e ∷ z) (there-append p x y) ∙ ap (λ (z : List (Item Op)). z ++ there place p y) (sym (there_at p e x h))
    | inr h ↦ there_off p e (x ++ y) h ∙ there-append p x y ∙ ap (λ (z : List (Item Op)). z ++ there place p y) (sym (there_off p e x h))
  ]

  -- The items of the other places in joined lists are those of the first, then of the second.
  pub elsewhere-append : (p : ℕ) (x y : List (Item Op)) → elsewhere place p (x ++ y) ≡ elsewhere place p x ++ elsewhere place p y
  elsewhere-append p [] y = refl
  elsewhere-append p (e ∷ x) y = elim (is_at e p) [
    | inl h ↦ elsewhere_at p e (x ++ y) h ∙ elsewhere-append p x y ∙ ap (λ (z : List (Item Op)). z ++ elsewhere place p y) (sym (elsewhere_at p e x h))
    | inr h ↦ elsewhere_off p e (x ++ y) h ∙ ap (λ (z : List (Item Op)). e ∷ z) (elsewhere-append p x y) ∙ ap (λ (z : List (Item Op)). z ++ elsewhere place p y) (sym (elsewhere_off p e x h))
  ]

  -- To take the items of a place twice takes the same.
  pub there_twice : (p : ℕ) (x : List (Item Op)) → there place p (there place p x) ≡ there place p x
  there_twice p [] = refl
  there_twice p (e ∷ x) = elim (is_at e p) [
    | inl h ↦ ap (there place p) (there_at p e x h) ∙ there_at p e (there place p x) h ∙ ap (λ (z : List (Item Op)). e ∷ z) (there_twice p x) ∙ sym (there_at p e x h)
    | inr h ↦ ap (there place p) (there_off p e x h) ∙ there_twice p x ∙ sym (there_off p e x h)
  ]

  -- No item of a place is among the items of the other places.
  pub there_of_elsewhere : (p : ℕ) (x : List (Item Op)) → there place p (elsewhere place p x) ≡ []
  there_of_elsewhere p [] = refl
  there_of_elsewhere p (e ∷ x) = elim (is_at e p) [
    | inl h ↦ ap (there place p) (elsewhere_at p e x h) ∙ there_of_elsewhere p x
    | inr h ↦ ap (there place p) (elsewhere_off p e x h) ∙ there_off p e (elsewhere place p x) h ∙ there_of_elsewhere p x
  ]

  -- The items of a place are the same in a list without the items of another place.
  pub there_of_others : (p q : ℕ) (x : List (Item Op)) → (p ≡ q → ⊥) → there place q (elsewhere place p x) ≡ there place q x
  there_of_others p q [] n = refl
  there_of_others p q (e ∷ x) n = elim (is_at e p) [
    | inl h ↦ ap (there place q) (elsewhere_at p e x h) ∙ there_of_others p q x n ∙ sym (there_off q e x (λ k. n (sym h ∙ k)))
    | inr h ↦ ap (there place q) (elsewhere_off p e x h) ∙ elim (is_at e q) [
      | inl k ↦ there_at q e (elsewhere place p x) k ∙ ap (λ (z : List (Item Op)). e ∷ z) (there_of_others p q x n) ∙ sym (there_at q e x k)
      | inr k ↦ there_off q e (elsewhere place p x) k ∙ there_of_others p q x n ∙ sym (there_off q e x k)
    ]
  ]

  -- No item of one place is among the items of another place.
  pub others_of_there : (p q : ℕ) (x : List (Item Op)) → (p ≡ q → ⊥) → there place q (there place p x) ≡ []
  others_of_there p q [] n = refl
  others_of_there p q (e ∷ x) n = elim (is_at e p) [
    | inl h ↦ ap (there place q) (there_at p e x h) ∙ there_off q e (there place p x) (λ k. n (sym h ∙ k)) ∙ others_of_there p q x n
    | inr h ↦ ap (there place q) (there_off p e x h) ∙ others_of_there p q x n
  ]

  -- the items of the other places, and then those of the place, have at each place the items of the
  -- list
  pub parted : (p q : ℕ) (x : List (Item Op)) → there place q (elsewhere place p x ++ there place p x) ≡ there place q x
  parted p q x = there-append q (elsewhere place p x) (there place p x) ∙ elim (eqb_tells p q) [
    | inl h ↦ ap (λ (r : ℕ). there place r (elsewhere place p x) ++ there place r (there place p x)) (sym h.1) ∙ ap (λ (z : List (Item Op)). z ++ there place p (there place p x)) (there_of_elsewhere p x) ∙ there_twice p x ∙ ap (λ (r : ℕ). there place r x) h.1
    | inr h ↦ ap (λ (z : List (Item Op)). there place q (elsewhere place p x) ++ z) (others_of_there p q x h.1) ∙ append-nil (there place q (elsewhere place p x)) ∙ there_of_others p q x h.1
  ]

  -- The items of a place and those of the others are together as many as the list has.
  pub length-parts : (p : ℕ) (x : List (Item Op)) → length (elsewhere place p x) + length (there place p x) ≡ length x
  length-parts p [] = refl
  length-parts p (e ∷ x) = let IH = length-parts p x in elim (is_at e p) [
    | inl h ↦ let a : length (elsewhere place p (e ∷ x)) ≡ length (elsewhere place p x) = ap length (elsewhere_at p e x h) in let b : length (there place p (e ∷ x)) ≡ length (e ∷ there place p x) = ap length (there_at p e x h) in omega arith
    | inr h ↦ let a : length (elsewhere place p (e ∷ x)) ≡ length (e ∷ elsewhere place p x) = ap length (elsewhere_off p e x h) in let b : length (there place p (e ∷ x)) ≡ length (there place p x) = ap length (there_off p e x h) in omega arith
  ]

-- How many have a place.
more_or_not : {A B : Type 0} (b : Bool) (a : A) (c : B) (x : List A) (y : List B) → length x ≡ length y → length (cond b (a ∷ x) x) ≡ length (cond b (c ∷ y) y)
more_or_not true a c x y h = ap suc h
more_or_not false a c x y h = h

-- A place has as many items as the list has operations with this place.
pub there_count : {Op : Type 0} (place : Op → ℕ) (p : ℕ) (x : List (Item Op)) → length (there place p x) ≡ length (filter (λ b. place b == p) (ops x))
there_count place p [] = refl
there_count place p (e ∷ x) = more_or_not (place e.op == p) e e.op (there place p x) (filter (λ b. place b == p) (ops x)) (there_count place p x)

-- The items of a place among the first entries, and one entry more.
module _ {E Op : Type 0} (place : Op → ℕ) (f : E → Item Op) (p : ℕ) (x : List E) (i : ℕ) (d : E) (h : i < length x) (is : d ≡ get_or x i d) where
  abbrev front : List (Item Op)
  front = there place p (map f (take i x))

  longer : there place p (map f (take (i + 1) x)) ≡ front ++ there place p (f d ∷ [])
  longer =
      ap (λ (z : List E). there place p (map f z)) (take_more x i d h ∙ ap (λ (b : E). take i x ++ b ∷ []) (sym is))
      ∙ ap (there place p) (map_push f (take i x) d) ∙ there-append place p (map f (take i x)) (f d ∷ [])

  -- If the next entry has the place, its item is added to those of the place before it.
  pub one_more_there : place (f d).op ≡ p → there place p (map f (take (i + 1) x)) ≡ front ++ f d ∷ []
  one_more_there at = longer ∙ ap (λ (z : List (Item Op)). front ++ z) (there_at place p (f d) [] at)

  -- If the next entry has another place, no item is added to those of the place before it.
  pub none_more_there : (place (f d).op ≡ p → ⊥) → there place p (map f (take (i + 1) x)) ≡ front
  none_more_there off = longer ∙ ap (λ (z : List (Item Op)). front ++ z) (there_off place p (f d) [] off) ∙ append-nil front

  -- If an entry has the place, it is the one after those before it.
  pub stands_there : place (f d).op ≡ p → f d ≡ get_or (items_on place f p x) (length front) (f d)
  stands_there at =
      let rest = there place p (map f (drop (i + 1) x)) in
      let split : items_on place f p x ≡ (front ++ f d ∷ []) ++ rest =
      ap (λ (z : List E). there place p (map f z)) (sym (take-append-drop (i + 1) x)) ∙ ap (there place p) (map-append f (take (i + 1) x) (drop (i + 1) x))
      ∙ there-append place p (map f (take (i + 1) x)) (map f (drop (i + 1) x)) ∙ ap (λ (z : List (Item Op)). z ++ rest) (one_more_there at) in
      sym (ap (λ (z : List (Item Op)). get_or z (length front) (f d)) (split ∙ append_assoc front (f d ∷ []) rest) ∙ ap (λ (k : ℕ). get_or (front ++ f d ∷ rest) k (f d)) (omega arith)
      ∙ get_or-append-add front (f d ∷ rest) 0 (f d))

  -- so it is with others before them all
  pub stands_behind : (before : List (Item Op)) (n : ℕ) → n ≡ length before + length front → place (f d).op ≡ p → f d ≡ get_or (before ++ items_on place f p x) n (f d)
  stands_behind before n n_is at = found_behind before (items_on place f p x) (length front) n (f d) n_is (stands_there at)

  -- If the next entry has the place, the place has one more item before the next position.
  pub one_more : place (f d).op ≡ p → length (items_on place f p (take (i + 1) x)) ≡ length front + 1
  one_more at = ap length (one_more_there at) ∙ length_push front (f d)

  -- they are some of all
  pub fewer : place (f d).op ≡ p → length front < length (items_on place f p x)
  fewer at =
      let rest = there place p (map f (drop (i + 1) x)) in
      let split : items_on place f p x ≡ (front ++ f d ∷ []) ++ rest =
      ap (λ (z : List E). there place p (map f z)) (sym (take-append-drop (i + 1) x)) ∙ ap (there place p) (map-append f (take (i + 1) x) (drop (i + 1) x))
      ∙ there-append place p (map f (take (i + 1) x)) (map f (drop (i + 1) x)) ∙ ap (λ (z : List (Item Op)). z ++ rest) (one_more_there at) in
      let size = ap length split in
      let two = length-append (front ++ f d ∷ []) rest in
      let one = length_push front (f d) in
      omega arith

-- If some of the first entries have the place, there are some of them.
pub some_first : {E Op : Type 0} (place : Op → ℕ) (f : E → Item Op) (p : ℕ) (x : List E) (n : ℕ) → 0 < length (items_on place f p (take n x)) → 0 < n
some_first place f p x zero h = absurd (omega arith)
some_first place f p x (suc n) h = omega arith

-- The items of the place of the first entry begin with that of the entry.
pub first_of : {E Op : Type 0} (place : Op → ℕ) (f : E → Item Op) (y : List E) (a : E) → 0 < length y → a ≡ get_or y 0 a → with_first place f y ≡ f a ∷ there place (place (f a).op) (map f (drop 1 y))
first_of place f [] a h is = absurd (omega arith)
first_of {E} place f (b ∷ y) a h is = ap (λ (d : E). with_first place f (d ∷ y)) (sym is) ∙ there_at place (place (f a).op) (f a) (map f y) refl

-- Items that all have a place are those that have it.
pub all_on : {Op : Type 0} (place : Op → ℕ) (p : ℕ) (x : List (Item Op)) → ((e : Item Op) → In e x → place e.op ≡ p) → items_on place itself p x ≡ x
all_on place p [] h = refl
all_on {Op} place p (e ∷ x) h = there_at place p e (map itself x) (h e (inl refl)) ∙ ap (λ (z : List (Item Op)). e ∷ z) (all_on place p x (λ d i. h d (inr i)))
