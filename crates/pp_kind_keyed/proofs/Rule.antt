-- Proof machinery: the rule of two operations on one key.
use Rattle.std.proofs.Common.{◌≡◌, ℤ, int_eq, Bool, true, false, not, cond, ◌&&◌, ◌||◌, ◌↔◌, refl}
use Rattle.std.proofs.Common.{sym, ◌∙◌, ap, arith}
use Rattle.std.proofs.lemmas.Bool.{and_parts}
use Rattle.std.proofs.lemmas.Int.{ints}
use Rattle.pp_kind_keyed.specs.Keys.{rule}

goes_on : (p q : Bool) → (not p || q) ≡ true → p ≡ true → q ≡ true
goes_on true q h e = h
goes_on false q h e = cc

refused : (p q : Bool) → (not p || q) ≡ false → (p ≡ true) × (q ≡ false)
refused true q h = (refl, h)
refused false q h = cc

all_three : (p q r : Bool) → p ≡ true → q ≡ true → r ≡ true → (p && (q && r)) ≡ false → ⊥
all_three true true true e f g h = cc
all_three true true false e f g h = cc
all_three true false r e f g h = cc
all_three false q r e f g h = cc

-- Keys that a test finds equal are equal.
pub same_key : (x y : ℤ) → int_eq x y ≡ true → x ≡ y
same_key x y e = grind (arith, ints)

-- The comparison of equal keys is true.
pub key_is : (x y : ℤ) → x ≡ y → int_eq x y ≡ true
key_is x y e = grind (arith, ints)

-- If the comparison of two keys is false, so is that in the other order.
pub other_key : (x y : ℤ) → int_eq x y ≡ false → int_eq y x ≡ false
other_key x y e = grind (arith, ints)

-- Two cells that change at two keys, in either order.
pub turned_cells : {Cell : Type 0} (b c : Bool) (l m : Cell → Cell) (x : Cell)
    → (b ≡ true → c ≡ true → l (m x) ≡ m (l x))
    → cond b (l (cond c (m x) x)) (cond c (m x) x) ≡ cond c (m (cond b (l x) x)) (cond b (l x) x)
turned_cells true true l m x h = h refl refl
turned_cells true false l m x h = refl
turned_cells false true l m x h = refl
turned_cells false false l m x h = refl

-- Putting the cell that is at a key there changes nothing.
pub stands_at : {Cell : Type 0} (cell : ℤ → Cell) (k q : ℤ) (c : Cell) (here : Bool)
    → int_eq q k ≡ here → cell k ≡ c → cond here c (cell q) ≡ cell q
stands_at cell k q c true e h = sym h ∙ ap cell (sym (same_key q k e))
stands_at cell k q c false e h = refl

-- A cell that is put over another one at a key covers it.
pub covered : {Cell : Type 0} (here : Bool) (x y z : Cell)
    → cond here x (cond here y z) ≡ cond here x z
covered true x y z = refl
covered false x y z = refl

module _ {Cell : Type 0} (alike : Cell → Cell → Bool)
    (alike_is : (c d : Cell) → (alike c d ≡ true) ↔ (c ≡ d)) where
  -- If the rule allows a pair to swap, and its second finds what its first leaves, all are one.
  pub lets_turned : (f l g m : Cell) → rule alike f l g m ≡ true → l ≡ g
      → (l ≡ m) × (m ≡ f) × (f ≡ g)
  lets_turned f l g m t h =
      let three = and_parts (alike l m) (alike m f && alike f g)
      (goes_on (alike l g) (alike l m && (alike m f && alike f g)) t ((alike_is l g).1 h)) in
      let two = and_parts (alike m f) (alike f g) three.1 in
      ((alike_is l m).0 three.0, (alike_is m f).0 two.0, (alike_is f g).0 two.1)

  -- If the rule does not allow a pair to swap, the second finds what the first leaves.
  pub refused_follows : (f l g m : Cell) → rule alike f l g m ≡ false → l ≡ g
  refused_follows f l g m t = (alike_is l g).0
      (refused (alike l g) (alike l m && (alike m f && alike f g)) t).0

  -- and the pair is not legal in the other order
  pub refused_turned : (f l g m : Cell) → rule alike f l g m ≡ false → f ≡ g → m ≡ f → ⊥
  refused_turned f l g m t h e =
      all_three (alike l m) (alike m f) (alike f g)
      ((alike_is l m).1 (refused_follows f l g m t ∙ sym h ∙ sym e)) ((alike_is m f).1 e)
      ((alike_is f g).1 h) (refused (alike l g) (alike l m && (alike m f && alike f g)) t).1
