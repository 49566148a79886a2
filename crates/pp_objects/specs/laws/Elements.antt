-- Proof machinery: lists with another item at a place.
use Rattle.std.proofs.Common.{◌≡◌, ◌≢◌, ℕ, zero, suc, Bool, true, false, nat_eq, List, [], ◌∷◌, map}
use Rattle.std.proofs.Common.{set, replicate, Option, Some, None, option_map, refl, sym, ◌∙◌, ap}
use Rattle.std.proofs.Common.{inl, inr, ◌⊎◌, arith}
use Rattle.std.proofs.lemmas.Bool.Decides.{nat_tests}
use Rattle.std.proofs.lemmas.List.{map-set}
use Rattle.std.proofs.lemmas.Option.{slice_get-map}
use Rattle.std.specs.List.{slice_get}
use Rattle.pp_objects.specs.Objects.{put}

same_place_by : (t : Bool) (p q : ℕ) → nat_eq p q ≡ t → (p ≡ q) ⊎ (p ≢ q)
same_place_by true p q e = inl (grind (arith, nat_tests))
same_place_by false p q e = inr (grind (arith, nat_tests))

-- Two places are one or not.
pub same_place : (p q : ℕ) → (p ≡ q) ⊎ (p ≢ q)
same_place p q = same_place_by (nat_eq p q) p q refl

-- Two values are equal if the options with them are.
pub same_some : {X : Type 0} (x y : X) → Some x ≡ Some y → x ≡ y
same_some x y h = cc

module _ {X : Type 0} where
  -- After an element is set at a position, it is there.
  pub get_set : (l : List X) (p : ℕ) (x y : X) → slice_get l p ≡ Some x
      → slice_get (set l p y) p ≡ Some y
  get_set [] p x y h = absurd (cc)
  get_set (z ∷ l) zero x y h = refl
  get_set (z ∷ l) (suc p) x y h = get_set l p x y h

  -- To set an element at one position leaves those at other positions.
  pub get_other : (l : List X) (p q : ℕ) (y : X) → (q ≡ p → ⊥)
      → slice_get (set l p y) q ≡ slice_get l q
  get_other [] p q y h = refl
  get_other (z ∷ l) zero zero y h = absurd (h refl)
  get_other (z ∷ l) zero (suc q) y h = refl
  get_other (z ∷ l) (suc p) zero y h = refl
  get_other (z ∷ l) (suc p) (suc q) y h = get_other l p q y (λ e. h (ap suc e))

  -- To set the element that is at a position leaves the list the same.
  pub set_own : (l : List X) (p : ℕ) (x : X) → slice_get l p ≡ Some x → set l p x ≡ l
  set_own [] p x h = refl
  set_own (z ∷ l) zero x h = ap (λ (y : X). y ∷ l) (sym (same_some z x h))
  set_own (z ∷ l) (suc p) x h = ap (λ (m : List X). z ∷ m) (set_own l p x h)

  -- lists with the same at each place are one
  pub same_list : (l m : List X) → ((p : ℕ) → slice_get l p ≡ slice_get m p) → l ≡ m
  same_list [] [] h = refl
  same_list [] (y ∷ m) h = let e : None ≡ Some y = h zero in absurd (cc)
  same_list (x ∷ l) [] h = let e : Some x ≡ None = h zero in absurd (cc)
  same_list (x ∷ l) (y ∷ m) h = ap (λ (z : X). z ∷ l) (same_some x y (h zero))
      ∙ ap (λ (n : List X). y ∷ n) (same_list l m (λ p. h (suc p)))

  -- The element at a position after that element was changed.
  get_put_by : (f : X → X) (l : List X) (p : ℕ) (t : Option X) → slice_get l p ≡ t
      → slice_get (put l p (option_map f t)) p ≡ option_map f t
  get_put_by f l p None h = h
  get_put_by f l p (Some x) h = get_set l p x (f x) h

  -- The image of an element that is put at its position is there afterwards.
  pub get_put : (f : X → X) (l : List X) (p : ℕ)
      → slice_get (put l p (option_map f (slice_get l p))) p ≡ option_map f (slice_get l p)
  get_put f l p = get_put_by f l p (slice_get l p) refl

  -- To put an element at one position leaves those at other positions.
  pub put_other : (l : List X) (p q : ℕ) (t : Option X) → (q ≡ p → ⊥)
      → slice_get l q ≡ slice_get (put l p t) q
  put_other l p q None h = refl
  put_other l p q (Some y) h = sym (get_other l p q y h)

  -- A list of p + 1 copies of an element has it at position p.
  pub get_replicate : (p : ℕ) (x : X) → slice_get (replicate (suc p) x) p ≡ Some x
  get_replicate zero x = refl
  get_replicate (suc p) x = get_replicate p x

-- An element that is set with the image of the old one leaves the mapped list the same.
pub map_set : {X Y : Type 0} (f : X → Y) (l : List X) (p : ℕ) (x y : X)
    → slice_get l p ≡ Some x → f y ≡ f x → map f (set l p y) ≡ map f l
map_set {X} {Y} f l p x y h e =
    map-set f l p y ∙ ap (λ (v : Y). set (map f l) p v) e
    ∙ set_own (map f l) p (f x) (slice_get-map f l p ∙ ap (λ (t : Option X). option_map f t) h)
