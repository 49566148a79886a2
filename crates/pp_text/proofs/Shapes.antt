-- Facts for an object of the catalog that has a state of its kind.
use Rattle.std.proofs.Common.{◌≡◌, ◌<◌, ℕ, zero, suc, List, [], ◌∷◌, length, map, slice_get, Some}
use Rattle.std.proofs.Common.{arith}
use Rattle.pp_core.specs.Catalogs.{Objects}
use Rattle.pp_objects.specs.declared.states.ObjectState.{ObjectState}
use Rattle.pp_text.specs.Texts.{IsObjectOf}

-- an item of a list of images is the image of an item
below : {A B : Type 0} (f : A → B) (xs : List A) (i : ℕ) (y : B) → slice_get (map f xs) i ≡ Some y → i < length xs
below f [] i y at = absurd (cc)
below f (x ∷ xs) zero y at = omega arith
below f (x ∷ xs) (suc i) y at = let lt = below f xs i y at in omega arith

-- the catalog has the object
pub is_named : (catalog : Objects) (states : List ObjectState) (place : ℕ) → IsObjectOf catalog states place → place < length catalog
is_named catalog states place is = below _ catalog place is.0 is.1

-- the states have the object
pub has_state : (catalog : Objects) (states : List ObjectState) (place : ℕ) → IsObjectOf catalog states place → place < length states
has_state catalog states place is = below _ states place is.0 is.2
