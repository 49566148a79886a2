-- The objects of a catalog, and their states.
use Rattle.std.proofs.Common.{◌≡◌, ◌<◌, ℕ, zero, suc, List, [], ◌∷◌, length, slice_get, Some, refl}
use Rattle.std.proofs.Common.{◌∙◌, ap, arith}
use Rattle.pp_core.specs.Catalogs.{Objects}
use Rattle.pp_core.specs.declared.call.Kind.{Kind}
use Rattle.pp_objects.specs.declared.states.ObjectState.{ObjectState}
use Rattle.pp_objects.specs.Objects.{kinds_of}
use Rattle.pp_text.specs.Texts.{AreStatesOf, IsObjectOf}

-- each object of a catalog has a kind
kind_at : (catalog : Objects) (place : ℕ) → place < length catalog → (kind : Kind) × (slice_get (kinds_of catalog) place ≡ Some kind)
kind_at [] place below = absurd (omega arith)
kind_at (entry ∷ entries) zero below = (entry.1, refl)
kind_at (entry ∷ entries) (suc place) below = kind_at entries place (omega arith)

-- if the states are those of the catalog, each object has a state of its kind
pub is_object : (catalog : Objects) (states : List ObjectState) (place : ℕ) → AreStatesOf catalog states → place < length catalog
    → IsObjectOf catalog states place
is_object catalog states place same below =
    let found = kind_at catalog place below in
    (found.0, found.1, ap (λ kinds. slice_get kinds place) same ∙ found.1)
