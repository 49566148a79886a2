-- Meaning: the objects of a catalog, and looking one up by its name.
use Rattle.std.specs.Prelude.{◌≡◌, ◌≤◌, ℕ, Bool, List, [], ◌∷◌, ◌++◌, length, Option, Some}
use Rattle.std.specs.Prelude.{position, slice_get, if◌then◌else◌}
use Rattle.std.specs.Map.{keys_of}
use Rattle.std.specs.Str.{bytes_eq}
use Rattle.pp_core.specs.declared.call.Kind.{Kind}
use Rattle.pp_core.specs.declared.limits.TheConstants.{MOST_OBJECTS}
use Rattle.pp_core.specs.Names.{IsName}

-- the names of the objects with their kinds
abbrev pub Objects : Type 0
Objects = List (List ℕ × Kind)

-- the place of the object of this name, among the objects' names
abbrev pub place_of : List ℕ → Objects → Option ℕ
place_of name objects = position (bytes_eq name) (keys_of objects)

-- as many as a run may have
abbrev pub AreFew : Objects → Type 0
AreFew objects = length objects ≤ MOST_OBJECTS

-- each object has a name
abbrev pub HasNames : Objects → Type 0
HasNames [] = Unit {0}
HasNames (entry ∷ objects) = IsName entry.0 × HasNames objects

-- each object is the only one of its name: two places with one name are one place
abbrev pub HasDistinctNames : Objects → Type 0
HasDistinctNames objects =
    (name : List ℕ) (i j : ℕ) → slice_get (keys_of objects) i ≡ Some name
    → slice_get (keys_of objects) j ≡ Some name → i ≡ j

-- the objects, with one more at the end if it was added
abbrev pub with_one_more : Bool → List ℕ → Kind → Objects → Objects
with_one_more added name kind objects = if added then objects ++ (name, kind) ∷ [] else objects
