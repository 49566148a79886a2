-- Meaning: a finite set of keys: a finite map that has nothing at each of them.
use Rattle.std.specs.Prelude.{ℤ, Bool, List, [], ◌∷◌}
use Rattle.std.specs.Ordering.{int_cmp}
use Rattle.std.specs.FinSet.{FinSet}
use Rattle.std.specs.FinMap as map

-- whether a key is in
abbrev pub contains : FinSet int_cmp → ℤ → Bool
contains s k = map.contains_key s k

-- the set with one more key
abbrev pub insert : FinSet int_cmp → ℤ → FinSet int_cmp
insert s k = map.insert s k tt

-- the set without a key
abbrev pub remove : FinSet int_cmp → ℤ → FinSet int_cmp
remove s k = map.remove s k

-- its keys, ascending
abbrev pub members : FinSet int_cmp → List ℤ
members s = map.keys s

-- the set of a list of keys
abbrev pub marked : List ℤ → List (ℤ × Unit {0})
marked [] = []
marked (k ∷ ks) = (k, tt) ∷ marked ks

-- the set of some keys
abbrev pub set_of : List ℤ → FinSet int_cmp
set_of ks = map.from_entries (marked ks)
