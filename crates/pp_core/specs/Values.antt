-- The value of each id.
use Rattle.std.specs.Prelude.{◌≡◌, ◌==◌, ◌<◌, ◌⊎◌, ℕ, nat_eq, cond, List, Option}
use Rattle.std.specs.Prelude.{is_some, length, slice_get}
use Rattle.std.specs.Option.{option_flatten, option_or}
use Rattle.std.specs.List.{list_any}
use Rattle.indexmap.specs.IndexMap.{get, spare}
use Rattle.pp_core.specs.declared.id_map.IdMap.{IdMap}

-- The value that is at a position of the list, if there is one.
abbrev pub near_value : {T : Type 0} → List (Option T) → ℕ → Option T
near_value near at = option_flatten (slice_get near at)

-- The value of an id: the one in the list, if there is one, else the one in the hash table.
abbrev pub value_of : {T : Type 0} → IdMap T → ℕ → Option T
value_of m id = option_or (near_value m.near.items id) (get nat_eq m.far id)

-- Each id has the same value.
abbrev pub HasSameValues : {T : Type 0} → IdMap T → IdMap T → Type 0
HasSameValues old new = (id : ℕ) → value_of new id ≡ value_of old id

-- This id has this value, and each other id has the same as before.
abbrev pub Updates : {T : Type 0} → IdMap T → IdMap T → ℕ → Option T → Type 0
Updates old new id value =
    (other : ℕ) → value_of new other ≡ cond (nat_eq id other) value (value_of old other)

-- There is room for the value of this id.
abbrev pub HasRoomFor : {T : Type 0} → ℕ → IdMap T → Type 0
HasRoomFor id m = (id < length m.near.items) ⊎ (0 < spare m.far)

-- The ids that have a mark are these.
abbrev pub AreMarked : List ℕ → IdMap (Unit {0}) → Type 0
AreMarked ids marks = (id : ℕ) → is_some (value_of marks id) ≡ list_any (λ i. id == i) ids
