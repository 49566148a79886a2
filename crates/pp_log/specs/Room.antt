-- Proof machinery: room for one more entry, and the ids of the items.
use Rattle.std.specs.Prelude.{◌≡◌, ◌<◌, ℕ, List, [], map, slice_get, Option, Some, None, vec_len}
use Rattle.std.specs.Vec.{vec_capacity}
use Rattle.pp_core.specs.declared.entry.Item.{Item}
use Rattle.pp_log.specs.declared.place.Place.{Place}

-- The ids of the items.
abbrev pub ids_of : {Op : Type 0} → List (Item Op) → List ℕ
ids_of x = map (λ e. e.id) x

-- A place has the same ids and undo values, and none if it is a new place.
abbrev pub SameIn : {Undo : Type 0} → Option (Place Undo) → Option (Place Undo) → Type 0
SameIn None None = Unit {0}
SameIn None (Some q) = (q.ids.items ≡ []) × (q.undos.items ≡ [])
SameIn (Some a) None = ⊥
SameIn (Some a) (Some b) = (b.ids.items ≡ a.ids.items) × (b.undos.items ≡ a.undos.items)

-- Each place has the same ids and undo values.
abbrev pub ArePlacesSame : {Undo : Type 0} → List (Place Undo) → List (Place Undo) → Type 0
ArePlacesSame old new = (r : ℕ) → SameIn (slice_get old r) (slice_get new r)

-- There is room for one more entry in a place.
pub record HasRoom {Undo : Type 0} (q : Place Undo) : Type 0 where
  pub ids : vec_len q.ids < vec_capacity q.ids
  pub undos : vec_len q.undos < vec_capacity q.undos

-- There is room for one more entry at the p-th place, if there is such a place.
abbrev pub HasRoomAt : {Undo : Type 0} → List (Place Undo) → ℕ → Type 0
HasRoomAt {Undo} places p = (q : Place Undo) → slice_get places p ≡ Some q → HasRoom q
