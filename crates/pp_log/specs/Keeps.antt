-- Proof machinery: what a log keeps in addition to its entries.
use Rattle.std.specs.Prelude.{◌≡◌, ◌≤◌, ℕ, List, [], length, slice_get, Option, Some, None}
use Rattle.pp_core.specs.declared.entry.Item.{Item}
use Rattle.pp_model.specs.Object.{HasDistinctIds, ops}
use Rattle.pp_kind.specs.declared.range.TheConstants.{MOST_OPERATIONS}
use Rattle.pp_kind.specs.Object.{Object, AllRanged, IsAllowed, state_after}
use Rattle.pp_log.specs.declared.index.Index.{Index}
use Rattle.pp_log.specs.declared.place.Place.{Place}
use Rattle.pp_log.specs.Index.{IsIndexOf}
use Rattle.pp_log.specs.Parts.{there}
use Rattle.pp_log.specs.Room.{ids_of}
use Rattle.pp_log.specs.Runs.{kept_along}

-- The ids of the items of a place and their undo values are kept there.
pub record IsKept {Shape State Op Undo : Type 0} (o : Object Shape State Op Undo)
    (b : State) (items : List (Item Op)) (q : Place Undo) : Type 0 where
  pub same_ids : q.ids.items ≡ ids_of items
  pub same_undos : q.undos.items ≡ kept_along o b (ops items)

-- The ids and undo values of a place. A place without items needs none.
abbrev pub KeptIn :
    {Shape State Op Undo : Type 0} → Object Shape State Op Undo → State →
    List (Item Op) → Option (Place Undo) → Type 0
KeptIn o b items None = items ≡ []
KeptIn o b items (Some q) = IsKept o b items q

-- The list of items is allowed, this is the state after it, and each place keeps its items.
pub record Keeps {Shape State Op Undo : Type 0} (o : Object Shape State Op Undo)
    (place : Op → ℕ) (s : State) (log : List (Item Op))
    (places : List (Place Undo)) : Type 0 where
  pub allowed : IsAllowed o (o.shape s) (ops log)
  pub is : s ≡ state_after o (o.shape s) (ops log)
  pub ranged : AllRanged o (ops log)
  pub few : length log ≤ MOST_OPERATIONS
  pub distinct : HasDistinctIds log
  pub kept : (p : ℕ) → KeptIn o (o.start (o.shape s)) (there place p log) (slice_get places p)

-- And the index is of its ids.
pub record KeepsAll {Shape State Op Undo : Type 0} (o : Object Shape State Op Undo)
    (place : Op → ℕ) (s : State) (log : List (Item Op)) (places : List (Place Undo))
    (ids : Index) : Type 0 where
  pub keeps : Keeps o place s log places
  pub index : IsIndexOf ids (ids_of log)
