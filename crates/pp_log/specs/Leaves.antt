-- Proof machinery: one entry after another leaves a log.
use Rattle.std.specs.Prelude.{◌≡◌, ◌+◌, ℕ, List, drop, remove, slice_get, Some}
use Rattle.pp_core.specs.declared.entry.Item.{Item}
use Rattle.pp_model.specs.Lists.{Before, In}
use Rattle.pp_model.specs.Object.{HasDistinctIds, ops}
use Rattle.pp_kind.specs.Object.{LetsPass, Object}
use Rattle.pp_log.specs.declared.index.Index.{Index}
use Rattle.pp_log.specs.declared.place.Place.{Place}
use Rattle.pp_log.specs.Index.{IsIndexOf}
use Rattle.pp_log.specs.Keeps.{KeepsAll}
use Rattle.pp_log.specs.Leaving.{MayLeave, without_items}
use Rattle.pp_log.specs.Parts.{there}
use Rattle.pp_log.specs.Room.{ids_of}
use Rattle.pp_log.specs.TakesOut.{itself}

-- The item is at the i-th position, and those of its place after it may move past it.
pub record MayPassOut {Shape State Op Undo : Type 0} (o : Object Shape State Op Undo)
    (place : Op → ℕ) (log : List (Item Op)) (i : ℕ) (e : Item Op) : Type 0 where
  pub is : slice_get log i ≡ Some e
  pub passes : LetsPass o e.op (ops (there place (place e.op) (drop (i + 1) log)))

-- So it is in a log of which all this is kept.
pub record CanLeave {Shape State Op Undo : Type 0} (o : Object Shape State Op Undo)
    (place : Op → ℕ) (s : State) (ps : List (Place Undo)) (ids : Index) (i : ℕ) (e : Item Op)
    : Type 0 where
  pub log : List (Item Op)
  pub keeps : KeepsAll o place s log ps ids
  pub stands : MayPassOut o place log i e

-- Afterwards the ids and undo values are those of the log without it.
abbrev pub Leaves : {Shape State Op Undo : Type 0} → Object Shape State Op Undo → (Op → ℕ) → ℕ →
    Item Op → State → List (Place Undo) → Index → State → List (Place Undo) → Index → Type 0
Leaves {Shape} {State} {Op} o place i e s ps ids t qs js =
    (log : List (Item Op)) → KeepsAll o place s log ps ids → MayPassOut o place log i e
    → KeepsAll o place t (remove log i) qs js × (o.shape t ≡ o.shape s)

-- These items may leave a log of which all this is kept.
pub record CanAllLeave {Shape State Op Undo : Type 0} (o : Object Shape State Op Undo)
    (place : Op → ℕ) (s : State) (ps : List (Place Undo)) (ids : Index) (own : List (Item Op))
    : Type 0 where
  pub log : List (Item Op)
  pub keeps : KeepsAll o place s log ps ids
  pub may : MayLeave o own log

-- Afterwards the ids and undo values are those of the others.
abbrev pub AllLeave : {Shape State Op Undo : Type 0} → Object Shape State Op Undo → (Op → ℕ) →
    List (Item Op) → State → List (Place Undo) → Index → State → List (Place Undo) → Index → Type 0
AllLeave {Shape} {State} {Op} o place own s ps ids t qs js =
    (log : List (Item Op)) → KeepsAll o place s log ps ids → MayLeave o own log
    → KeepsAll o place t (without_items itself own log) qs js × (o.shape t ≡ o.shape s)

-- The items are in the list in their order, the first of them at this position.
pub record StandFrom {Op : Type 0} (own log : List (Item Op)) (from : ℕ) : Type 0 where
  pub stand : (p : Item Op) → In p own → In p log
  pub order : (p q : Item Op) → Before p q own → Before p q log
  pub distinct : HasDistinctIds log
  pub first : Item Op
  pub first_own : slice_get own 0 ≡ Some first
  pub first_there : slice_get log from ≡ Some first

-- The items are in the list in their order, and the index is of its ids.
pub record CanLeaveOut {Op : Type 0} (own log : List (Item Op)) (ids : Index) : Type 0 where
  pub stand : (p : Item Op) → In p own → In p log
  pub order : (p q : Item Op) → Before p q own → Before p q log
  pub distinct : HasDistinctIds log
  pub index : IsIndexOf ids (ids_of log)

-- The k-th of the items has this id.
abbrev pub HasIdAt : {Op : Type 0} → List (Item Op) → ℕ → ℕ → Type 0
HasIdAt {Op} items k id = (p : Item Op) × (slice_get items k ≡ Some p) × (p.id ≡ id)
