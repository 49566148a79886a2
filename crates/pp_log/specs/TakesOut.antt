-- Proof machinery: what taking an entry out of its place does.
use Rattle.std.specs.Prelude.{◌≡◌, ◌+◌, ℕ, List, ◌++◌, Some, drop, length, remove, slice_get}
use Rattle.pp_core.specs.declared.entry.Item.{Item}
use Rattle.pp_model.specs.Object.{ops}
use Rattle.pp_kind.specs.Object.{LetsPass, Object}
use Rattle.pp_log.specs.declared.place.Place.{Place}
use Rattle.pp_log.specs.declared.place.Removed.{Removed}
use Rattle.pp_log.specs.declared.place.Removed.TheVariants.{Done, Differs}
use Rattle.pp_log.specs.Logs.{DiffersFrom}
use Rattle.pp_log.specs.Parts.{AllAt}
use Rattle.pp_log.specs.Room.{ids_of}
use Rattle.pp_log.specs.Runs.{IsRun}

-- The place is of these items. All are applied, from the state b on, which led to s.
pub record IsWhole {Shape State Op Undo : Type 0} (o : Object Shape State Op Undo)
    (b : State) (items : List (Item Op)) (q : Place Undo) (s : State) : Type 0 where
  pub run : IsRun o b items q.undos.items s
  pub all : length q.undos.items ≡ length items
  pub ids : q.ids.items ≡ ids_of items

-- Some items, `from` in number, and then these are those of the place, and all are applied.
pub record HasWhole {Shape State Op Undo : Type 0} (o : Object Shape State Op Undo)
    (from : ℕ) (items : List (Item Op)) (q : Place Undo) (s : State) : Type 0 where
  pub start : State
  pub before : List (Item Op)
  pub size : length before ≡ from
  pub whole : IsWhole o start (before ++ items) q s

-- The i-th item has this operation, which those after it may move past, and these are z.
pub record Passes {Shape State Op Undo : Type 0} (o : Object Shape State Op Undo)
    (items : List (Item Op)) (i : ℕ) (a : Op) (z : List (Item Op)) : Type 0 where
  pub item : Item Op
  pub is : slice_get items i ≡ Some item
  pub op : item.op ≡ a
  pub others : drop (i + 1) items ≡ z
  pub behind : LetsPass o a (ops z)

-- All items of a place are applied. Those after the i-th one have its place and may move past it.
pub record CanPassOut {Shape State Op Undo : Type 0} (o : Object Shape State Op Undo)
    (place : Op → ℕ) (q : Place Undo) (s : State) (i : ℕ) (a : Op) : Type 0 where
  pub start : State
  pub items : List (Item Op)
  pub behind : List (Item Op)
  pub whole : IsWhole o start items q s
  pub passes : Passes o items i a behind
  pub one_place : AllAt place (place a) (ops behind)

-- An item, as it is.
abbrev pub itself : {Op : Type 0} → Item Op → Item Op
itself e = e

-- The ids and undo values of a place after taking the i-th item out.
abbrev pub TakesOut :
    {Shape State Op Undo : Type 0} → Object Shape State Op Undo → State →
    List (Item Op) → ℕ → Place Undo → State → Removed → Type 0
TakesOut o b items i q s Done = IsWhole o b (remove items i) q s
TakesOut o b items i q s (Differs id answer) =
    IsWhole o b items q s × DiffersFrom o itself b (remove items i) id answer

-- From whatever state the place was whole, and with any items before these, `from` in number, taking
-- the first of these out leaves this.
abbrev pub TakesOutOf :
    {Shape State Op Undo : Type 0} → Object Shape State Op Undo → ℕ → List (Item Op) →
    Place Undo → State → Place Undo → State → Removed → Type 0
TakesOutOf {Shape} {State} {Op} o from items old s new t removed =
    (b : State) (before : List (Item Op)) → length before ≡ from
    → IsWhole o b (before ++ items) old s → TakesOut o b (before ++ items) from new t removed

-- The ids and undo values of a place after taking the i-th item out, which has this operation.
-- Those after it have its place, and may move past it.
abbrev pub PassesOutOf :
    {Shape State Op Undo : Type 0} → Object Shape State Op Undo → (Op → ℕ) → ℕ → Op →
    Place Undo → State → Place Undo → State → Type 0
PassesOutOf {Shape} {State} {Op} o place i a old s new t =
    (b : State) (items z : List (Item Op)) → Passes o items i a z → AllAt place (place a) (ops z)
    → IsWhole o b items old s → IsWhole o b (remove items i) new t
