-- Proof machinery: items of a place that are applied one after another, and how far.
use Rattle.std.specs.Prelude.{◌≡◌, ◌≢◌, ◌<◌, ◌≤◌, ◌+◌, ℕ, IsTrue, List, [], ◌∷◌, ◌++◌, length}
use Rattle.std.specs.Prelude.{Option, Some, None, option_map, slice_get, take}
use Rattle.pp_core.specs.declared.answer.Answer.{Answer}
use Rattle.pp_core.specs.declared.entry.Item.{Item}
use Rattle.pp_model.specs.Object.{ops}
use Rattle.pp_kind.specs.declared.range.TheConstants.{MOST_OPERATIONS}
use Rattle.pp_kind.specs.Object.{Object, AllowedFrom, AllRanged, IsLog, state_from}
use Rattle.pp_log.specs.declared.run.Stop.{Stop}
use Rattle.pp_log.specs.Parts.{items_on}

-- The undo value of each operation, from a state on.
abbrev pub kept_along :
    {Shape State Op Undo : Type 0} → Object Shape State Op Undo → State → List Op → List Undo
kept_along o s [] = []
kept_along o s (a ∷ x) = o.upkeep.kept s a ∷ kept_along o (o.next s a) x

-- The operations are of the objects of a shape.
abbrev pub AllFit :
    {Shape State Op Undo : Type 0} → Object Shape State Op Undo → Shape → List Op → Type 0
AllFit o sh [] = Unit {0}
AllFit o sh (a ∷ x) = IsTrue (o.fits sh a) × AllFit o sh x

-- From the state b of a list on, as many of the items as there are undo values were applied. They
-- led to s, and left these values.
pub record IsRun {Shape State Op Undo : Type 0} (o : Object Shape State Op Undo)
    (b : State) (items : List (Item Op)) (us : List Undo) (s : State) : Type 0 where
  pub base : List Op
  pub log : IsLog o b base
  pub few : length base + length items ≤ MOST_OPERATIONS
  pub fit : AllFit o (o.shape b) (ops items)
  pub ranged : AllRanged o (ops items)
  pub within : length us ≤ length items
  pub allowed : AllowedFrom o b (take (length us) (ops items))
  pub is : s ≡ state_from o b (take (length us) (ops items))
  pub kept : us ≡ kept_along o b (take (length us) (ops items))

-- All items were applied, or the next one differs, since the object returns this result.
abbrev pub Stops :
    {Shape State Op Undo : Type 0} → Object Shape State Op Undo →
    List (Item Op) → List Undo → State → Option Answer → Type 0
Stops o items us s None = length us ≡ length items
Stops {Shape} {State} {Op} {Undo} o items us s (Some answer) =
    (e : Item Op) × (slice_get items (length us) ≡ Some e) ×
    (o.gives s e.op ≡ answer) × (answer ≢ o.recorded e.op)

-- One tick for each item that was applied, and one for an item that differs.
abbrev pub Costs : Option Answer → ℕ → ℕ → ℕ → ℕ → Type 0
Costs None old from to new = new + from ≡ old + to
Costs (Some answer) old from to new = new + from ≡ old + to + 1

-- The result of the object for the entry at which they stop.
abbrev pub answer_at : Option Stop → Option Answer
answer_at stop = option_map (λ s. s.answer) stop

-- They stop at an entry of the place. All entries of the place before it were applied, after `from`
-- others.
pub record IsStop {Op E : Type 0} (place : Op → ℕ) (item_of : E → Item Op) (p : ℕ)
    (entries : List E) (at from : ℕ) {Undo : Type 0} (us : List Undo) : Type 0 where
  pub within : at < length entries
  pub size : length us ≡ from + length (items_on place item_of p (take at entries))
  pub here : (e : E) → slice_get entries at ≡ Some e → place (item_of e).op ≡ p

-- With some items before them, `from` in number, the items make a run.
pub record HasRun {Shape State Op Undo : Type 0} (o : Object Shape State Op Undo)
    (from : ℕ) (items : List (Item Op)) (us : List Undo) (s : State) : Type 0 where
  pub start : State
  pub before : List (Item Op)
  pub size : length before ≡ from
  pub run : IsRun o start (before ++ items) us s

-- Whatever the run was, from any state on and with any items before these, `from` in number, it is one
-- with these undo values and this state.
abbrev pub GoesOn :
    {Shape State Op Undo : Type 0} → Object Shape State Op Undo → ℕ →
    List (Item Op) → List Undo → State → List Undo → State → Type 0
GoesOn {Shape} {State} {Op} o from items old s new t =
    (b : State) (before : List (Item Op)) → length before ≡ from
    → IsRun o b (before ++ items) old s → IsRun o b (before ++ items) new t

-- After any `from` items, the run of these stops like this.
abbrev pub StopsFrom :
    {Shape State Op Undo : Type 0} → Object Shape State Op Undo → ℕ →
    List (Item Op) → List Undo → State → Option Answer → Type 0
StopsFrom {Shape} {State} {Op} o from items us s found =
    (before : List (Item Op)) → length before ≡ from → Stops o (before ++ items) us s found
