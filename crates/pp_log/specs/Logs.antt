-- Meaning: the entries of a log: their operations, and adding one and taking one out. item_of is
-- the id and the operation of an entry.
use Rattle.std.specs.Prelude.{◌≡◌, ◌≢◌, ◌==◌, ◌<◌, ◌≤◌, ◌+◌, ◌*◌, ℕ, zero, suc, List, []}
use Rattle.std.specs.Prelude.{◌∷◌, ◌++◌, map, filter, length, remove, slice_get, Some, Result, IfOk}
use Rattle.pp_core.specs.declared.answer.Answer.{Answer}
use Rattle.pp_core.specs.declared.entry.Item.{Item}
use Rattle.pp_kind.specs.Object.{Object, IsAllowed, AllowedFrom, state_after, state_from}
use Rattle.pp_log.specs.declared.place.Removed.{Removed}
use Rattle.pp_log.specs.declared.place.Removed.TheVariants.{Done, Differs}

-- The operations of the entries.
abbrev pub entry_ops : {Op E : Type 0} → (E → Item Op) → List E → List Op
entry_ops item_of log = map (λ e. (item_of e).op) log

-- The list of operations is allowed with one more after it.
abbrev pub GoesBehind :
    {Shape State Op Undo : Type 0} → Object Shape State Op Undo → Shape → List Op → Op → Type 0
GoesBehind o shape ops op = IsAllowed o shape (ops ++ op ∷ [])

-- The object's result for the operation's call after them.
abbrev pub answer_behind :
    {Shape State Op Undo : Type 0} → Object Shape State Op Undo → Shape → List Op → Op → Answer
answer_behind o shape ops op = o.gives (state_after o shape ops) op

-- The i-th entry has the same id and operation as this one.
abbrev pub HasItemAt : {Op E : Type 0} → (E → Item Op) → List E → ℕ → E → Type 0
HasItemAt {Op} {E} item_of log i entry =
    (e : E) → slice_get log i ≡ Some e → item_of entry ≡ item_of e

-- The operation of an entry has this place.
abbrev pub IsOn : {Op E : Type 0} → (Op → ℕ) → (E → Item Op) → ℕ → E → Type 0
IsOn place_of item_of place entry = place_of (item_of entry).op ≡ place

-- The k-th entry is the first one at `from` or after it for which this is true.
pub record IsFirstFrom {E : Type 0} (Holds : E → Type 0) (log : List E) (from k : ℕ) : Type 0 where
  pub entry : E
  pub is : slice_get log k ≡ Some entry
  pub behind : from ≤ k
  pub holds : Holds entry
  pub first : (j : ℕ) (e : E) → from ≤ j → j < k → slice_get log j ≡ Some e → Holds e → ⊥

-- It is true for no entry at `from` or after it.
abbrev pub NoneFrom : {E : Type 0} → (E → Type 0) → List E → ℕ → Type 0
NoneFrom {E} Holds log from =
    (j : ℕ) (e : E) → from ≤ j → slice_get log j ≡ Some e → Holds e → ⊥

-- From the state b on, the first entry that is not legal where it is has this id, and this is the
-- object's result there.
pub record DiffersFrom {Shape State Op Undo E : Type 0} (o : Object Shape State Op Undo)
    (item_of : E → Item Op) (b : State) (log : List E) (id : ℕ) (answer : Answer) : Type 0 where
  pub before : List E
  pub entry : E
  pub after : List E
  pub is : log ≡ before ++ entry ∷ after
  pub id_is : (item_of entry).id ≡ id
  pub allowed : AllowedFrom o b (entry_ops item_of before)
  pub gives : o.gives (state_from o b (entry_ops item_of before)) (item_of entry).op ≡ answer
  pub differs : answer ≢ o.recorded (item_of entry).op

-- The same from the empty state.
abbrev pub DiffersFirst :
    {Shape State Op Undo E : Type 0} → Object Shape State Op Undo → (E → Item Op) →
    Shape → List E → ℕ → Answer → Type 0
DiffersFirst o item_of shape log id answer = DiffersFrom o item_of (o.start shape) log id answer

-- The list of entries is allowed.
abbrev pub AreAllowed :
    {Shape State Op Undo E : Type 0} → Object Shape State Op Undo → (E → Item Op) →
    Shape → List E → Type 0
AreAllowed o item_of shape log = IsAllowed o shape (entry_ops item_of log)

-- The result of taking the i-th entry out of a log, and the log after it.
abbrev pub RemovesEntry :
    {Shape State Op Undo E : Type 0} → Object Shape State Op Undo → (E → Item Op) →
    Shape × List E → ℕ → Shape × List E → Removed → Type 0
RemovesEntry o item_of old i new Done =
    (new ≡ (old.0, remove old.1 i)) × AreAllowed o item_of old.0 (remove old.1 i)
RemovesEntry o item_of old i new (Differs id answer) =
    (new ≡ old) × DiffersFirst o item_of old.0 (remove old.1 i) id answer

-- How many operations from the i-th on have its place, itself counted; 1 if there is no such
-- operation.
abbrev pub from_place : {Op : Type 0} → (Op → ℕ) → List Op → ℕ → ℕ
from_place place [] i = 1
from_place place (a ∷ x) zero = length (filter (λ b. place b == place a) (a ∷ x))
from_place place (a ∷ x) (suc i) = from_place place x i

-- How many ticks a removal may take if k operations of the place, the removed one counted, are from
-- it to the end. If it is the last one, it alone is taken back.
abbrev pub removal_ticks : Removed → ℕ → ℕ → ℕ → Type 0
removal_ticks Done k old new =
    (old ≤ new) × (new + 1 ≤ old + 2 * k) × (k ≡ 1 → new ≡ old + 1)
removal_ticks (Differs id answer) k old new = (old ≤ new) × (new + 3 ≤ old + 4 * k)

-- The ticks of the removal of the i-th operation, by its outcome.
abbrev pub RemovalCosts :
    {Op L Error : Type 0} → (Op → ℕ) → List Op → ℕ → Result (L × Removed) Error → ℕ → ℕ → Type 0
RemovalCosts place ops i result old new =
    IfOk result (λ r. removal_ticks r.1 (from_place place ops i) old new)

-- The most ticks of such a removal, whatever it returns. None is taken back.
abbrev pub RemovalBound : {Op : Type 0} → (Op → ℕ) → List Op → ℕ → ℕ → ℕ → Type 0
RemovalBound place ops i old new = (old ≤ new) × (new + 3 ≤ old + 4 * from_place place ops i)
