-- Proof machinery: what taking an entry out of a log leaves, and what it costs.
use Rattle.std.specs.Prelude.{◌≡◌, ℕ, List, Some, Result, Ok, Err}
use Rattle.pp_core.specs.declared.entry.LocalEntry.{LocalEntry}
use Rattle.pp_log.specs.declared.place.Removed.{Removed}
use Rattle.pp_log.specs.Logs.{RemovalBound, RemovesEntry, from_place, removal_ticks}
use Rattle.pp_model.specs.Config.{item, local_ops}
use Rattle.pp_model.specs.Names.{Name}
use Rattle.pp_machine.specs.Transactions.{Open, Txs, open_at, with_course}
use Rattle.pp_kind.specs.Object.{Object}

-- The ticks of taking the i-th of these operations out.
abbrev pub CostsRemoval : {Op E : Type 0} → (Op → ℕ) → List Op → ℕ → Result Removed E → ℕ → ℕ →
    Type 0
CostsRemoval place ops i (Ok removed) old new =
    removal_ticks removed (from_place place ops i) old new
CostsRemoval place ops i (Err e) old new = RemovalBound place ops i old new

-- the outcome without the log
abbrev pub answer_of : {A E : Type 0} → Result (A × Removed) E → Result Removed E
answer_of (Ok r) = Ok r.1
answer_of (Err e) = Err e

-- The result of a removal at this position of the local log of the open transaction t, and the
-- transactions after it.
abbrev pub RemovesAt : {Shape State Op Undo : Type 0} → Object Shape State Op Undo → Txs Shape Op →
    Name → ℕ → Txs Shape Op → Removed → Type 0
RemovesAt {Shape} {State} {Op} o old t i new removed =
    (x : Open Shape Op) → open_at t old.opened ≡ Some x →
    (l : Shape × List (LocalEntry Op)) × RemovesEntry o item x.local i l removed
    × (new ≡ with_course t (record { body = x.body; local = l }) old)

-- The ticks of it.
abbrev pub CostsAt : {Shape Op E : Type 0} → (Op → ℕ) → Txs Shape Op → Name → ℕ → Result Removed E →
    ℕ → ℕ → Type 0
CostsAt {Shape} {Op} place v t i result old new =
    (x : Open Shape Op) → open_at t v.opened ≡ Some x →
    CostsRemoval place (local_ops x.local.1) i result old new
