-- Proof machinery: the machine that a step is judged on, if the judging function gets parts of it.
use Rattle.std.specs.Prelude.{◌≡◌, ℕ, List, Some, option_map}
use Rattle.pp_core.specs.declared.entry.CommittedTx.{CommittedTx}
use Rattle.pp_core.specs.declared.entry.SharedEntry.{SharedEntry}
use Rattle.pp_core.specs.declared.entry.LocalEntry.{LocalEntry}
use Rattle.pp_model.specs.Names.{Name}
use Rattle.pp_kind.specs.Object.{Object}
use Rattle.pp_machine.specs.Courses.{Guided}
use Rattle.pp_machine.specs.Machines.{Holds, Seen, config_of}
use Rattle.pp_machine.specs.Transactions.{Txs, course_of, open_at}

-- The parts of a machine other than its shared log.
pub record Rest (Shape Op : Type 0) : Type 0 where
  pub shape : Shape
  pub txs : Txs Shape Op
  pub ids : List ℕ
  pub done : List (CommittedTx Op)
  pub count : ℕ

-- the seen machine with this shared log
abbrev pub seen_with : {Shape Op : Type 0} → Rest Shape Op → Shape × List (SharedEntry Op) →
    Seen Shape Op
seen_with m shared =
    record {
      shape = m.shape;
      config = config_of m.txs m.ids shared.1 m.done;
      count = m.count;
    }

module _ {Shape State Op Undo : Type 0} (o : Object Shape State Op Undo) (m : Rest Shape Op)
    (shared : Shape × List (SharedEntry Op)) (t : Name) where
  -- With the shared log it keeps what each machine keeps, and t is open, with this course.
  pub record HoldsCourse (course : Guided Shape Op) : Type 0 where
    pub holds : Holds o m.shape m.txs m.ids shared m.done m.count
    pub is_open : Some course ≡ option_map course_of (open_at t m.txs.opened)

  -- The same of the local log alone.
  pub record HoldsLocal (local : Shape × List (LocalEntry Op)) : Type 0 where
    pub holds : Holds o m.shape m.txs m.ids shared m.done m.count
    pub is_open : Some local ≡ option_map (λ x. x.local) (open_at t m.txs.opened)

-- There is such a machine.
abbrev pub IsOfMachine : {Shape State Op Undo : Type 0} → Object Shape State Op Undo →
    Shape × List (SharedEntry Op) → Name → Shape × List (LocalEntry Op) →
    Type 0
IsOfMachine {Shape} {State} {Op} o shared t local =
    (m : Rest Shape Op) × HoldsLocal o m shared t local

-- This is true for each machine and transaction with this local log.
abbrev pub OfEach : {Shape State Op Undo : Type 0} → Object Shape State Op Undo →
    Shape × List (LocalEntry Op) → (Seen Shape Op → Name → Type 0) →
    Type 0
OfEach {Shape} {State} {Op} o local P =
    (m : Rest Shape Op) (shared : Shape × List (SharedEntry Op)) (t : Name)
    → HoldsLocal o m shared t local → P (seen_with m shared) t
