-- Meaning: which operations of a queue swap, by a table.
use Rattle.std.specs.Prelude.{ℤ, pos, ℕ, Bool, List, [], ◌∷◌, Some, None}
use Rattle.pp_kind.specs.declared.table.Condition.{Condition}
use Rattle.pp_kind.specs.declared.table.Condition.TheVariants.{Always, Never, Equal, Unequal}
use Rattle.pp_kind.specs.declared.table.Figures.{Figures}
use Rattle.pp_kind.specs.Table.{condition_holds, entry}
use Rattle.pp_kind_queue.specs.declared.op.QueueOp.{QueueOp}
use Rattle.pp_kind_queue.specs.declared.op.QueueOp.TheVariants.{Enq, Deq}

-- the row and the column of an operation
abbrev pub form_of : QueueOp → ℕ
form_of (Enq value) = 0
form_of (Deq (Some x)) = 1
form_of (Deq None) = 2

-- the item that it adds or takes, as both of its numbers
abbrev pub figures_of : QueueOp → Figures
figures_of (Enq value) = record { from = value; to = value; shift = pos 0 }
figures_of (Deq (Some x)) = record { from = x; to = x; shift = pos 0 }
figures_of (Deq None) = record { from = pos 0; to = pos 0; shift = pos 0 }

-- the number that it leads to
abbrev pub number_of : QueueOp → ℤ
number_of op = (figures_of op).to

-- a row for each first operation, and a column for each second
abbrev pub queue_table : List (List Condition)
queue_table =
    (Equal ∷ Unequal ∷ Always ∷ [])
    ∷ (Always ∷ Equal ∷ Never ∷ [])
    ∷ (Never ∷ Always ∷ Always ∷ [])
    ∷ []

-- whether the table lets the second move left over the first
abbrev pub may_swap : QueueOp → QueueOp → Bool
may_swap a b = condition_holds (entry queue_table (form_of a) (form_of b)) (figures_of a)
    (figures_of b)
