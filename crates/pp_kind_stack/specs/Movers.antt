-- Meaning: which operations of a stack swap, by a table.
use Rattle.std.specs.Prelude.{ℤ, pos, ℕ, Bool, List, [], ◌∷◌, Some, None}
use Rattle.pp_kind.specs.declared.table.Condition.{Condition}
use Rattle.pp_kind.specs.declared.table.Condition.TheVariants.{Always, Never, Equal, Unequal}
use Rattle.pp_kind.specs.declared.table.Figures.{Figures}
use Rattle.pp_kind.specs.Table.{condition_holds, entry}
use Rattle.pp_kind_stack.specs.declared.op.StackOp.{StackOp}
use Rattle.pp_kind_stack.specs.declared.op.StackOp.TheVariants.{Push, Pop}

-- the row and the column of an operation
abbrev pub form_of : StackOp → ℕ
form_of (Push value) = 0
form_of (Pop (Some x)) = 1
form_of (Pop None) = 2

-- the item that it adds or takes, as both of its numbers
abbrev pub figures_of : StackOp → Figures
figures_of (Push value) = record { from = value; to = value; shift = pos 0 }
figures_of (Pop (Some x)) = record { from = x; to = x; shift = pos 0 }
figures_of (Pop None) = record { from = pos 0; to = pos 0; shift = pos 0 }

-- the number that it leads to
abbrev pub number_of : StackOp → ℤ
number_of op = (figures_of op).to

-- a row for each first operation, and a column for each second
abbrev pub stack_table : List (List Condition)
stack_table =
    (Equal ∷ Unequal ∷ Always ∷ [])
    ∷ (Equal ∷ Equal ∷ Never ∷ [])
    ∷ (Never ∷ Always ∷ Always ∷ [])
    ∷ []

-- whether the table lets the second move left over the first
abbrev pub may_swap : StackOp → StackOp → Bool
may_swap a b = condition_holds (entry stack_table (form_of a) (form_of b)) (figures_of a)
    (figures_of b)
