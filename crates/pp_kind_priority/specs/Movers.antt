-- Meaning: which operations of a priority queue swap, by a table.
use Rattle.std.specs.Prelude.{ℤ, pos, ℕ, Bool, List, [], ◌∷◌, Some, None, unwrap_or}
use Rattle.pp_kind.specs.declared.table.Condition.{Condition}
use Rattle.pp_kind.specs.declared.table.Condition.TheVariants.{Always, Never, Unequal, Rising}
use Rattle.pp_kind.specs.declared.table.Condition.TheVariants.{Falling}
use Rattle.pp_kind.specs.declared.table.Figures.{Figures}
use Rattle.pp_kind.specs.Table.{condition_holds, entry}
use Rattle.pp_kind_priority.specs.declared.op.PrioOp.{PrioOp}
use Rattle.pp_kind_priority.specs.declared.op.PrioOp.TheVariants.{Insert, Take, Least}

-- the row and the column of an operation
abbrev pub form_of : PrioOp → ℕ
form_of (Insert value) = 0
form_of (Take (Some x)) = 1
form_of (Least (Some x)) = 2
form_of (Take None) = 3
form_of (Least None) = 3

-- the value that it adds or finds, and else 0
abbrev pub value_of : PrioOp → ℤ
value_of (Insert value) = value
value_of (Take value) = unwrap_or value (pos 0)
value_of (Least value) = unwrap_or value (pos 0)

-- it is both of its numbers
abbrev pub figures_of : PrioOp → Figures
figures_of op = record { from = value_of op; to = value_of op; shift = pos 0 }

-- the number that it leads to
abbrev pub number_of : PrioOp → ℤ
number_of op = (figures_of op).to

-- a row for each first operation, and a column for each second
abbrev pub prio_table : List (List Condition)
prio_table =
    (Always ∷ Unequal ∷ Unequal ∷ Always ∷ [])
    ∷ (Rising ∷ Falling ∷ Falling ∷ Never ∷ [])
    ∷ (Rising ∷ Unequal ∷ Always ∷ Always ∷ [])
    ∷ (Never ∷ Always ∷ Always ∷ Always ∷ [])
    ∷ []

-- whether the table lets the second move left over the first
abbrev pub may_swap : PrioOp → PrioOp → Bool
may_swap a b = condition_holds (entry prio_table (form_of a) (form_of b)) (figures_of a)
    (figures_of b)
