-- Meaning: which operations of a counter swap, by a table.
use Rattle.std.specs.Prelude.{ℤ, pos, ◌+ℤ◌, ℕ, Bool, List, [], ◌∷◌, if◌then◌else◌}
use Rattle.std.specs.Ordering.{int_eq}
use Rattle.pp_kind.specs.declared.table.Condition.{Condition}
use Rattle.pp_kind.specs.declared.table.Condition.TheVariants.{Always, Chain, FirstStill}
use Rattle.pp_kind.specs.declared.table.Condition.TheVariants.{SecondStill}
use Rattle.pp_kind.specs.declared.table.Figures.{Figures}
use Rattle.pp_kind.specs.Table.{condition_holds, entry}
use Rattle.pp_kind_counter.specs.declared.op.CounterOp.{CounterOp}
use Rattle.pp_kind_counter.specs.declared.op.CounterOp.TheVariants.{Add, Get, FetchAdd}

-- the row and the column of an operation
abbrev pub form_of : CounterOp → ℕ
form_of (Add by) = 0
form_of (Get value) = 1
form_of (FetchAdd by was) = 2

-- the number that it finds and the one that it leaves, if its result shows them, and what it adds
abbrev pub figures_of : CounterOp → Figures
figures_of (Add by) = record { from = pos 0; to = pos 0; shift = by }
figures_of (Get value) = record { from = value; to = value; shift = pos 0 }
figures_of (FetchAdd by was) = record { from = was; to = was +ℤ by; shift = by }

-- the number that it leads to
abbrev pub number_of : CounterOp → ℤ
number_of op = (figures_of op).to

-- the form in its gates: its row, or another one if it leaves the number that it finds
abbrev pub gate_form_of : CounterOp → ℕ
gate_form_of (Add by) = if int_eq by (pos 0) then 3 else 0
gate_form_of (Get value) = 4
gate_form_of (FetchAdd by was) = if int_eq by (pos 0) then 5 else 2

-- a row for each first operation, and a column for each second
abbrev pub counter_table : List (List Condition)
counter_table =
    (Always ∷ FirstStill ∷ FirstStill ∷ [])
    ∷ (SecondStill ∷ Chain ∷ Chain ∷ [])
    ∷ (SecondStill ∷ Chain ∷ Chain ∷ [])
    ∷ []

-- whether the table lets the second move left over the first
abbrev pub may_swap : CounterOp → CounterOp → Bool
may_swap a b = condition_holds (entry counter_table (form_of a) (form_of b)) (figures_of a)
    (figures_of b)
