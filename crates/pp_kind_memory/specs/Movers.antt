-- Meaning: which operations of a memory swap, by a table.
use Rattle.std.specs.Prelude.{ℤ, pos, ◌-ℤ◌, ℕ, Bool, true, false, if◌then◌else◌, List, [], ◌∷◌}
use Rattle.std.specs.Ordering.{int_eq}
use Rattle.pp_kind.specs.declared.table.Condition.{Condition}
use Rattle.pp_kind.specs.declared.table.Condition.TheVariants.{Always, Equal, Unequal, Chain}
use Rattle.pp_kind.specs.declared.table.Condition.TheVariants.{Settled, Apart, FromApart}
use Rattle.pp_kind.specs.declared.table.Condition.TheVariants.{IntoApart}
use Rattle.pp_kind.specs.declared.table.Figures.{Figures}
use Rattle.pp_kind.specs.Table.{condition_holds, entry}
use Rattle.pp_kind_memory.specs.declared.op.MemOp.{MemOp}
use Rattle.pp_kind_memory.specs.declared.op.MemOp.TheVariants.{Read, Write, Cas}
use Rattle.pp_kind_memory.specs.Operations.{address_of}

-- the row and the column of an operation, by its call and its result
abbrev pub form_of : MemOp → ℕ
form_of (Read a v) = 0
form_of (Write a v) = 1
form_of (Cas a e n true) = 2
form_of (Cas a e n false) = 3

-- the number that it finds, if its result shows it, and the one that it leaves; for a failing
-- compare-and-swap, a number that it does not find
abbrev pub figures_of : MemOp → Figures
figures_of (Read a v) = record { from = v; to = v; shift = pos 0 }
figures_of (Write a v) = record { from = pos 0; to = v; shift = pos 0 }
figures_of (Cas a e n true) = record { from = e; to = n; shift = n -ℤ e }
figures_of (Cas a e n false) = record { from = e; to = e; shift = pos 0 }

-- the number that its gates read: the one that it leads to, and of a compare-and-swap that was done
-- the one that it expected
abbrev pub number_of : MemOp → ℤ
number_of (Read a v) = v
number_of (Write a v) = v
number_of (Cas a e n true) = e
number_of (Cas a e n false) = e

-- the form in its gates: its row, or another one if it leaves the number that it finds
abbrev pub gate_form_of : MemOp → ℕ
gate_form_of (Read a v) = 4
gate_form_of (Write a v) = 1
gate_form_of (Cas a e n true) = if int_eq e n then 6 else 2
gate_form_of (Cas a e n false) = 7

-- a row for each first operation, and a column for each second
abbrev pub memory_table : List (List Condition)
memory_table =
    (Always ∷ Equal ∷ Chain ∷ Always ∷ [])
    ∷ (Unequal ∷ Equal ∷ Unequal ∷ Equal ∷ [])
    ∷ (Chain ∷ Settled ∷ Chain ∷ FromApart ∷ [])
    ∷ (Always ∷ Apart ∷ IntoApart ∷ Always ∷ [])
    ∷ []

-- whether the table allows two operations at one key to swap
abbrev pub may_swap_there : MemOp → MemOp → Bool
may_swap_there a b = condition_holds (entry memory_table (form_of a) (form_of b)) (figures_of a)
    (figures_of b)

-- those on different addresses always do
abbrev pub may_swap : MemOp → MemOp → Bool
may_swap a b = if int_eq (address_of a) (address_of b) then may_swap_there a b else true
