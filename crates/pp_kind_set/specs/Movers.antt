-- Meaning: which operations of a set swap, by a table.
use Rattle.std.specs.Prelude.{ℤ, pos, ℕ, Bool, true, false, if◌then◌else◌, List, [], ◌∷◌}
use Rattle.std.specs.Ordering.{int_eq}
use Rattle.pp_kind.specs.declared.table.Condition.{Condition}
use Rattle.pp_kind.specs.declared.table.Condition.TheVariants.{Always, Never}
use Rattle.pp_kind.specs.declared.table.Figures.{Figures}
use Rattle.pp_kind.specs.Table.{condition_holds, entry}
use Rattle.pp_kind_set.specs.declared.op.SetOp.{SetOp}
use Rattle.pp_kind_set.specs.declared.op.SetOp.TheVariants.{Add, Remove, Contains}
use Rattle.pp_kind_set.specs.Operations.{key_of}

-- the row and the column of an operation, by its call and its result
abbrev pub form_of : SetOp → ℕ
form_of (Add k true) = 0
form_of (Add k false) = 1
form_of (Remove k true) = 2
form_of (Remove k false) = 3
form_of (Contains k true) = 4
form_of (Contains k false) = 5

-- no number matters
abbrev pub no_figures : Figures
no_figures = record { from = pos 0; to = pos 0; shift = pos 0 }

-- so each counts as leading to 0
abbrev pub number_of : SetOp → ℤ
number_of op = pos 0

-- a row for each first operation, and a column for each second
abbrev pub set_table : List (List Condition)
set_table =
    (Always ∷ Never ∷ Never ∷ Always ∷ Never ∷ Always ∷ [])
    ∷ (Always ∷ Always ∷ Never ∷ Always ∷ Always ∷ Always ∷ [])
    ∷ (Never ∷ Always ∷ Always ∷ Never ∷ Always ∷ Never ∷ [])
    ∷ (Never ∷ Always ∷ Always ∷ Always ∷ Always ∷ Always ∷ [])
    ∷ (Always ∷ Always ∷ Never ∷ Always ∷ Always ∷ Always ∷ [])
    ∷ (Never ∷ Always ∷ Always ∷ Always ∷ Always ∷ Always ∷ [])
    ∷ []

-- whether the table allows two operations at one key to swap
abbrev pub may_swap_there : SetOp → SetOp → Bool
may_swap_there a b = condition_holds (entry set_table (form_of a) (form_of b)) no_figures no_figures

-- those on different keys always do
abbrev pub may_swap : SetOp → SetOp → Bool
may_swap a b = if int_eq (key_of a) (key_of b) then may_swap_there a b else true
