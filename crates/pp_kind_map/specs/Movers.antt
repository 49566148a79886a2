-- Meaning: which operations of a map swap, by a table.
use Rattle.std.specs.Prelude.{ℤ, pos, ℕ, Bool, true, if◌then◌else◌, List, [], ◌∷◌, Option, Some}
use Rattle.std.specs.Prelude.{None}
use Rattle.std.specs.Ordering.{int_eq}
use Rattle.pp_kind.specs.declared.table.Condition.{Condition}
use Rattle.pp_kind.specs.declared.table.Condition.TheVariants.{Always, Never, Unequal, Chain}
use Rattle.pp_kind.specs.declared.table.Figures.{Figures}
use Rattle.pp_kind.specs.Table.{condition_holds, entry}
use Rattle.pp_kind_map.specs.declared.op.MapOp.{MapOp}
use Rattle.pp_kind_map.specs.declared.op.MapOp.TheVariants.{Put, Get, Remove}
use Rattle.pp_kind_map.specs.Operations.{key_of, found_by, left_by}

-- one of two forms, by whether there was a value
abbrev pub form_by : Option ℤ → ℕ → ℕ → ℕ
form_by None absent present = absent
form_by (Some x) absent present = present

-- the row and the column of an operation
abbrev pub form_of : MapOp → ℕ
form_of (Put key value was) = form_by was 0 1
form_of (Get key found) = form_by found 2 3
form_of (Remove key was) = form_by was 4 5

-- a value as a number, which is 0 if there is none
abbrev pub figure_of : Option ℤ → ℤ
figure_of None = pos 0
figure_of (Some x) = x

-- its figures: what it finds and what it leaves
abbrev pub figures_of : MapOp → Figures
figures_of op = record {
  from = figure_of (found_by op);
  to = figure_of (left_by op);
  shift =
      pos 0;
}

-- the number that it leads to
abbrev pub number_of : MapOp → ℤ
number_of op = (figures_of op).to

-- a row for each first operation, and a column for each second: put, get and remove, each without
-- and with a value that they found
abbrev pub map_table : List (List Condition)
map_table =
    (Always ∷ Unequal ∷ Always ∷ Unequal ∷ Always ∷ Unequal ∷ [])
    ∷ (Always ∷ Chain ∷ Always ∷ Chain ∷ Always ∷ Unequal ∷ [])
    ∷ (Never ∷ Always ∷ Always ∷ Always ∷ Always ∷ Always ∷ [])
    ∷ (Always ∷ Chain ∷ Always ∷ Chain ∷ Always ∷ Unequal ∷ [])
    ∷ (Never ∷ Always ∷ Always ∷ Always ∷ Always ∷ Always ∷ [])
    ∷ (Never ∷ Always ∷ Never ∷ Always ∷ Never ∷ Always ∷ [])
    ∷ []

-- whether the table allows two operations at one key to swap
abbrev pub table_lets : MapOp → MapOp → Bool
table_lets a b = condition_holds (entry map_table (form_of a) (form_of b)) (figures_of a)
    (figures_of b)

-- operations on different keys always swap, and others by the table
abbrev pub may_swap : MapOp → MapOp → Bool
may_swap a b = if int_eq (key_of a) (key_of b) then table_lets a b else true
