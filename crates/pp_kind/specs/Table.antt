-- Meaning: what the conditions mean, and the entries of a table.
use Rattle.std.specs.Prelude.{pos, ℕ, Bool, true, false, not, ◌&&◌, ◌||◌, int_le, List, []}
use Rattle.std.specs.Prelude.{slice_index_or}
use Rattle.std.specs.Ordering.{int_eq}
use Rattle.pp_kind.specs.declared.table.Condition.{Condition}
use Rattle.pp_kind.specs.declared.table.Condition.TheVariants.{Always, Never, Equal, Unequal}
use Rattle.pp_kind.specs.declared.table.Condition.TheVariants.{Chain, FirstStill, SecondStill}
use Rattle.pp_kind.specs.declared.table.Condition.TheVariants.{Settled, Apart, FromApart}
use Rattle.pp_kind.specs.declared.table.Condition.TheVariants.{IntoApart, Rising, Falling}
use Rattle.pp_kind.specs.declared.table.Figures.{Figures}

-- whether a condition is true for the figures x of the first operation and y of the second
abbrev pub condition_holds : Condition → Figures → Figures → Bool
condition_holds Always x y = true
condition_holds Never x y = false
condition_holds Equal x y = int_eq x.to y.to
condition_holds Unequal x y = not (int_eq x.to y.from)
condition_holds Chain x y = not (int_eq x.to y.from) ||
    (int_eq x.from x.to && int_eq x.to y.from && int_eq y.from y.to)
condition_holds FirstStill x y = int_eq x.shift (pos 0)
condition_holds SecondStill x y = int_eq y.shift (pos 0)
condition_holds Settled x y = int_eq x.to y.to && int_eq x.shift (pos 0)
condition_holds Apart x y = not (int_eq x.to y.to)
condition_holds FromApart x y = not (int_eq x.from y.to) || int_eq x.to y.to
condition_holds IntoApart x y = not (int_eq y.to x.to) || int_eq y.from x.to
condition_holds Rising x y = int_le x.to y.to
condition_holds Falling x y = int_le y.to x.to

-- the entry at a row and a column, both within the table
abbrev pub entry : List (List Condition) → ℕ → ℕ → Condition
entry rows a b = slice_index_or (slice_index_or rows a []) b Always
