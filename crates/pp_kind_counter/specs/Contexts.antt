-- Meaning: operations that show that a pair does not swap.
use Rattle.std.specs.Prelude.{ℤ, pos, negsuc, ◌+ℤ◌, ◌-ℤ◌, Bool, true, false, int_lt, if◌then◌else◌}
use Rattle.std.specs.Prelude.{List, [], ◌∷◌, Option, Some, None}
use Rattle.std.specs.Ordering.{int_eq}
use Rattle.pp_kind.specs.Numbers.{in_range}
use Rattle.pp_kind_counter.specs.declared.op.CounterOp.{CounterOp}
use Rattle.pp_kind_counter.specs.declared.op.CounterOp.TheVariants.{Add, Get, FetchAdd}
use Rattle.pp_kind_counter.specs.Movers.{may_swap}

-- none if x is zero, one if it is in the range, or two, of which the first adds the greatest number
-- or the least
abbrev pub reach_by : (zero inside up : Bool) → ℤ → List CounterOp
reach_by true inside up x = []
reach_by false true up x = Add x ∷ []
reach_by false false true x =
    Add (pos 1_000_000_000_000_000_000) ∷ Add (x -ℤ pos 1_000_000_000_000_000_000) ∷ []
reach_by false false false x =
    Add (negsuc 999_999_999_999_999_999) ∷ Add (x +ℤ pos 1_000_000_000_000_000_000) ∷ []

-- additions that lead from zero to x
abbrev pub reach : ℤ → List CounterOp
reach x = reach_by (int_eq x (pos 0)) (in_range x) (int_lt (pos 0) x) x

-- the number at which a pair that does not swap is legal
abbrev pub pair_begins : CounterOp → CounterOp → ℤ
pair_begins (Get value) (Add more) = value
pair_begins (Get value) (Get also) = value
pair_begins (Get value) (FetchAdd more also) = value
pair_begins (FetchAdd by was) (Add more) = was
pair_begins (FetchAdd by was) (Get also) = was
pair_begins (FetchAdd by was) (FetchAdd more also) = was
pair_begins (Add by) (Add more) = pos 0
pair_begins (Add by) (Get value) = value -ℤ by
pair_begins (Add by) (FetchAdd more was) = was -ℤ by

-- the operations before and after such a pair
abbrev pub lists_round : CounterOp → CounterOp → List CounterOp × List CounterOp
lists_round a b = (reach (pair_begins a b), [])

-- the refuting lists of a pair, if it does not swap
abbrev pub refuting_lists : CounterOp → CounterOp → Option (List CounterOp × List CounterOp)
refuting_lists a b = if may_swap a b then None else Some (lists_round a b)
