-- Meaning: the operations of a counter, and what they return and do.
use Rattle.std.specs.Prelude.{ℤ, pos, ℕ, Bool, ◌&&◌}
use Rattle.pp_core.specs.declared.answer.Answer.{Answer}
use Rattle.pp_core.specs.declared.answer.Answer.TheVariants.{None as NoAnswer, Number}
use Rattle.pp_core.specs.declared.call.Call.{Call}
use Rattle.pp_core.specs.declared.call.Method.TheVariants.{Add as AddCall, Get as GetCall}
use Rattle.pp_core.specs.declared.call.Method.TheVariants.{FetchAdd as FetchAddCall}
use Rattle.pp_kind.specs.Numbers.{in_range}
use Rattle.pp_kind_counter.specs.declared.op.CounterOp.{CounterOp}
use Rattle.pp_kind_counter.specs.declared.op.CounterOp.TheVariants.{Add, Get, FetchAdd}

-- the number that an operation adds
abbrev pub shift_of : CounterOp → ℤ
shift_of (Add by) = by
shift_of (Get value) = pos 0
shift_of (FetchAdd by was) = by

-- its method and its argument, at the object 0
abbrev pub call_of : CounterOp → Call
call_of (Add by) =
    record { object = 0; method = AddCall; first = by; second = pos 0; third = pos 0 }
call_of (Get value) =
    record { object = 0; method = GetCall; first = pos 0; second = pos 0; third = pos 0 }
call_of (FetchAdd by was) =
    record { object = 0; method = FetchAddCall; first = by; second = pos 0; third = pos 0 }

-- the result that it records
abbrev pub recorded_by : CounterOp → Answer
recorded_by (Add by) = NoAnswer
recorded_by (Get value) = Number value
recorded_by (FetchAdd by was) = Number was

-- the result of a counter at this number
abbrev pub given_by : ℤ → CounterOp → Answer
given_by n (Add by) = NoAnswer
given_by n (Get value) = Number n
given_by n (FetchAdd by was) = Number n

-- all its numbers lie in the range of records
abbrev pub is_ranged : CounterOp → Bool
is_ranged (Add by) = in_range by
is_ranged (Get value) = in_range value
is_ranged (FetchAdd by was) = in_range by && in_range was

-- the place of an operation, always 0: a counter is one place
abbrev pub place_of : CounterOp → ℕ
place_of op = 0
