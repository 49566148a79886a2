-- Meaning: the operations of a priority queue, and what they return and do.
use Rattle.std.specs.Prelude.{ℤ, pos, Bool, true, false, List, Option, Some, None}
use Rattle.pp_core.specs.declared.answer.Answer.{Answer}
use Rattle.pp_core.specs.declared.answer.Answer.TheVariants.{None as NoAnswer}
use Rattle.pp_core.specs.declared.call.Call.{Call}
use Rattle.pp_core.specs.declared.call.Method.TheVariants.{Insert as InsertCall, Take as TakeCall}
use Rattle.pp_core.specs.declared.call.Method.TheVariants.{Least as LeastCall}
use Rattle.pp_kind.specs.Numbers.{in_range}
use Rattle.pp_kind.specs.Found.{answer_of, is_ranged_found}
use Rattle.pp_kind_priority.specs.declared.op.PrioOp.{PrioOp}
use Rattle.pp_kind_priority.specs.declared.op.PrioOp.TheVariants.{Insert, Take, Least}
use Rattle.pp_kind_priority.specs.Values.{least_of, without_least, with_one, without_one}

-- the value that it finds, if it finds one
abbrev pub found_by : PrioOp → Option ℤ
found_by (Insert value) = None
found_by (Take value) = value
found_by (Least value) = value

-- its method and its argument, at the object 0
abbrev pub call_of : PrioOp → Call
call_of (Insert value) =
    record { object = 0; method = InsertCall; first = value; second = pos 0; third = pos 0 }
call_of (Take value) =
    record { object = 0; method = TakeCall; first = pos 0; second = pos 0; third = pos 0 }
call_of (Least value) =
    record { object = 0; method = LeastCall; first = pos 0; second = pos 0; third = pos 0 }

-- the result that it records
abbrev pub recorded_by : PrioOp → Answer
recorded_by (Insert value) = NoAnswer
recorded_by (Take value) = answer_of value
recorded_by (Least value) = answer_of value

-- the result of a priority queue of these values
abbrev pub given_by : List ℤ → PrioOp → Answer
given_by values (Insert value) = NoAnswer
given_by values (Take value) = answer_of (least_of values)
given_by values (Least value) = answer_of (least_of values)

-- the values afterwards
abbrev pub values_after : List ℤ → PrioOp → List ℤ
values_after values (Insert value) = with_one value values
values_after values (Take value) = without_least values
values_after values (Least value) = values

-- the values before an operation that left these
abbrev pub values_before : List ℤ → PrioOp → List ℤ
values_before values (Insert value) = without_one value values
values_before values (Take (Some x)) = with_one x values
values_before values (Take None) = values
values_before values (Least value) = values

-- all its numbers lie in the range of records
abbrev pub is_ranged : PrioOp → Bool
is_ranged (Insert value) = in_range value
is_ranged (Take value) = is_ranged_found value
is_ranged (Least value) = is_ranged_found value

-- it inserts
abbrev pub in_clique : PrioOp → Bool
in_clique (Insert x) = true
in_clique (Take value) = false
in_clique (Least value) = false
