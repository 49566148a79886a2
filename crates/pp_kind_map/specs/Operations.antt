-- Meaning: the operations of a map, and what they return and do.
use Rattle.std.specs.Prelude.{ℤ, pos, Bool, ◌&&◌, Option, Some, None}
use Rattle.std.specs.Ordering.{int_cmp}
use Rattle.std.specs.FinMap as map
use Rattle.std.specs.FinMap.{FinMap}
use Rattle.pp_core.specs.declared.answer.Answer.{Answer}
use Rattle.pp_core.specs.declared.call.Call.{Call}
use Rattle.pp_core.specs.declared.call.Method.TheVariants.{Put as PutCall, Get as GetCall}
use Rattle.pp_core.specs.declared.call.Method.TheVariants.{Remove as RemoveCall}
use Rattle.pp_kind.specs.Numbers.{in_range}
use Rattle.pp_kind.specs.Found.{answer_of, is_ranged_found}
use Rattle.pp_kind_map.specs.declared.op.MapOp.{MapOp}
use Rattle.pp_kind_map.specs.declared.op.MapOp.TheVariants.{Put, Get, Remove}

-- its key
abbrev pub key_of : MapOp → ℤ
key_of (Put key value was) = key
key_of (Get key found) = key
key_of (Remove key was) = key

-- the value at its key before it, by its recorded result
abbrev pub found_by : MapOp → Option ℤ
found_by (Put key value was) = was
found_by (Get key found) = found
found_by (Remove key was) = was

-- the cell there after it
abbrev pub left_by : MapOp → Option ℤ
left_by (Put key value was) = Some value
left_by (Get key found) = found
left_by (Remove key was) = None

-- its method and its arguments, at the object 0
abbrev pub call_of : MapOp → Call
call_of (Put key value was) =
    record { object = 0; method = PutCall; first = key; second = value; third = pos 0 }
call_of (Get key found) =
    record { object = 0; method = GetCall; first = key; second = pos 0; third = pos 0 }
call_of (Remove key was) =
    record { object = 0; method = RemoveCall; first = key; second = pos 0; third = pos 0 }

-- the result that it records
abbrev pub recorded_by : MapOp → Answer
recorded_by op = answer_of (found_by op)

-- the result of a map of these values
abbrev pub given_by : FinMap int_cmp ℤ → MapOp → Answer
given_by values op = answer_of (map.get values (key_of op))

-- the values with this one at a key, or with none there
abbrev pub with_value : FinMap int_cmp ℤ → ℤ → Option ℤ → FinMap int_cmp ℤ
with_value values key None = map.remove values key
with_value values key (Some x) = map.insert values key x

-- the values afterwards
abbrev pub values_after : FinMap int_cmp ℤ → MapOp → FinMap int_cmp ℤ
values_after values (Put key value was) = map.insert values key value
values_after values (Get key found) = values
values_after values (Remove key was) = map.remove values key

-- the values before an operation that left these
abbrev pub values_before : FinMap int_cmp ℤ → MapOp → FinMap int_cmp ℤ
values_before values (Put key value was) = with_value values key was
values_before values (Get key found) = values
values_before values (Remove key was) = with_value values key was

-- all its numbers lie in the range of records
abbrev pub is_ranged : MapOp → Bool
is_ranged (Put key value was) = (in_range key && in_range value) && is_ranged_found was
is_ranged (Get key found) = in_range key && is_ranged_found found
is_ranged (Remove key was) = in_range key && is_ranged_found was
