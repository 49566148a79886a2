-- Meaning: the operations of a set, and what they return and do.
use Rattle.std.specs.Prelude.{ℤ, pos, Bool, true, false, not}
use Rattle.std.specs.Ordering.{int_cmp}
use Rattle.std.specs.FinSet.{FinSet}
use Rattle.pp_core.specs.declared.answer.Answer.{Answer}
use Rattle.pp_core.specs.declared.answer.Answer.TheVariants.{Truth}
use Rattle.pp_core.specs.declared.call.Call.{Call}
use Rattle.pp_core.specs.declared.call.Method.TheVariants.{Add as AddCall, Remove as RemoveCall}
use Rattle.pp_core.specs.declared.call.Method.TheVariants.{Contains as ContainsCall}
use Rattle.pp_kind.specs.Numbers.{in_range}
use Rattle.pp_kind_set.specs.declared.op.SetOp.{SetOp}
use Rattle.pp_kind_set.specs.declared.op.SetOp.TheVariants.{Add, Remove, Contains}
use Rattle.pp_kind_set.specs.Keys.{contains, insert, remove}

-- its key
abbrev pub key_of : SetOp → ℤ
key_of (Add k changed) = k
key_of (Remove k changed) = k
key_of (Contains k present) = k

-- whether the key is in before the operation, by its result
abbrev pub bit_before : SetOp → Bool
bit_before (Add k changed) = not changed
bit_before (Remove k changed) = changed
bit_before (Contains k present) = present

-- whether the key is in after the operation
abbrev pub bit_after : SetOp → Bool
bit_after (Add k changed) = true
bit_after (Remove k changed) = false
bit_after (Contains k present) = present

-- its method and its argument, at the object 0
abbrev pub call_of : SetOp → Call
call_of (Add k changed) =
    record { object = 0; method = AddCall; first = k; second = pos 0; third = pos 0 }
call_of (Remove k changed) =
    record { object = 0; method = RemoveCall; first = k; second = pos 0; third = pos 0 }
call_of (Contains k present) =
    record { object = 0; method = ContainsCall; first = k; second = pos 0; third = pos 0 }

-- the result that it records
abbrev pub recorded_by : SetOp → Answer
recorded_by (Add k changed) = Truth changed
recorded_by (Remove k changed) = Truth changed
recorded_by (Contains k present) = Truth present

-- the result of a set: whether it changes, or whether the key is in
abbrev pub given_by : FinSet int_cmp → SetOp → Answer
given_by s (Add k changed) = Truth (not (contains s k))
given_by s (Remove k changed) = Truth (contains s k)
given_by s (Contains k present) = Truth (contains s k)

-- the set afterwards
abbrev pub set_after : FinSet int_cmp → SetOp → FinSet int_cmp
set_after s (Add k changed) = insert s k
set_after s (Remove k changed) = remove s k
set_after s (Contains k present) = s

-- the set before an operation that changed it by its result
abbrev pub set_before : FinSet int_cmp → SetOp → FinSet int_cmp
set_before s (Add k true) = remove s k
set_before s (Add k false) = s
set_before s (Remove k true) = insert s k
set_before s (Remove k false) = s
set_before s (Contains k present) = s

-- its key lies in the range of records
abbrev pub is_ranged : SetOp → Bool
is_ranged a = in_range (key_of a)
