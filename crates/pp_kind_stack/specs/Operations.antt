-- Meaning: the operations of a stack, and what they return and do.
use Rattle.std.specs.Prelude.{ℤ, pos, ◌-◌, Bool, List, [], ◌∷◌, ◌++◌, length, take, slice_get}
use Rattle.std.specs.Prelude.{Option, Some, None}
use Rattle.pp_core.specs.declared.answer.Answer.{Answer}
use Rattle.pp_core.specs.declared.answer.Answer.TheVariants.{None as NoAnswer}
use Rattle.pp_core.specs.declared.call.Call.{Call}
use Rattle.pp_core.specs.declared.call.Method.TheVariants.{StackPush as PushCall}
use Rattle.pp_core.specs.declared.call.Method.TheVariants.{StackPop as PopCall}
use Rattle.pp_kind.specs.Numbers.{in_range}
use Rattle.pp_kind.specs.Found.{answer_of, is_ranged_found}
use Rattle.pp_kind_stack.specs.declared.op.StackOp.{StackOp}
use Rattle.pp_kind_stack.specs.declared.op.StackOp.TheVariants.{Push, Pop}

-- the item at the top, which is the last, if there is one
abbrev pub top_of : List ℤ → Option ℤ
top_of items = slice_get items (length items - 1)

-- the items without the one at the top
abbrev pub without_top : List ℤ → List ℤ
without_top items = take (length items - 1) items

-- its method and its argument, at the object 0
abbrev pub call_of : StackOp → Call
call_of (Push value) =
    record { object = 0; method = PushCall; first = value; second = pos 0; third = pos 0 }
call_of (Pop value) =
    record { object = 0; method = PopCall; first = pos 0; second = pos 0; third = pos 0 }

-- the result that it records
abbrev pub recorded_by : StackOp → Answer
recorded_by (Push value) = NoAnswer
recorded_by (Pop value) = answer_of value

-- the result of a stack of these items
abbrev pub given_by : List ℤ → StackOp → Answer
given_by items (Push value) = NoAnswer
given_by items (Pop value) = answer_of (top_of items)

-- the items afterwards
abbrev pub items_after : List ℤ → StackOp → List ℤ
items_after items (Push value) = items ++ value ∷ []
items_after items (Pop value) = without_top items

-- the items before an operation that left these
abbrev pub items_before : List ℤ → StackOp → List ℤ
items_before items (Push value) = without_top items
items_before items (Pop (Some x)) = items ++ x ∷ []
items_before items (Pop None) = items

-- all its numbers lie in the range of records
abbrev pub is_ranged : StackOp → Bool
is_ranged (Push value) = in_range value
is_ranged (Pop value) = is_ranged_found value
