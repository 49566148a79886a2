-- Meaning: the operations of a queue, and what they return and do.
use Rattle.std.specs.Prelude.{ℤ, pos, ◌-◌, Bool, List, [], ◌∷◌, ◌++◌, length, take, Option, Some}
use Rattle.std.specs.Prelude.{None}
use Rattle.pp_core.specs.declared.answer.Answer.{Answer}
use Rattle.pp_core.specs.declared.answer.Answer.TheVariants.{None as NoAnswer}
use Rattle.pp_core.specs.declared.call.Call.{Call}
use Rattle.pp_core.specs.declared.call.Method.TheVariants.{Enq as EnqCall, Deq as DeqCall}
use Rattle.pp_kind.specs.Numbers.{in_range}
use Rattle.pp_kind.specs.Found.{answer_of, is_ranged_found}
use Rattle.pp_kind_queue.specs.declared.op.QueueOp.{QueueOp}
use Rattle.pp_kind_queue.specs.declared.op.QueueOp.TheVariants.{Enq, Deq}

-- the item at the front, if there is one
abbrev pub front_of : List ℤ → Option ℤ
front_of [] = None
front_of (x ∷ items) = Some x

-- the items without the one at the front
abbrev pub behind_front : List ℤ → List ℤ
behind_front [] = []
behind_front (x ∷ items) = items

-- the items without the one at the back
abbrev pub without_last : List ℤ → List ℤ
without_last items = take (length items - 1) items

-- its method and its argument, at the object 0
abbrev pub call_of : QueueOp → Call
call_of (Enq value) =
    record { object = 0; method = EnqCall; first = value; second = pos 0; third = pos 0 }
call_of (Deq value) =
    record { object = 0; method = DeqCall; first = pos 0; second = pos 0; third = pos 0 }

-- the result that it records
abbrev pub recorded_by : QueueOp → Answer
recorded_by (Enq value) = NoAnswer
recorded_by (Deq value) = answer_of value

-- the result of a queue of these items
abbrev pub given_by : List ℤ → QueueOp → Answer
given_by items (Enq value) = NoAnswer
given_by items (Deq value) = answer_of (front_of items)

-- the items afterwards
abbrev pub items_after : List ℤ → QueueOp → List ℤ
items_after items (Enq value) = items ++ value ∷ []
items_after items (Deq value) = behind_front items

-- the items before an operation that left these
abbrev pub items_before : List ℤ → QueueOp → List ℤ
items_before items (Enq value) = without_last items
items_before items (Deq (Some x)) = x ∷ items
items_before items (Deq None) = items

-- all its numbers lie in the range of records
abbrev pub is_ranged : QueueOp → Bool
is_ranged (Enq value) = in_range value
is_ranged (Deq value) = is_ranged_found value
