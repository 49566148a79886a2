-- The facts about a record's call after the tests before the last one.
use Rattle.std.proofs.Common.{◌≡◌, ◌&&◌, ℤ, Bool, true, false, IsTrue, List, nat_lt, Some, refl, ap}
use Rattle.std.specs.List.{slice_get}
use Rattle.std.proofs.lemmas.Bool.{and_parts, and_from}
use Rattle.pp_core.specs.declared.answer.Answer.{Answer}
use Rattle.pp_core.specs.declared.call.Call.{Call}
use Rattle.pp_core.specs.declared.call.Kind.{Kind}
use Rattle.pp_kind.specs.Numbers.{in_range, has_ranged_arguments, is_ranged_answer}
use Rattle.pp_objects.specs.declared.act.Op.{Op}
use Rattle.pp_objects.specs.Objects.{objects}
use Rattle.pp_objects.specs.Calls.{HasMethod, form_of, has_form, arity_of, if_used, IsCallOf, IsOpOf}

-- A number in range, or 0 in its place, is in range.
used_ranged : (used : Bool) (n : ℤ) → IsTrue (in_range n) → IsTrue (in_range (if_used used n))
used_ranged true n near = near
used_ranged false n near = refl

-- a call of three numbers in range has arguments in range
pub all_ranged : (first second third : ℤ) → IsTrue (in_range first) → IsTrue (in_range second)
    → IsTrue (in_range third) → IsTrue (in_range first && in_range second && in_range third)
all_ranged first second third near also too =
    and_from (in_range first && in_range second) (in_range third)
    (and_from (in_range first) (in_range second) near also) too

-- A call that passed the tests before the last makes an operation.
pub is_call : (kind : Kind) (c : Call) (answer : Answer) → HasMethod kind c.method → IsTrue (has_form (form_of kind c.method) answer)
    → IsTrue (has_ranged_arguments c) → IsTrue (is_ranged_answer answer) → IsCallOf kind c answer
is_call kind c answer method form near ranged =
    let used = arity_of kind c.method in
    let three = and_parts (in_range c.first && in_range c.second) (in_range c.third) near in
    let parts = and_parts (in_range c.first) (in_range c.second) three.0 in
    let first = used_ranged (nat_lt 0 used) c.first parts.0 in
    let second = used_ranged (nat_lt 1 used) c.second parts.1 in
    let third = used_ranged (nat_lt 2 used) c.third three.1 in
    record { method = method; form = form; arguments = and_from _ _ (and_from _ _ first second) third; ranged = ranged }

-- The operation of a call on the object at its place fits there.
pub fits_there : (kinds : List Kind) (kind : Kind) (c : Call) (answer : Answer) (op : Op)
    → slice_get kinds c.object ≡ Some kind → IsOpOf kind c answer op → IsTrue (objects.fits kinds op)
fits_there kinds kind c answer op there call =
    let same : op.object ≡ c.object = ap (λ (x : Call). x.object) call.call in
    rw (same, there) call.fits_kind
