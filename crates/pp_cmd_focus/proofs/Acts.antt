-- An operation is made of a call on one object as on another.
use Rattle.std.proofs.Common.{◌≡◌, ℕ, ℤ, refl}
use Rattle.pp_core.specs.declared.answer.Answer.{Answer}
use Rattle.pp_core.specs.declared.answer.Answer.TheVariants as answers
use Rattle.pp_core.specs.declared.call.Call.{Call}
use Rattle.pp_core.specs.declared.call.Kind.{Kind}
use Rattle.pp_core.specs.declared.call.Kind.TheVariants as kinds
use Rattle.pp_core.specs.declared.call.Method.{Method}
use Rattle.pp_core.specs.declared.call.Method.TheVariants as methods
use Rattle.pp_objects.specs.Calls.{memory_act, set_act, map_act, counter_act, queue_act, stack_act, prio_act, act_made}

called : ℕ → Method → ℤ → ℤ → ℤ → Call
called o m x y z = record { object = o; method = m; first = x; second = y; third = z }

memory_same : (o q : ℕ) (m n : Method) (x y z : ℤ) (answer : Answer) → memory_act m (called o n x y z) answer ≡ memory_act m (called q n x y z) answer
unfolding called
memory_same o q methods.Read n x y z (answers.Number v) = refl
memory_same o q methods.Write n x y z answers.None = refl
memory_same o q methods.Cas n x y z (answers.Truth t) = refl
memory_same o q m n x y z answer = refl

set_same : (o q : ℕ) (m n : Method) (x y z : ℤ) (answer : Answer) → set_act m (called o n x y z) answer ≡ set_act m (called q n x y z) answer
unfolding called
set_same o q methods.Add n x y z (answers.Truth t) = refl
set_same o q methods.Remove n x y z (answers.Truth t) = refl
set_same o q methods.Contains n x y z (answers.Truth t) = refl
set_same o q m n x y z answer = refl

map_same : (o q : ℕ) (m n : Method) (x y z : ℤ) (answer : Answer) → map_act m (called o n x y z) answer ≡ map_act m (called q n x y z) answer
unfolding called
map_same o q m n x y z (answers.Truth t) = refl
map_same o q methods.Put n x y z answers.None = refl
map_same o q methods.Put n x y z (answers.Number v) = refl
map_same o q methods.Get n x y z answers.None = refl
map_same o q methods.Get n x y z (answers.Number v) = refl
map_same o q methods.Remove n x y z answers.None = refl
map_same o q methods.Remove n x y z (answers.Number v) = refl
map_same o q m n x y z answer = refl

counter_same : (o q : ℕ) (m n : Method) (x y z : ℤ) (answer : Answer) → counter_act m (called o n x y z) answer ≡ counter_act m (called q n x y z) answer
unfolding called
counter_same o q methods.Add n x y z answers.None = refl
counter_same o q methods.Get n x y z (answers.Number v) = refl
counter_same o q methods.FetchAdd n x y z (answers.Number v) = refl
counter_same o q m n x y z answer = refl

queue_same : (o q : ℕ) (m n : Method) (x y z : ℤ) (answer : Answer) → queue_act m (called o n x y z) answer ≡ queue_act m (called q n x y z) answer
unfolding called
queue_same o q methods.Enq n x y z answers.None = refl
queue_same o q methods.Deq n x y z answers.None = refl
queue_same o q methods.Deq n x y z (answers.Number v) = refl
queue_same o q m n x y z answer = refl

stack_same : (o q : ℕ) (m n : Method) (x y z : ℤ) (answer : Answer) → stack_act m (called o n x y z) answer ≡ stack_act m (called q n x y z) answer
unfolding called
stack_same o q methods.StackPush n x y z answers.None = refl
stack_same o q methods.StackPop n x y z answers.None = refl
stack_same o q methods.StackPop n x y z (answers.Number v) = refl
stack_same o q m n x y z answer = refl

prio_same : (o q : ℕ) (m n : Method) (x y z : ℤ) (answer : Answer) → prio_act m (called o n x y z) answer ≡ prio_act m (called q n x y z) answer
unfolding called
prio_same o q methods.Insert n x y z answers.None = refl
prio_same o q methods.Take n x y z answers.None = refl
prio_same o q methods.Take n x y z (answers.Number v) = refl
prio_same o q methods.Least n x y z answers.None = refl
prio_same o q methods.Least n x y z (answers.Number v) = refl
prio_same o q m n x y z answer = refl

-- The act of a call does not depend on the place of its object.
pub act_same : (kind : Kind) (c : Call) (q : ℕ) (answer : Answer) → act_made kind (record c { object = q }) answer ≡ act_made kind c answer
unfolding called
act_same kinds.Memory c q answer = memory_same q c.object c.method c.method c.first c.second c.third answer
act_same kinds.KeySet c q answer = set_same q c.object c.method c.method c.first c.second c.third answer
act_same kinds.KeyMap c q answer = map_same q c.object c.method c.method c.first c.second c.third answer
act_same kinds.Counter c q answer = counter_same q c.object c.method c.method c.first c.second c.third answer
act_same kinds.Queue c q answer = queue_same q c.object c.method c.method c.first c.second c.third answer
act_same kinds.Stack c q answer = stack_same q c.object c.method c.method c.first c.second c.third answer
act_same kinds.PriorityQueue c q answer = prio_same q c.object c.method c.method c.first c.second c.third answer
