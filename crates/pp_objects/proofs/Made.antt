-- The operations that the calls of records make.
use Rattle.std.proofs.Common.{◌≡◌, ℕ, ℤ, Bool, true, false, cond, ◌&&◌, IsTrue, Option, Some, None}
use Rattle.std.proofs.Common.{IsSome, IfSome, option_and_then, ◌↔◌, refl, sym, ◌∙◌, ap, subst, inl}
use Rattle.std.proofs.Common.{inr}
use Rattle.pp_core.specs.declared.answer.Answer.{Answer}
use Rattle.pp_core.specs.declared.answer.Answer.TheVariants as answers
use Rattle.pp_core.specs.declared.call.Call.{Call}
use Rattle.pp_core.specs.declared.call.Kind.{Kind}
use Rattle.pp_core.specs.declared.call.Kind.TheVariants as kinds
use Rattle.pp_core.specs.declared.call.Method.{Method}
use Rattle.pp_core.specs.declared.call.Method.TheVariants as methods
use Rattle.pp_kind_memory.specs.declared.op.MemOp.TheVariants as mem
use Rattle.pp_kind_set.specs.declared.op.SetOp.TheVariants as set
use Rattle.pp_kind_map.specs.declared.op.MapOp.TheVariants as map
use Rattle.pp_kind_counter.specs.declared.op.CounterOp.TheVariants as counts
use Rattle.pp_kind_queue.specs.declared.op.QueueOp.TheVariants as queues
use Rattle.pp_kind_stack.specs.declared.op.StackOp.TheVariants as stacks
use Rattle.pp_kind_priority.specs.declared.op.PrioOp.TheVariants as prios
use Rattle.pp_kind.specs.Numbers.{has_ranged_arguments, is_ranged_answer}
use Rattle.pp_objects.specs.declared.act.Act.{Act}
use Rattle.pp_objects.specs.declared.act.Act.TheVariants.{Memory, KeySet, KeyMap, Counter, Queue}
use Rattle.pp_objects.specs.declared.act.Act.TheVariants.{Stack, PriorityQueue}
use Rattle.pp_objects.specs.One.{is_ranged, kind_for, recorded_by, call_of, fits}
use Rattle.pp_objects.specs.laws.One.{one_lawful}
use Rattle.pp_objects.specs.Objects.{act_at}
use Rattle.pp_objects.specs.Calls.{HasMethod, form_of, has_form, with_used, IsCallOf, IsOpOf}
use Rattle.pp_objects.specs.Calls.{op_made, ranged_op, memory_act, set_act, map_act, counter_act}
use Rattle.pp_objects.specs.Calls.{queue_act, stack_act, prio_act, act_made}

-- the facts about an act that is made from a call
IsActOf : Kind → Call → Answer → Act → Type 0
IsActOf kind c answer a = IsTrue (fits kind a) × (record (call_of a) { object = c.object } ≡ with_used kind c) × (recorded_by a ≡ answer)

called : ℕ → Method → ℤ → ℤ → ℤ → Call
called o m x y z = record { object = o; method = m; first = x; second = y; third = z }

memory_made : (o : ℕ) (m : Method) (x y z : ℤ) (answer : Answer) → IfSome (memory_act m (called o m x y z) answer) (IsActOf kinds.Memory (called o m x y z) answer)
unfolding IsActOf called
memory_made o methods.Read x y z (answers.Number v) = (refl, refl, refl)
memory_made o methods.Write x y z answers.None = (refl, refl, refl)
memory_made o methods.Cas x y z (answers.Truth t) = (refl, refl, refl)
memory_made o m x y z answer = tt

set_made : (o : ℕ) (m : Method) (x y z : ℤ) (answer : Answer) → IfSome (set_act m (called o m x y z) answer) (IsActOf kinds.KeySet (called o m x y z) answer)
unfolding IsActOf called
set_made o methods.Add x y z (answers.Truth t) = (refl, refl, refl)
set_made o methods.Remove x y z (answers.Truth t) = (refl, refl, refl)
set_made o methods.Contains x y z (answers.Truth t) = (refl, refl, refl)
set_made o m x y z answer = tt

map_made : (o : ℕ) (m : Method) (x y z : ℤ) (answer : Answer) → IfSome (map_act m (called o m x y z) answer) (IsActOf kinds.KeyMap (called o m x y z) answer)
unfolding IsActOf called
map_made o m x y z (answers.Truth t) = tt
map_made o methods.Put x y z answers.None = (refl, refl, refl)
map_made o methods.Put x y z (answers.Number v) = (refl, refl, refl)
map_made o methods.Get x y z answers.None = (refl, refl, refl)
map_made o methods.Get x y z (answers.Number v) = (refl, refl, refl)
map_made o methods.Remove x y z answers.None = (refl, refl, refl)
map_made o methods.Remove x y z (answers.Number v) = (refl, refl, refl)
map_made o m x y z answer = tt

counter_made : (o : ℕ) (m : Method) (x y z : ℤ) (answer : Answer) → IfSome (counter_act m (called o m x y z) answer) (IsActOf kinds.Counter (called o m x y z) answer)
unfolding IsActOf called
counter_made o methods.Add x y z answers.None = (refl, refl, refl)
counter_made o methods.Get x y z (answers.Number v) = (refl, refl, refl)
counter_made o methods.FetchAdd x y z (answers.Number v) = (refl, refl, refl)
counter_made o m x y z answer = tt

queue_made : (o : ℕ) (m : Method) (x y z : ℤ) (answer : Answer) → IfSome (queue_act m (called o m x y z) answer) (IsActOf kinds.Queue (called o m x y z) answer)
unfolding IsActOf called
queue_made o methods.Enq x y z answers.None = (refl, refl, refl)
queue_made o methods.Deq x y z answers.None = (refl, refl, refl)
queue_made o methods.Deq x y z (answers.Number v) = (refl, refl, refl)
queue_made o m x y z answer = tt

stack_made : (o : ℕ) (m : Method) (x y z : ℤ) (answer : Answer) → IfSome (stack_act m (called o m x y z) answer) (IsActOf kinds.Stack (called o m x y z) answer)
unfolding IsActOf called
stack_made o methods.StackPush x y z answers.None = (refl, refl, refl)
stack_made o methods.StackPop x y z answers.None = (refl, refl, refl)
stack_made o methods.StackPop x y z (answers.Number v) = (refl, refl, refl)
stack_made o m x y z answer = tt

prio_made : (o : ℕ) (m : Method) (x y z : ℤ) (answer : Answer) → IfSome (prio_act m (called o m x y z) answer) (IsActOf kinds.PriorityQueue (called o m x y z) answer)
unfolding IsActOf called
prio_made o methods.Insert x y z answers.None = (refl, refl, refl)
prio_made o methods.Take x y z answers.None = (refl, refl, refl)
prio_made o methods.Take x y z (answers.Number v) = (refl, refl, refl)
prio_made o methods.Least x y z answers.None = (refl, refl, refl)
prio_made o methods.Least x y z (answers.Number v) = (refl, refl, refl)
prio_made o m x y z answer = tt

act_is : (kind : Kind) (c : Call) (answer : Answer) → IfSome (act_made kind c answer) (IsActOf kind c answer)
unfolding IsActOf called
act_is kinds.Memory c answer = memory_made c.object c.method c.first c.second c.third answer
act_is kinds.KeySet c answer = set_made c.object c.method c.first c.second c.third answer
act_is kinds.KeyMap c answer = map_made c.object c.method c.first c.second c.third answer
act_is kinds.Counter c answer = counter_made c.object c.method c.first c.second c.third answer
act_is kinds.Queue c answer = queue_made c.object c.method c.first c.second c.third answer
act_is kinds.Stack c answer = stack_made c.object c.method c.first c.second c.third answer
act_is kinds.PriorityQueue c answer = prio_made c.object c.method c.first c.second c.third answer

made_by : (kind : Kind) (c : Call) (answer : Answer) (a : Act) (r : Option Act) → IfSome r (IsActOf kind c answer) → r ≡ Some a → IsActOf kind c answer a
made_by kind c answer a None h e = absurd (cc)
made_by kind c answer a (Some b) h e = let f : b ≡ a = cc in subst (IsActOf kind c answer) f h

is_made : (kind : Kind) (c : Call) (answer : Answer) (a : Act) → act_made kind c answer ≡ Some a → IsTrue (is_ranged a) → IsOpOf kind c answer (act_at c.object a)
unfolding IsActOf
is_made kind c answer a e r =
    let h = made_by kind c answer a (act_made kind c answer) (act_is kind c answer) e in
    record { fits_kind = h.0; call = h.1; recorded = h.2; ranged = r }

-- An act is of a method of its kind.
pub has_method : (a : Act) → HasMethod (kind_for a) (call_of a).method
has_method (Memory (mem.Read x v)) = inl refl
has_method (Memory (mem.Write x v)) = inr (inl refl)
has_method (Memory (mem.Cas x e n t)) = inr (inr (inl refl))
has_method (KeySet (set.Add x t)) = inl refl
has_method (KeySet (set.Remove x t)) = inr (inl refl)
has_method (KeySet (set.Contains x t)) = inr (inr (inl refl))
has_method (KeyMap (map.Put x y found)) = inl refl
has_method (KeyMap (map.Get x found)) = inr (inl refl)
has_method (KeyMap (map.Remove x found)) = inr (inr (inl refl))
has_method (Counter (counts.Add x)) = inl refl
has_method (Counter (counts.Get v)) = inr (inl refl)
has_method (Counter (counts.FetchAdd x v)) = inr (inr (inl refl))
has_method (Queue (queues.Enq x)) = inl refl
has_method (Queue (queues.Deq found)) = inr (inl refl)
has_method (Stack (stacks.Push value)) = inl refl
has_method (Stack (stacks.Pop found)) = inr (inl refl)
has_method (PriorityQueue (prios.Insert value)) = inl refl
has_method (PriorityQueue (prios.Take found)) = inr (inl refl)
has_method (PriorityQueue (prios.Least found)) = inr (inr (inl refl))

-- the kind has the method, and the result is of its form
IsFormed : Kind → Method → Answer → Type 0
IsFormed kind m answer = HasMethod kind m × IsTrue (has_form (form_of kind m) answer)

memory_formed : (m : Method) (c : Call) (answer : Answer) → IsSome (memory_act m c answer) → IsFormed kinds.Memory m answer
unfolding IsFormed
memory_formed methods.Read c (answers.Number v) h = (inl refl, refl)
memory_formed methods.Write c answers.None h = (inr (inl refl), refl)
memory_formed methods.Cas c (answers.Truth t) h = (inr (inr (inl refl)), refl)
memory_formed m c answer h = absurd (cc)

memory_some : (m : Method) (c : Call) (answer : Answer) → HasMethod kinds.Memory m → IsTrue (has_form (form_of kinds.Memory m) answer) → IsSome (memory_act m c answer)
memory_some methods.Read c (answers.Number v) h form = refl
memory_some methods.Read c answer h form = absurd (cc)
memory_some methods.Write c answers.None h form = refl
memory_some methods.Write c answer h form = absurd (cc)
memory_some methods.Cas c (answers.Truth t) h form = refl
memory_some methods.Cas c answer h form = absurd (cc)
memory_some m c answer h form = elim h [ inl e ↦ absurd (cc) | inr h0 ↦ elim h0 [ inl e ↦ absurd (cc) | inr h1 ↦ elim h1 [ inl e ↦ absurd (cc) | inr h2 ↦ absurd h2 ] ] ]

set_formed : (m : Method) (c : Call) (answer : Answer) → IsSome (set_act m c answer) → IsFormed kinds.KeySet m answer
unfolding IsFormed
set_formed methods.Add c (answers.Truth t) h = (inl refl, refl)
set_formed methods.Remove c (answers.Truth t) h = (inr (inl refl), refl)
set_formed methods.Contains c (answers.Truth t) h = (inr (inr (inl refl)), refl)
set_formed m c answer h = absurd (cc)

set_some : (m : Method) (c : Call) (answer : Answer) → HasMethod kinds.KeySet m → IsTrue (has_form (form_of kinds.KeySet m) answer) → IsSome (set_act m c answer)
set_some methods.Add c (answers.Truth t) h form = refl
set_some methods.Add c answer h form = absurd (cc)
set_some methods.Remove c (answers.Truth t) h form = refl
set_some methods.Remove c answer h form = absurd (cc)
set_some methods.Contains c (answers.Truth t) h form = refl
set_some methods.Contains c answer h form = absurd (cc)
set_some m c answer h form = elim h [ inl e ↦ absurd (cc) | inr h0 ↦ elim h0 [ inl e ↦ absurd (cc) | inr h1 ↦ elim h1 [ inl e ↦ absurd (cc) | inr h2 ↦ absurd h2 ] ] ]

map_formed : (m : Method) (c : Call) (answer : Answer) → IsSome (map_act m c answer) → IsFormed kinds.KeyMap m answer
unfolding IsFormed
map_formed methods.Put c answers.None h = (inl refl, refl)
map_formed methods.Put c (answers.Number v) h = (inl refl, refl)
map_formed methods.Get c answers.None h = (inr (inl refl), refl)
map_formed methods.Get c (answers.Number v) h = (inr (inl refl), refl)
map_formed methods.Remove c answers.None h = (inr (inr (inl refl)), refl)
map_formed methods.Remove c (answers.Number v) h = (inr (inr (inl refl)), refl)
map_formed m c (answers.Truth t) h = absurd (cc)
map_formed m c answer h = absurd (cc)

map_some : (m : Method) (c : Call) (answer : Answer) → HasMethod kinds.KeyMap m → IsTrue (has_form (form_of kinds.KeyMap m) answer) → IsSome (map_act m c answer)
map_some methods.Put c answers.None h form = refl
map_some methods.Put c (answers.Number v) h form = refl
map_some methods.Put c answer h form = absurd (cc)
map_some methods.Get c answers.None h form = refl
map_some methods.Get c (answers.Number v) h form = refl
map_some methods.Get c answer h form = absurd (cc)
map_some methods.Remove c answers.None h form = refl
map_some methods.Remove c (answers.Number v) h form = refl
map_some methods.Remove c answer h form = absurd (cc)
map_some m c answer h form = elim h [ inl e ↦ absurd (cc) | inr h0 ↦ elim h0 [ inl e ↦ absurd (cc) | inr h1 ↦ elim h1 [ inl e ↦ absurd (cc) | inr h2 ↦ absurd h2 ] ] ]

counter_formed : (m : Method) (c : Call) (answer : Answer) → IsSome (counter_act m c answer) → IsFormed kinds.Counter m answer
unfolding IsFormed
counter_formed methods.Add c answers.None h = (inl refl, refl)
counter_formed methods.Get c (answers.Number v) h = (inr (inl refl), refl)
counter_formed methods.FetchAdd c (answers.Number v) h = (inr (inr (inl refl)), refl)
counter_formed m c answer h = absurd (cc)

counter_some : (m : Method) (c : Call) (answer : Answer) → HasMethod kinds.Counter m → IsTrue (has_form (form_of kinds.Counter m) answer) → IsSome (counter_act m c answer)
counter_some methods.Add c answers.None h form = refl
counter_some methods.Add c answer h form = absurd (cc)
counter_some methods.Get c (answers.Number v) h form = refl
counter_some methods.Get c answer h form = absurd (cc)
counter_some methods.FetchAdd c (answers.Number v) h form = refl
counter_some methods.FetchAdd c answer h form = absurd (cc)
counter_some m c answer h form = elim h [ inl e ↦ absurd (cc) | inr h0 ↦ elim h0 [ inl e ↦ absurd (cc) | inr h1 ↦ elim h1 [ inl e ↦ absurd (cc) | inr h2 ↦ absurd h2 ] ] ]

queue_formed : (m : Method) (c : Call) (answer : Answer) → IsSome (queue_act m c answer) → IsFormed kinds.Queue m answer
unfolding IsFormed
queue_formed methods.Enq c answers.None h = (inl refl, refl)
queue_formed methods.Deq c answers.None h = (inr (inl refl), refl)
queue_formed methods.Deq c (answers.Number v) h = (inr (inl refl), refl)
queue_formed m c answer h = absurd (cc)

stack_formed : (m : Method) (c : Call) (answer : Answer) → IsSome (stack_act m c answer) → IsFormed kinds.Stack m answer
unfolding IsFormed
stack_formed methods.StackPush c answers.None h = (inl refl, refl)
stack_formed methods.StackPop c answers.None h = (inr (inl refl), refl)
stack_formed methods.StackPop c (answers.Number v) h = (inr (inl refl), refl)
stack_formed m c answer h = absurd (cc)

prio_formed : (m : Method) (c : Call) (answer : Answer) → IsSome (prio_act m c answer) → IsFormed kinds.PriorityQueue m answer
unfolding IsFormed
prio_formed methods.Insert c answers.None h = (inl refl, refl)
prio_formed methods.Take c answers.None h = (inr (inl refl), refl)
prio_formed methods.Take c (answers.Number v) h = (inr (inl refl), refl)
prio_formed methods.Least c answers.None h = (inr (inr (inl refl)), refl)
prio_formed methods.Least c (answers.Number v) h = (inr (inr (inl refl)), refl)
prio_formed m c answer h = absurd (cc)

queue_some : (m : Method) (c : Call) (answer : Answer) → HasMethod kinds.Queue m → IsTrue (has_form (form_of kinds.Queue m) answer) → IsSome (queue_act m c answer)
queue_some methods.Enq c answers.None h form = refl
queue_some methods.Enq c answer h form = absurd (cc)
queue_some methods.Deq c answers.None h form = refl
queue_some methods.Deq c (answers.Number v) h form = refl
queue_some methods.Deq c answer h form = absurd (cc)
queue_some m c answer h form = elim h [ inl e ↦ absurd (cc) | inr h0 ↦ elim h0 [ inl e ↦ absurd (cc) | inr h1 ↦ absurd h1 ] ]

stack_some : (m : Method) (c : Call) (answer : Answer) → HasMethod kinds.Stack m → IsTrue (has_form (form_of kinds.Stack m) answer) → IsSome (stack_act m c answer)
stack_some methods.StackPush c answers.None h form = refl
stack_some methods.StackPush c answer h form = absurd (cc)
stack_some methods.StackPop c answers.None h form = refl
stack_some methods.StackPop c (answers.Number v) h form = refl
stack_some methods.StackPop c answer h form = absurd (cc)
stack_some m c answer h form = elim h [ inl e ↦ absurd (cc) | inr h0 ↦ elim h0 [ inl e ↦ absurd (cc) | inr h1 ↦ absurd h1 ] ]

prio_some : (m : Method) (c : Call) (answer : Answer) → HasMethod kinds.PriorityQueue m → IsTrue (has_form (form_of kinds.PriorityQueue m) answer) → IsSome (prio_act m c answer)
prio_some methods.Insert c answers.None h form = refl
prio_some methods.Insert c answer h form = absurd (cc)
prio_some methods.Take c answers.None h form = refl
prio_some methods.Take c (answers.Number v) h form = refl
prio_some methods.Take c answer h form = absurd (cc)
prio_some methods.Least c answers.None h form = refl
prio_some methods.Least c (answers.Number v) h form = refl
prio_some methods.Least c answer h form = absurd (cc)
prio_some m c answer h form = elim h [ inl e ↦ absurd (cc) | inr h0 ↦ elim h0 [ inl e ↦ absurd (cc) | inr h1 ↦ elim h1 [ inl e ↦ absurd (cc) | inr h2 ↦ absurd h2 ] ] ]

act_formed : (kind : Kind) (c : Call) (answer : Answer) → IsSome (act_made kind c answer) → IsFormed kind c.method answer
act_formed kinds.Memory c answer h = memory_formed c.method c answer h
act_formed kinds.KeySet c answer h = set_formed c.method c answer h
act_formed kinds.KeyMap c answer h = map_formed c.method c answer h
act_formed kinds.Counter c answer h = counter_formed c.method c answer h
act_formed kinds.Queue c answer h = queue_formed c.method c answer h
act_formed kinds.Stack c answer h = stack_formed c.method c answer h
act_formed kinds.PriorityQueue c answer h = prio_formed c.method c answer h

act_some : (kind : Kind) (c : Call) (answer : Answer) → HasMethod kind c.method → IsTrue (has_form (form_of kind c.method) answer) → IsSome (act_made kind c answer)
act_some kinds.Memory c answer h form = memory_some c.method c answer h form
act_some kinds.KeySet c answer h form = set_some c.method c answer h form
act_some kinds.KeyMap c answer h form = map_some c.method c answer h form
act_some kinds.Counter c answer h form = counter_some c.method c answer h form
act_some kinds.Queue c answer h form = queue_some c.method c answer h form
act_some kinds.Stack c answer h form = stack_some c.method c answer h form
act_some kinds.PriorityQueue c answer h form = prio_some c.method c answer h form

-- An act is ranged exactly if its call and its result are.
module _ (kind : Kind) (c : Call) (answer : Answer) (a : Act) (made : act_made kind c answer ≡ Some a) where
  its_call : has_ranged_arguments (call_of a) ≡ has_ranged_arguments (with_used kind c)
  unfolding IsActOf
  its_call = ap has_ranged_arguments (made_by kind c answer a (act_made kind c answer) (act_is kind c answer) made).1

  its_answer : recorded_by a ≡ answer
  unfolding IsActOf
  its_answer = (made_by kind c answer a (act_made kind c answer) (act_is kind c answer) made).2

  ranged_both : is_ranged a ≡ (has_ranged_arguments (with_used kind c) && is_ranged_answer answer)
  ranged_both = one_lawful.ranged_numbers a ∙ ap (λ b. b && is_ranged_answer (recorded_by a)) its_call ∙ ap (λ r. has_ranged_arguments (with_used kind c) && is_ranged_answer r) its_answer

  op_is : is_ranged_answer answer ≡ true → is_ranged a ≡ true → op_made kind c answer ≡ Some (act_at c.object a)
  op_is near ranged = rw (near, made, ranged) refl

both_first : (x y : Bool) → (x && y) ≡ true → x ≡ true
both_first true y h = refl
both_first false y h = absurd (cc)

-- Exactly these calls make an operation.
called_made : (kind : Kind) (c : Call) (answer : Answer) → IsCallOf kind c answer → IsSome (op_made kind c answer)
called_made kind c answer call = by (act_made kind c answer) refl (act_some kind c answer call.method call.form)
  where
    by : (r : Option Act) → act_made kind c answer ≡ r → IsSome r → IsSome (op_made kind c answer)
    by None e h = absurd (cc)
    by (Some a) e h =
        let ranged : is_ranged a ≡ true = ranged_both kind c answer a e ∙ ap (λ b. b && is_ranged_answer answer) call.arguments ∙ call.ranged in
        rw (op_is kind c answer a e call.ranged ranged) refl

made_called : (kind : Kind) (c : Call) (answer : Answer) → IsSome (op_made kind c answer) → IsCallOf kind c answer
unfolding IsFormed
made_called kind c answer h = by_answer (is_ranged_answer answer) refl h
  where
    by_ranged : (a : Act) → act_made kind c answer ≡ Some a → is_ranged_answer answer ≡ true → (b : Bool) → is_ranged a ≡ b → IsSome (cond b (Some (act_at c.object a)) None) → IsCallOf kind c answer
    by_ranged a e near false r h = absurd (cc)
    by_ranged a e near true r h =
        let formed : IsFormed kind c.method answer = act_formed kind c answer (rw e refl) in
        record { method = formed.0; form = formed.1; arguments = both_first _ _ (sym (ranged_both kind c answer a e) ∙ r); ranged = near }

    by_act : is_ranged_answer answer ≡ true → (r : Option Act) → act_made kind c answer ≡ r → IsSome (option_and_then (ranged_op c.object) r) → IsCallOf kind c answer
    by_act near None e h = absurd (cc)
    by_act near (Some a) e h = by_ranged a e near (is_ranged a) refl h

    by_answer : (b : Bool) → is_ranged_answer answer ≡ b → IsSome (cond b (option_and_then (ranged_op c.object) (act_made kind c answer)) None) → IsCallOf kind c answer
    by_answer false near h = absurd (cc)
    by_answer true near h = by_act near (act_made kind c answer) refl h

-- A call and a result make an operation exactly if they are of the kind and in range.
pub called_exactly : (kind : Kind) (c : Call) (answer : Answer) → IsSome (op_made kind c answer) ↔ IsCallOf kind c answer
called_exactly kind c answer = (made_called kind c answer, called_made kind c answer)

-- An operation that is made from a call has that call.
pub made_is : (kind : Kind) (c : Call) (answer : Answer) → IfSome (op_made kind c answer) (IsOpOf kind c answer)
made_is kind c answer = by_answer (is_ranged_answer answer)
  where
    by_ranged : (a : Act) → act_made kind c answer ≡ Some a → (b : Bool) → is_ranged a ≡ b → IfSome (cond b (Some (act_at c.object a)) None) (IsOpOf kind c answer)
    by_ranged a e false r = tt
    by_ranged a e true r = is_made kind c answer a e r

    by_act : (r : Option Act) → act_made kind c answer ≡ r → IfSome (option_and_then (ranged_op c.object) r) (IsOpOf kind c answer)
    by_act None e = tt
    by_act (Some a) e = by_ranged a e (is_ranged a) refl

    by_answer : (b : Bool) → IfSome (cond b (option_and_then (ranged_op c.object) (act_made kind c answer)) None) (IsOpOf kind c answer)
    by_answer false = tt
    by_answer true = by_act (act_made kind c answer) refl
