-- Meaning: the calls of the kinds: their words, their arguments, and the operations that records
-- make of them.
use Rattle.std.specs.Prelude.{◌≡◌, ℕ, ℤ, pos, nat_lt, Bool, true, false, IsTrue, if◌then◌else◌}
use Rattle.std.specs.Prelude.{List, [], ◌∷◌, Option, Some, None, option_and_then}
use Rattle.pp_core.specs.declared.answer.Answer.{Answer}
use Rattle.pp_core.specs.declared.answer.Answer.TheVariants as answers
use Rattle.pp_core.specs.declared.call.Call.{Call}
use Rattle.pp_core.specs.declared.call.Kind.{Kind}
use Rattle.pp_core.specs.declared.call.Kind.TheVariants as kinds
use Rattle.pp_core.specs.declared.call.Method.{Method}
use Rattle.pp_core.specs.declared.call.Method.TheVariants as methods
use Rattle.pp_core.specs.Words.{named, method_word}
use Rattle.pp_model.specs.Lists.{In}
use Rattle.pp_kind.specs.Numbers.{has_ranged_arguments, is_ranged_answer}
use Rattle.pp_kind_memory.specs.declared.op.MemOp.TheVariants as mem
use Rattle.pp_kind_set.specs.declared.op.SetOp.TheVariants as set
use Rattle.pp_kind_map.specs.declared.op.MapOp.TheVariants as map
use Rattle.pp_kind_counter.specs.declared.op.CounterOp.TheVariants as counts
use Rattle.pp_kind_queue.specs.declared.op.QueueOp.TheVariants as queues
use Rattle.pp_kind_stack.specs.declared.op.StackOp.TheVariants as stacks
use Rattle.pp_kind_priority.specs.declared.op.PrioOp.TheVariants as prios
use Rattle.pp_objects.specs.declared.act.Act.{Act}
use Rattle.pp_objects.specs.declared.act.Act.TheVariants.{Memory, KeySet, KeyMap, Counter, Queue}
use Rattle.pp_objects.specs.declared.act.Act.TheVariants.{Stack, PriorityQueue}
use Rattle.pp_objects.specs.declared.act.Op.{Op}
use Rattle.pp_objects.specs.declared.form.Form.{Form}
use Rattle.pp_objects.specs.declared.form.Form.TheVariants as forms
use Rattle.pp_objects.specs.One.{is_ranged, fits}
use Rattle.pp_objects.specs.Objects.{objects, act_at}

-- the methods of the objects of a kind
abbrev pub methods_of : Kind → List Method
methods_of kinds.Memory = methods.Read ∷ methods.Write ∷ methods.Cas ∷ []
methods_of kinds.KeySet = methods.Add ∷ methods.Remove ∷ methods.Contains ∷ []
methods_of kinds.KeyMap = methods.Put ∷ methods.Get ∷ methods.Remove ∷ []
methods_of kinds.Counter = methods.Add ∷ methods.Get ∷ methods.FetchAdd ∷ []
methods_of kinds.Queue = methods.Enq ∷ methods.Deq ∷ []
methods_of kinds.Stack = methods.StackPush ∷ methods.StackPop ∷ []
methods_of kinds.PriorityQueue = methods.Insert ∷ methods.Take ∷ methods.Least ∷ []

-- objects of the kind have the method
abbrev pub HasMethod : Kind → Method → Type 0
HasMethod kind method = In method (methods_of kind)

-- objects of the kind have the method, and this is its word
abbrev pub HasMethodNamed : Kind → List ℕ → Method → Type 0
HasMethodNamed kind word method = HasMethod kind method × (method_word method ≡ word)

-- the method that a kind's objects have under this word
abbrev pub method_named : Kind → List ℕ → Option Method
method_named kind word = named method_word (methods_of kind) word

-- how many arguments a call has; the variable `kind` is used if it does not depend on the kind
abbrev pub arity_of : Kind → Method → ℕ
arity_of kind methods.Read = 1
arity_of kind methods.Write = 2
arity_of kind methods.Cas = 3
arity_of kind methods.Add = 1
arity_of kind methods.Remove = 1
arity_of kind methods.Contains = 1
arity_of kind methods.Put = 2
arity_of kinds.Memory methods.Get = 1
arity_of kinds.KeySet methods.Get = 1
arity_of kinds.KeyMap methods.Get = 1
arity_of kinds.Counter methods.Get = 0
arity_of kinds.Queue methods.Get = 1
arity_of kinds.Stack methods.Get = 1
arity_of kinds.PriorityQueue methods.Get = 1
arity_of kind methods.FetchAdd = 1
arity_of kind methods.Enq = 1
arity_of kind methods.Deq = 0
arity_of kind methods.StackPush = 1
arity_of kind methods.StackPop = 0
arity_of kind methods.Insert = 1
arity_of kind methods.Take = 0
arity_of kind methods.Least = 0

-- the form of the results of a method; the variable `kind` is used if it does not depend on the
-- kind
abbrev pub form_of : Kind → Method → Form
form_of kind methods.Read = forms.Number
form_of kind methods.Write = forms.Nothing
form_of kind methods.Cas = forms.Truth
form_of kinds.Memory methods.Add = forms.Truth
form_of kinds.KeySet methods.Add = forms.Truth
form_of kinds.KeyMap methods.Add = forms.Truth
form_of kinds.Counter methods.Add = forms.Nothing
form_of kinds.Queue methods.Add = forms.Truth
form_of kinds.Stack methods.Add = forms.Truth
form_of kinds.PriorityQueue methods.Add = forms.Truth
form_of kinds.Memory methods.Remove = forms.Truth
form_of kinds.KeySet methods.Remove = forms.Truth
form_of kinds.KeyMap methods.Remove = forms.Found
form_of kinds.Counter methods.Remove = forms.Truth
form_of kinds.Queue methods.Remove = forms.Truth
form_of kinds.Stack methods.Remove = forms.Truth
form_of kinds.PriorityQueue methods.Remove = forms.Truth
form_of kind methods.Contains = forms.Truth
form_of kind methods.Put = forms.Found
form_of kinds.Memory methods.Get = forms.Found
form_of kinds.KeySet methods.Get = forms.Found
form_of kinds.KeyMap methods.Get = forms.Found
form_of kinds.Counter methods.Get = forms.Number
form_of kinds.Queue methods.Get = forms.Found
form_of kinds.Stack methods.Get = forms.Found
form_of kinds.PriorityQueue methods.Get = forms.Found
form_of kind methods.FetchAdd = forms.Number
form_of kind methods.Enq = forms.Nothing
form_of kind methods.Deq = forms.Found
form_of kind methods.StackPush = forms.Nothing
form_of kind methods.StackPop = forms.Found
form_of kind methods.Insert = forms.Nothing
form_of kind methods.Take = forms.Found
form_of kind methods.Least = forms.Found

-- the result is of the form
abbrev pub has_form : Form → Answer → Bool
has_form forms.Nothing answers.None = true
has_form forms.Nothing (answers.Number n) = false
has_form forms.Nothing (answers.Truth t) = false
has_form forms.Number answers.None = false
has_form forms.Number (answers.Number n) = true
has_form forms.Number (answers.Truth t) = false
has_form forms.Truth answers.None = false
has_form forms.Truth (answers.Number n) = false
has_form forms.Truth (answers.Truth t) = true
has_form forms.Found answers.None = true
has_form forms.Found (answers.Number n) = true
has_form forms.Found (answers.Truth t) = false

-- an argument if it is used, and else 0
abbrev pub if_used : Bool → ℤ → ℤ
if_used used n = if used then n else pos 0

-- the call with 0 for each argument that it does not have
abbrev pub with_used : Kind → Call → Call
with_used kind c = record c {
  first = if_used (nat_lt 0 (arity_of kind c.method)) c.first;
  second = if_used (nat_lt 1 (arity_of kind c.method)) c.second;
  third = if_used (nat_lt 2 (arity_of kind c.method)) c.third;
}

-- objects of the kind have the method, the result is of its form, and all numbers lie in the range
-- of records
pub record IsCallOf (kind : Kind) (c : Call) (answer : Answer) : Type 0 where
  pub method : HasMethod kind c.method
  pub form : IsTrue (has_form (form_of kind c.method) answer)
  pub arguments : IsTrue (has_ranged_arguments (with_used kind c))
  pub ranged : IsTrue (is_ranged_answer answer)

-- the operation is this call on an object of the kind, with this result, and its numbers lie in the
-- range of records
pub record IsOpOf (kind : Kind) (c : Call) (answer : Answer) (op : Op) : Type 0 where
  pub fits_kind : IsTrue (fits kind op.act)
  pub call : objects.call op ≡ with_used kind c
  pub recorded : objects.recorded op ≡ answer
  pub ranged : IsTrue (objects.ranged op)

-- the act of a call on a memory, if a memory has the method and the result is of the form that the
-- method returns
abbrev pub memory_act : Method → Call → Answer → Option Act
memory_act methods.Read c (answers.Number value) = Some (Memory (mem.Read c.first value))
memory_act methods.Read c answers.None = None
memory_act methods.Read c (answers.Truth t) = None
memory_act methods.Write c answers.None = Some (Memory (mem.Write c.first c.second))
memory_act methods.Write c (answers.Number n) = None
memory_act methods.Write c (answers.Truth t) = None
memory_act methods.Cas c (answers.Truth done) =
    Some (Memory (mem.Cas c.first c.second c.third done))
memory_act methods.Cas c answers.None = None
memory_act methods.Cas c (answers.Number n) = None
memory_act methods.Add c answer = None
memory_act methods.Remove c answer = None
memory_act methods.Contains c answer = None
memory_act methods.Put c answer = None
memory_act methods.Get c answer = None
memory_act methods.FetchAdd c answer = None
memory_act methods.Enq c answer = None
memory_act methods.Deq c answer = None
memory_act methods.StackPush c answer = None
memory_act methods.StackPop c answer = None
memory_act methods.Insert c answer = None
memory_act methods.Take c answer = None
memory_act methods.Least c answer = None

-- the same for a set
abbrev pub set_act : Method → Call → Answer → Option Act
set_act methods.Add c (answers.Truth t) = Some (KeySet (set.Add c.first t))
set_act methods.Add c answers.None = None
set_act methods.Add c (answers.Number n) = None
set_act methods.Remove c (answers.Truth t) = Some (KeySet (set.Remove c.first t))
set_act methods.Remove c answers.None = None
set_act methods.Remove c (answers.Number n) = None
set_act methods.Contains c (answers.Truth t) = Some (KeySet (set.Contains c.first t))
set_act methods.Contains c answers.None = None
set_act methods.Contains c (answers.Number n) = None
set_act methods.Read c answer = None
set_act methods.Write c answer = None
set_act methods.Cas c answer = None
set_act methods.Put c answer = None
set_act methods.Get c answer = None
set_act methods.FetchAdd c answer = None
set_act methods.Enq c answer = None
set_act methods.Deq c answer = None
set_act methods.StackPush c answer = None
set_act methods.StackPop c answer = None
set_act methods.Insert c answer = None
set_act methods.Take c answer = None
set_act methods.Least c answer = None

-- the value that a call found, if its result is of that form
abbrev pub value_of : Answer → Option (Option ℤ)
value_of answers.None = Some None
value_of (answers.Number value) = Some (Some value)
value_of (answers.Truth t) = None

-- the act of a call on a map that found this value
abbrev pub map_act_of : Method → Call → Option ℤ → Option Act
map_act_of methods.Put c found = Some (KeyMap (map.Put c.first c.second found))
map_act_of methods.Get c found = Some (KeyMap (map.Get c.first found))
map_act_of methods.Remove c found = Some (KeyMap (map.Remove c.first found))
map_act_of methods.Read c found = None
map_act_of methods.Write c found = None
map_act_of methods.Cas c found = None
map_act_of methods.Add c found = None
map_act_of methods.Contains c found = None
map_act_of methods.FetchAdd c found = None
map_act_of methods.Enq c found = None
map_act_of methods.Deq c found = None
map_act_of methods.StackPush c found = None
map_act_of methods.StackPop c found = None
map_act_of methods.Insert c found = None
map_act_of methods.Take c found = None
map_act_of methods.Least c found = None

-- the act of a call on a map
abbrev pub map_act : Method → Call → Answer → Option Act
map_act method c answer = option_and_then (map_act_of method c) (value_of answer)

-- the act of a call on a counter
abbrev pub counter_act : Method → Call → Answer → Option Act
counter_act methods.Add c answers.None = Some (Counter (counts.Add c.first))
counter_act methods.Add c (answers.Number n) = None
counter_act methods.Add c (answers.Truth t) = None
counter_act methods.Get c (answers.Number value) = Some (Counter (counts.Get value))
counter_act methods.Get c answers.None = None
counter_act methods.Get c (answers.Truth t) = None
counter_act methods.FetchAdd c (answers.Number value) =
    Some (Counter (counts.FetchAdd c.first value))
counter_act methods.FetchAdd c answers.None = None
counter_act methods.FetchAdd c (answers.Truth t) = None
counter_act methods.Read c answer = None
counter_act methods.Write c answer = None
counter_act methods.Cas c answer = None
counter_act methods.Remove c answer = None
counter_act methods.Contains c answer = None
counter_act methods.Put c answer = None
counter_act methods.Enq c answer = None
counter_act methods.Deq c answer = None
counter_act methods.StackPush c answer = None
counter_act methods.StackPop c answer = None
counter_act methods.Insert c answer = None
counter_act methods.Take c answer = None
counter_act methods.Least c answer = None

-- the act of a call on a queue
abbrev pub queue_act : Method → Call → Answer → Option Act
queue_act methods.Enq c answers.None = Some (Queue (queues.Enq c.first))
queue_act methods.Enq c (answers.Number n) = None
queue_act methods.Enq c (answers.Truth t) = None
queue_act methods.Deq c answers.None = Some (Queue (queues.Deq None))
queue_act methods.Deq c (answers.Number value) = Some (Queue (queues.Deq (Some value)))
queue_act methods.Deq c (answers.Truth t) = None
queue_act methods.Read c answer = None
queue_act methods.Write c answer = None
queue_act methods.Cas c answer = None
queue_act methods.Add c answer = None
queue_act methods.Remove c answer = None
queue_act methods.Contains c answer = None
queue_act methods.Put c answer = None
queue_act methods.Get c answer = None
queue_act methods.FetchAdd c answer = None
queue_act methods.StackPush c answer = None
queue_act methods.StackPop c answer = None
queue_act methods.Insert c answer = None
queue_act methods.Take c answer = None
queue_act methods.Least c answer = None

-- the act of a call on a stack
abbrev pub stack_act : Method → Call → Answer → Option Act
stack_act methods.StackPush c answers.None = Some (Stack (stacks.Push c.first))
stack_act methods.StackPush c (answers.Number n) = None
stack_act methods.StackPush c (answers.Truth t) = None
stack_act methods.StackPop c answers.None = Some (Stack (stacks.Pop None))
stack_act methods.StackPop c (answers.Number value) = Some (Stack (stacks.Pop (Some value)))
stack_act methods.StackPop c (answers.Truth t) = None
stack_act methods.Read c answer = None
stack_act methods.Write c answer = None
stack_act methods.Cas c answer = None
stack_act methods.Add c answer = None
stack_act methods.Remove c answer = None
stack_act methods.Contains c answer = None
stack_act methods.Put c answer = None
stack_act methods.Get c answer = None
stack_act methods.FetchAdd c answer = None
stack_act methods.Enq c answer = None
stack_act methods.Deq c answer = None
stack_act methods.Insert c answer = None
stack_act methods.Take c answer = None
stack_act methods.Least c answer = None

-- the act of a call on a priority queue
abbrev pub prio_act : Method → Call → Answer → Option Act
prio_act methods.Insert c answers.None = Some (PriorityQueue (prios.Insert c.first))
prio_act methods.Insert c (answers.Number n) = None
prio_act methods.Insert c (answers.Truth t) = None
prio_act methods.Take c answers.None = Some (PriorityQueue (prios.Take None))
prio_act methods.Take c (answers.Number value) = Some (PriorityQueue (prios.Take (Some value)))
prio_act methods.Take c (answers.Truth t) = None
prio_act methods.Least c answers.None = Some (PriorityQueue (prios.Least None))
prio_act methods.Least c (answers.Number value) = Some (PriorityQueue (prios.Least (Some value)))
prio_act methods.Least c (answers.Truth t) = None
prio_act methods.Read c answer = None
prio_act methods.Write c answer = None
prio_act methods.Cas c answer = None
prio_act methods.Add c answer = None
prio_act methods.Remove c answer = None
prio_act methods.Contains c answer = None
prio_act methods.Put c answer = None
prio_act methods.Get c answer = None
prio_act methods.FetchAdd c answer = None
prio_act methods.Enq c answer = None
prio_act methods.Deq c answer = None
prio_act methods.StackPush c answer = None
prio_act methods.StackPop c answer = None

-- the act of a call on an object of this kind
abbrev pub act_made : Kind → Call → Answer → Option Act
act_made kinds.Memory c answer = memory_act c.method c answer
act_made kinds.KeySet c answer = set_act c.method c answer
act_made kinds.KeyMap c answer = map_act c.method c answer
act_made kinds.Counter c answer = counter_act c.method c answer
act_made kinds.Queue c answer = queue_act c.method c answer
act_made kinds.Stack c answer = stack_act c.method c answer
act_made kinds.PriorityQueue c answer = prio_act c.method c answer

-- the same as an operation, if all its numbers lie in the range of records
abbrev pub ranged_op : ℕ → Act → Option Op
ranged_op object act = if is_ranged act then Some (act_at object act) else None

-- the operation of a call on an object of this kind, if its numbers are in the range of records
abbrev pub op_of_act : Kind → Call → Answer → Option Op
op_of_act kind c answer = option_and_then (ranged_op c.object) (act_made kind c answer)

-- the operation of a call on an object of this kind, if its numbers and its result are in the range
-- of records
abbrev pub op_made : Kind → Call → Answer → Option Op
op_made kind c answer = if is_ranged_answer answer then op_of_act kind c answer else None
