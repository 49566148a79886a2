-- An operation is read back.
use Rattle.std.proofs.Common.{◌≡◌, ◌≤◌, ◌==◌, ℕ, zero, suc, ℤ, pos, negsuc, IsTrue, IsSome, [], ◌∷◌}
use Rattle.std.proofs.Common.{nat_lt, map, take, true, Some, None, Ok, refl, ap, arith, inl, inr}
use Rattle.serde_json.specs.Data.{Data, number, object, Members}
use Rattle.serde_json.specs.Find.{of_integer}
use Rattle.serde_json.specs.View.{items_of}
use Rattle.pp_core.specs.Catalogs.{Objects}
use Rattle.pp_core.specs.Words.{method_word}
use Rattle.pp_core.specs.declared.answer.Answer.{Answer}
use Rattle.pp_core.specs.declared.answer.Answer.TheVariants as answers
use Rattle.pp_core.specs.declared.call.Call.{Call}
use Rattle.pp_core.specs.declared.call.Kind.{Kind}
use Rattle.pp_core.specs.declared.call.Kind.TheVariants as kinds
use Rattle.pp_core.specs.declared.call.Method.{Method}
use Rattle.pp_core.specs.declared.member.Member.{Member}
use Rattle.pp_kind.specs.Numbers.{in_range, is_ranged_answer}
use Rattle.pp_kind_memory.specs.declared.op.MemOp.TheVariants as mem
use Rattle.pp_kind_set.specs.declared.op.SetOp.TheVariants as set
use Rattle.pp_kind_map.specs.declared.op.MapOp.TheVariants as keyed
use Rattle.pp_kind_counter.specs.declared.op.CounterOp.TheVariants as counts
use Rattle.pp_kind_queue.specs.declared.op.QueueOp.TheVariants as queues
use Rattle.pp_kind_stack.specs.declared.op.StackOp.TheVariants as stacks
use Rattle.pp_kind_priority.specs.declared.op.PrioOp.TheVariants as prios
use Rattle.pp_objects.specs.Calls.{HasMethod, method_named, form_of, has_form, if_used, with_used, act_made, op_made}
use Rattle.pp_objects.specs.Objects.{objects}
use Rattle.pp_objects.specs.One.{kind_for, call_of, recorded_by}
use Rattle.pp_objects.specs.declared.act.Act.{Act}
use Rattle.pp_objects.specs.declared.act.Act.TheVariants.{Memory, KeySet, KeyMap, Counter, Queue, Stack, PriorityQueue}
use Rattle.pp_objects.specs.declared.act.Op.{Op}
use Rattle.pp_objects.specs.declared.form.Form.{Form}
use Rattle.pp_objects.specs.declared.form.Form.TheVariants as forms
use Rattle.pp_objects.proofs.Made.{called_exactly, has_method}
use Rattle.pp_format_read.specs.Members.{member_of, text_of, whole}
use Rattle.pp_format_read.specs.Members.{count}
use Rattle.pp_format_read.specs.Calls.{number_from, number_of, object_called, method_of, argument, arguments_of, call_of as call_read, number_answer, answer_in, op_of}
use Rattle.pp_format_write.specs.Operations.{number_or_null, arguments_value, call_value, answer_value, arity_in, op_members}
use Rattle.pp_format_write.specs.Statable.{IsCatalog, IsOpOn}
use Rattle.pp_format_write.proofs.Operations.{few, kind_there, answer_ranged, arguments_ranged}
use Rattle.pp_format_write.proofs.NamesBack.{object_back}

-- ---- numbers
pub whole_back : (m : Member) (z : ℤ) → whole m (number (of_integer z)) ≡ Ok z
unfolding whole
whole_back m (pos n) = refl
whole_back m (negsuc n) = refl

number_back : (m : Member) (z : ℤ) → IsTrue (in_range z) → number_of m (number (of_integer z)) ≡ Ok z
unfolding number_of number_from
number_back m z h = rw (whole_back m z, h) refl

-- The arguments that are read back from the array of three.
record AreBack (arity : ℕ) (x y z : ℤ) : Type 0 where
  first : argument 0 (arguments_value arity (Some x) (Some y) (Some z)) ≡ Ok (if_used (nat_lt 0 arity) x)
  second : argument 1 (arguments_value arity (Some x) (Some y) (Some z)) ≡ Ok (if_used (nat_lt 1 arity) y)
  third : argument 2 (arguments_value arity (Some x) (Some y) (Some z)) ≡ Ok (if_used (nat_lt 2 arity) z)

back : (arity : ℕ) (x y z : ℤ) → arity ≤ 3 → IsTrue (in_range x) → IsTrue (in_range y) → IsTrue (in_range z) → AreBack arity x y z
unfolding argument
back zero x y z le near also too = record { first = refl; second = refl; third = refl }
back (suc zero) x y z le near also too = record { first = number_back _ x near; second = refl; third = refl }
back (suc (suc zero)) x y z le near also too = record { first = number_back _ x near; second = number_back _ y also; third = refl }
back (suc (suc (suc zero))) x y z le near also too = record { first = number_back _ x near; second = number_back _ y also; third = number_back _ z too }
back (suc (suc (suc (suc n)))) x y z le near also too = absurd (omega arith)

counted : (arity : ℕ) (c : Call) → arity ≤ 3 → (count (items_of (map number_or_null (take arity (Some c.first ∷ Some c.second ∷ Some c.third ∷ [])))) == arity) ≡ true
counted zero c le = refl
counted (suc zero) c le = refl
counted (suc (suc zero)) c le = refl
counted (suc (suc (suc zero))) c le = refl
counted (suc (suc (suc (suc n)))) c le = absurd (omega arith)

-- ---- the method
pub named_back : (kind : Kind) (m : Method) → HasMethod kind m → method_named kind (method_word m) ≡ Some m
named_back kinds.Memory m (inl e) = rw e refl
named_back kinds.Memory m (inr (inl e)) = rw e refl
named_back kinds.Memory m (inr (inr (inl e))) = rw e refl
named_back kinds.Memory m (inr (inr (inr h))) = absurd h
named_back kinds.KeySet m (inl e) = rw e refl
named_back kinds.KeySet m (inr (inl e)) = rw e refl
named_back kinds.KeySet m (inr (inr (inl e))) = rw e refl
named_back kinds.KeySet m (inr (inr (inr h))) = absurd h
named_back kinds.KeyMap m (inl e) = rw e refl
named_back kinds.KeyMap m (inr (inl e)) = rw e refl
named_back kinds.KeyMap m (inr (inr (inl e))) = rw e refl
named_back kinds.KeyMap m (inr (inr (inr h))) = absurd h
named_back kinds.Counter m (inl e) = rw e refl
named_back kinds.Counter m (inr (inl e)) = rw e refl
named_back kinds.Counter m (inr (inr (inl e))) = rw e refl
named_back kinds.Counter m (inr (inr (inr h))) = absurd h
named_back kinds.Queue m (inl e) = rw e refl
named_back kinds.Queue m (inr (inl e)) = rw e refl
named_back kinds.Queue m (inr (inr h)) = absurd h
named_back kinds.Stack m (inl e) = rw e refl
named_back kinds.Stack m (inr (inl e)) = rw e refl
named_back kinds.Stack m (inr (inr h)) = absurd h
named_back kinds.PriorityQueue m (inl e) = rw e refl
named_back kinds.PriorityQueue m (inr (inl e)) = rw e refl
named_back kinds.PriorityQueue m (inr (inr (inl e))) = rw e refl
named_back kinds.PriorityQueue m (inr (inr (inr h))) = absurd h

-- ---- the call of an act makes the act again
act_again : (i : ℕ) (a : Act) → act_made (kind_for a) (record (call_of a) { object = i }) (recorded_by a) ≡ Some a
act_again i (Memory (mem.Read at value)) = refl
act_again i (Memory (mem.Write at value)) = refl
act_again i (Memory (mem.Cas at expected new done)) = refl
act_again i (KeySet (set.Add key changed)) = refl
act_again i (KeySet (set.Remove key changed)) = refl
act_again i (KeySet (set.Contains key present)) = refl
act_again i (KeyMap (keyed.Put key value None)) = refl
act_again i (KeyMap (keyed.Put key value (Some was))) = refl
act_again i (KeyMap (keyed.Get key None)) = refl
act_again i (KeyMap (keyed.Get key (Some found))) = refl
act_again i (KeyMap (keyed.Remove key None)) = refl
act_again i (KeyMap (keyed.Remove key (Some was))) = refl
act_again i (Counter (counts.Add by)) = refl
act_again i (Counter (counts.Get value)) = refl
act_again i (Counter (counts.FetchAdd by was)) = refl
act_again i (Queue (queues.Enq value)) = refl
act_again i (Queue (queues.Deq None)) = refl
act_again i (Queue (queues.Deq (Some value))) = refl
act_again i (Stack (stacks.Push value)) = refl
act_again i (Stack (stacks.Pop None)) = refl
act_again i (Stack (stacks.Pop (Some value))) = refl
act_again i (PriorityQueue (prios.Insert value)) = refl
act_again i (PriorityQueue (prios.Take None)) = refl
act_again i (PriorityQueue (prios.Take (Some value))) = refl
act_again i (PriorityQueue (prios.Least None)) = refl
act_again i (PriorityQueue (prios.Least (Some value))) = refl

-- its unused arguments are 0
used_again : (i : ℕ) (a : Act) → with_used (kind_for a) (record (call_of a) { object = i }) ≡ record (call_of a) { object = i }
used_again i (Memory (mem.Read at value)) = refl
used_again i (Memory (mem.Write at value)) = refl
used_again i (Memory (mem.Cas at expected new done)) = refl
used_again i (KeySet (set.Add key changed)) = refl
used_again i (KeySet (set.Remove key changed)) = refl
used_again i (KeySet (set.Contains key present)) = refl
used_again i (KeyMap (keyed.Put key value was)) = refl
used_again i (KeyMap (keyed.Get key found)) = refl
used_again i (KeyMap (keyed.Remove key was)) = refl
used_again i (Counter (counts.Add by)) = refl
used_again i (Counter (counts.Get value)) = refl
used_again i (Counter (counts.FetchAdd by was)) = refl
used_again i (Queue (queues.Enq value)) = refl
used_again i (Queue (queues.Deq value)) = refl
used_again i (Stack (stacks.Push value)) = refl
used_again i (Stack (stacks.Pop value)) = refl
used_again i (PriorityQueue (prios.Insert value)) = refl
used_again i (PriorityQueue (prios.Take value)) = refl
used_again i (PriorityQueue (prios.Least value)) = refl

op_again : (catalog : Objects) (op : Op) → IsOpOn catalog op → op_made (kind_for op.act) (objects.call op) (recorded_by op.act) ≡ Some op
op_again catalog op h = rw (answer_ranged catalog op h, act_again op.object op.act, h.1) refl

formed : (catalog : Objects) (op : Op) → IsOpOn catalog op → IsTrue (has_form (form_of (kind_for op.act) (call_of op.act).method) (recorded_by op.act))
formed catalog op h =
    let some : IsSome (op_made (kind_for op.act) (objects.call op) (recorded_by op.act)) = rw (op_again catalog op h) refl in
    ((called_exactly (kind_for op.act) (objects.call op) (recorded_by op.act)).0 some).form

-- ---- the result
answer_back : (form : Form) (r : Answer) → IsTrue (has_form form r) → IsTrue (is_ranged_answer r) → answer_in form (answer_value r) ≡ Ok r
unfolding answer_in number_answer
answer_back forms.Nothing answers.None h near = refl
answer_back forms.Nothing (answers.Number n) h near = absurd (cc)
answer_back forms.Nothing (answers.Truth t) h near = absurd (cc)
answer_back forms.Number answers.None h near = absurd (cc)
answer_back forms.Number (answers.Number n) h near = rw (number_back _ n near) refl
answer_back forms.Number (answers.Truth t) h near = absurd (cc)
answer_back forms.Truth answers.None h near = absurd (cc)
answer_back forms.Truth (answers.Number n) h near = absurd (cc)
answer_back forms.Truth (answers.Truth t) h near = refl
answer_back forms.Found answers.None h near = refl
answer_back forms.Found (answers.Number n) h near = rw (number_back _ n near) refl
answer_back forms.Found (answers.Truth t) h near = absurd (cc)

-- ---- the operation
module _ (catalog : Objects) (id : ℕ) (op : Op) (others : Members) (h : IsOpOn catalog op) where
  abbrev value : Data
  value = object (op_members catalog id op others)

  object_is : IsCatalog catalog → object_called catalog value ≡ Ok (op.object, kind_for op.act)
  unfolding object_called text_of member_of
  object_is cat = rw (object_back catalog op.object (kind_for op.act) cat (kind_there catalog op h)) refl

  method_is : method_of (kind_for op.act) value ≡ Ok (call_of op.act).method
  unfolding method_of text_of member_of
  method_is = rw (named_back (kind_for op.act) (call_of op.act).method (has_method op.act)) refl

  arguments_are : arguments_of (kind_for op.act) (call_of op.act).method value ≡ Ok (call_value (arity_in op.act) (call_of op.act))
  unfolding arguments_of member_of
  arguments_are = rw (counted (arity_in op.act) (call_of op.act) (few op.act)) refl

  call_is : call_read op.object (kind_for op.act) value ≡ Ok (objects.call op)
  unfolding call_read
  call_is =
      let c = call_of op.act in
      let near = arguments_ranged op.act h.1 in
      let b = back (arity_in op.act) c.first c.second c.third (few op.act) near.first near.second near.third in
      rw (method_is, arguments_are, b.first, b.second, b.third) (ap (λ (x : Call). Ok x) (used_again op.object op.act))

  -- The value of an operation on an object of a catalog is read as this operation.
  pub op_back : IsCatalog catalog → op_of catalog value ≡ Ok op
  unfolding op_of member_of
  op_back cat =
      rw (object_is cat, call_is, answer_back (form_of (kind_for op.act) (call_of op.act).method) (recorded_by op.act) (formed catalog op h) (answer_ranged catalog op h), op_again catalog op h)
      refl
