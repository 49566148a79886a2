-- An act can be read back from its method, its arguments and its result.
use Rattle.std.proofs.Common.{◌≡◌, ℕ, zero, suc, ℤ, pos, List, [], ◌∷◌, get_or, length}
use Rattle.std.proofs.Common.{Option, Some, None, refl, sym, ap, ◌∙◌}
use Rattle.pp_core.specs.Words.{named, method_word}
use Rattle.pp_core.specs.declared.answer.Answer.{Answer}
use Rattle.pp_core.specs.declared.answer.Answer.TheVariants as answers
use Rattle.pp_core.specs.declared.call.Call.{Call}
use Rattle.pp_core.specs.declared.call.Kind.{Kind}
use Rattle.pp_core.specs.declared.call.Kind.TheVariants as kinds
use Rattle.pp_core.specs.declared.call.Method.{Method}
use Rattle.pp_core.specs.declared.call.Method.TheVariants as methods
use Rattle.pp_kind_memory.specs.declared.op.MemOp.TheVariants as mem
use Rattle.pp_kind_set.specs.declared.op.SetOp.TheVariants as set
use Rattle.pp_kind_map.specs.declared.op.MapOp.TheVariants as map
use Rattle.pp_kind_counter.specs.declared.op.CounterOp.TheVariants as counts
use Rattle.pp_kind_queue.specs.declared.op.QueueOp.TheVariants as queues
use Rattle.pp_kind_stack.specs.declared.op.StackOp.TheVariants as stacks
use Rattle.pp_kind_priority.specs.declared.op.PrioOp.TheVariants as prios
use Rattle.pp_objects.specs.declared.act.Act.{Act}
use Rattle.pp_objects.specs.declared.act.Act.TheVariants.{Memory, KeySet, KeyMap, Counter, Queue}
use Rattle.pp_objects.specs.declared.act.Act.TheVariants.{Stack, PriorityQueue}
use Rattle.pp_objects.specs.Calls.{act_made}
use Rattle.pp_objects.specs.One.{call_of, kind_for, recorded_by}
use Rattle.pp_text.specs.Texts.{arguments_in}

-- the call of a method with these arguments, and 0 for each one that is missing
abbrev recalled : Method → List ℤ → Call
recalled method numbers = record {
  object = 0;
  method = method;
  first = get_or numbers 0 (pos 0);
  second = get_or numbers 1 (pos 0);
  third = get_or numbers 2 (pos 0);
}

-- the method that an act calls
abbrev pub method_of : Act → Method
method_of act = (call_of act).method

remade : (act : Act) → act_made (kind_for act) (recalled (method_of act) (arguments_in act)) (recorded_by act) ≡ Some act
remade (Memory (mem.Read a v)) = refl
remade (Memory (mem.Write a v)) = refl
remade (Memory (mem.Cas a e n done)) = refl
remade (KeySet (set.Add k t)) = refl
remade (KeySet (set.Remove k t)) = refl
remade (KeySet (set.Contains k t)) = refl
remade (KeyMap (map.Put k v None)) = refl
remade (KeyMap (map.Put k v (Some was))) = refl
remade (KeyMap (map.Get k None)) = refl
remade (KeyMap (map.Get k (Some was))) = refl
remade (KeyMap (map.Remove k None)) = refl
remade (KeyMap (map.Remove k (Some was))) = refl
remade (Counter (counts.Add by)) = refl
remade (Counter (counts.Get v)) = refl
remade (Counter (counts.FetchAdd by was)) = refl
remade (Queue (queues.Enq v)) = refl
remade (Queue (queues.Deq None)) = refl
remade (Queue (queues.Deq (Some v))) = refl
remade (Stack (stacks.Push v)) = refl
remade (Stack (stacks.Pop None)) = refl
remade (Stack (stacks.Pop (Some v))) = refl
remade (PriorityQueue (prios.Insert v)) = refl
remade (PriorityQueue (prios.Take None)) = refl
remade (PriorityQueue (prios.Take (Some v))) = refl
remade (PriorityQueue (prios.Least None)) = refl
remade (PriorityQueue (prios.Least (Some v))) = refl

-- the kind that has a method with this many arguments and this result
abbrev kind_from : Method → ℕ → Answer → Kind
kind_from methods.Read n r = kinds.Memory
kind_from methods.Write n r = kinds.Memory
kind_from methods.Cas n r = kinds.Memory
kind_from methods.Add n answers.None = kinds.Counter
kind_from methods.Add n r = kinds.KeySet
kind_from methods.Remove n (answers.Truth t) = kinds.KeySet
kind_from methods.Remove n r = kinds.KeyMap
kind_from methods.Contains n r = kinds.KeySet
kind_from methods.Put n r = kinds.KeyMap
kind_from methods.Get zero r = kinds.Counter
kind_from methods.Get (suc n) r = kinds.KeyMap
kind_from methods.FetchAdd n r = kinds.Counter
kind_from methods.Enq n r = kinds.Queue
kind_from methods.Deq n r = kinds.Queue
kind_from methods.StackPush n r = kinds.Stack
kind_from methods.StackPop n r = kinds.Stack
kind_from methods.Insert n r = kinds.PriorityQueue
kind_from methods.Take n r = kinds.PriorityQueue
kind_from methods.Least n r = kinds.PriorityQueue

kind_is : (act : Act) → kind_from (method_of act) (length (arguments_in act)) (recorded_by act) ≡ kind_for act
kind_is (Memory (mem.Read a v)) = refl
kind_is (Memory (mem.Write a v)) = refl
kind_is (Memory (mem.Cas a e n done)) = refl
kind_is (KeySet (set.Add k t)) = refl
kind_is (KeySet (set.Remove k t)) = refl
kind_is (KeySet (set.Contains k t)) = refl
kind_is (KeyMap (map.Put k v was)) = refl
kind_is (KeyMap (map.Get k was)) = refl
kind_is (KeyMap (map.Remove k None)) = refl
kind_is (KeyMap (map.Remove k (Some was))) = refl
kind_is (Counter (counts.Add by)) = refl
kind_is (Counter (counts.Get v)) = refl
kind_is (Counter (counts.FetchAdd by was)) = refl
kind_is (Queue (queues.Enq v)) = refl
kind_is (Queue (queues.Deq v)) = refl
kind_is (Stack (stacks.Push v)) = refl
kind_is (Stack (stacks.Pop v)) = refl
kind_is (PriorityQueue (prios.Insert v)) = refl
kind_is (PriorityQueue (prios.Take v)) = refl
kind_is (PriorityQueue (prios.Least v)) = refl

-- the act with this method, these arguments and this result
abbrev act_from : Method → List ℤ → Answer → Option Act
act_from method numbers answer = act_made (kind_from method (length numbers) answer) (recalled method numbers) answer

is_from : (act : Act) → act_from (method_of act) (arguments_in act) (recorded_by act) ≡ Some act
is_from act = ap (λ (k : Kind). act_made k (recalled (method_of act) (arguments_in act)) (recorded_by act)) (kind_is act) ∙ remade act

-- acts with the same method, arguments and result are equal
pub same_act : (a b : Act) → method_of a ≡ method_of b → arguments_in a ≡ arguments_in b → recorded_by a ≡ recorded_by b → a ≡ b
same_act a b method numbers answer =
    let both : Some a ≡ Some b = sym (is_from a)
    ∙ ap (λ (m : Method). act_from m (arguments_in a) (recorded_by a)) method
    ∙ ap (λ (ns : List ℤ). act_from (method_of b) ns (recorded_by a)) numbers
    ∙ ap (λ (r : Answer). act_from (method_of b) (arguments_in b) r) answer
    ∙ is_from b in
    cc

-- ---- a method can be read back from its word

abbrev all_methods : List Method
all_methods = methods.Read ∷ methods.Write ∷ methods.Cas ∷ methods.Add ∷ methods.Remove ∷ methods.Contains ∷ methods.Put ∷ methods.Get ∷ methods.FetchAdd ∷ methods.Enq ∷ methods.Deq
    ∷ methods.StackPush ∷ methods.StackPop ∷ methods.Insert ∷ methods.Take ∷ methods.Least ∷ []

found : (m : Method) → named method_word all_methods (method_word m) ≡ Some m
found methods.Read = refl
found methods.Write = refl
found methods.Cas = refl
found methods.Add = refl
found methods.Remove = refl
found methods.Contains = refl
found methods.Put = refl
found methods.Get = refl
found methods.FetchAdd = refl
found methods.Enq = refl
found methods.Deq = refl
found methods.StackPush = refl
found methods.StackPop = refl
found methods.Insert = refl
found methods.Take = refl
found methods.Least = refl

-- Methods with the same word are equal.
pub same_method : (m n : Method) → method_word m ≡ method_word n → m ≡ n
same_method m n e =
    let both : Some m ≡ Some n = sym (found m) ∙ ap (λ (w : List ℕ). named method_word all_methods w) e ∙ found n in
    cc
