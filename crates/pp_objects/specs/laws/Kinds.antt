-- Proof machinery: the kinds, one by one. Each table has an arm for each kind, and the laws of a
-- kind are proved case by case.
use Rattle.std.proofs.Common.{◌≡◌, ℤ, false, IsTrue, List, None, refl, sym, ◌∙◌, subst}
use Rattle.std.specs.Ordering.{int_cmp}
use Rattle.std.specs.FinMap.{FinMap}
use Rattle.std.specs.FinSet.{FinSet}
use Rattle.pp_core.specs.declared.call.Kind.{Kind}
use Rattle.pp_core.specs.declared.call.Kind.TheVariants as kinds
use Rattle.pp_kind.specs.Object.{Object, IsLawful}
use Rattle.pp_kind_memory.specs.Memories.{memory}
use Rattle.pp_kind_memory.specs.laws.Lawful.{memory_lawful}
use Rattle.pp_kind_memory.specs.declared.op.MemOp.{MemOp}
use Rattle.pp_kind_memory.specs.declared.op.MemOp.TheVariants as mem
use Rattle.pp_kind_set.specs.Sets.{key_set}
use Rattle.pp_kind_set.specs.laws.Lawful.{set_lawful}
use Rattle.pp_kind_set.specs.declared.op.SetOp.{SetOp}
use Rattle.pp_kind_set.specs.declared.op.SetOp.TheVariants as set
use Rattle.pp_kind_map.specs.KeyMap.{key_map}
use Rattle.pp_kind_map.specs.laws.Lawful.{key_map_lawful}
use Rattle.pp_kind_map.specs.declared.op.MapOp.{MapOp}
use Rattle.pp_kind_map.specs.declared.op.MapOp.TheVariants as map
use Rattle.pp_kind_counter.specs.Count.{counter}
use Rattle.pp_kind_counter.specs.laws.Lawful.{counter_lawful}
use Rattle.pp_kind_counter.specs.declared.op.CounterOp.{CounterOp}
use Rattle.pp_kind_counter.specs.declared.op.CounterOp.TheVariants as counts
use Rattle.pp_kind_queue.specs.Fifo.{fifo}
use Rattle.pp_kind_queue.specs.laws.Lawful.{fifo_lawful}
use Rattle.pp_kind_queue.specs.declared.op.QueueOp.{QueueOp}
use Rattle.pp_kind_queue.specs.declared.op.QueueOp.TheVariants as queues
use Rattle.pp_kind_stack.specs.Stacks.{stack}
use Rattle.pp_kind_stack.specs.laws.Lawful.{stack_lawful}
use Rattle.pp_kind_stack.specs.declared.op.StackOp.{StackOp}
use Rattle.pp_kind_stack.specs.declared.op.StackOp.TheVariants as stacks
use Rattle.pp_kind_priority.specs.Prios.{prio}
use Rattle.pp_kind_priority.specs.laws.Lawful.{prio_lawful}
use Rattle.pp_kind_priority.specs.declared.op.PrioOp.{PrioOp}
use Rattle.pp_kind_priority.specs.declared.op.PrioOp.TheVariants as prios
use Rattle.pp_kind_memory.specs.declared.undo.Undo.{Undo}
use Rattle.pp_kind_memory.specs.declared.undo.Undo.TheVariants.{Nothing}
use Rattle.pp_objects.specs.declared.act.Act.{Act}
use Rattle.pp_objects.specs.declared.act.Act.TheVariants.{Memory, KeySet, KeyMap, Counter, Queue}
use Rattle.pp_objects.specs.declared.act.Act.TheVariants.{Stack, PriorityQueue}
use Rattle.pp_objects.specs.declared.states.ObjectState.{ObjectState}
use Rattle.pp_objects.specs.declared.states.ObjectState.TheVariants as states
use Rattle.pp_objects.specs.One.{one, both_as, kind_for}

-- The states, the operations and the undo values of a kind.
abbrev pub States : Kind → Type 0
States kinds.Memory = FinMap int_cmp ℤ
States kinds.KeySet = FinSet int_cmp
States kinds.KeyMap = FinMap int_cmp ℤ
States kinds.Counter = ℤ
States kinds.Queue = List ℤ
States kinds.Stack = List ℤ
States kinds.PriorityQueue = List ℤ

-- the operations of each kind
abbrev pub Ops : Kind → Type 0
Ops kinds.Memory = MemOp
Ops kinds.KeySet = SetOp
Ops kinds.KeyMap = MapOp
Ops kinds.Counter = CounterOp
Ops kinds.Queue = QueueOp
Ops kinds.Stack = StackOp
Ops kinds.PriorityQueue = PrioOp

-- the undo values of each kind: only a memory keeps some
abbrev pub Undos : Kind → Type 0
Undos kinds.Memory = Undo
Undos k = Unit {0}

-- The meaning of a kind by itself, and that it is lawful.
abbrev pub object_of : (k : Kind) → Object (Unit {0}) (States k) (Ops k) (Undos k)
object_of kinds.Memory = memory
object_of kinds.KeySet = key_set
object_of kinds.KeyMap = key_map
object_of kinds.Counter = counter
object_of kinds.Queue = fifo
object_of kinds.Stack = stack
object_of kinds.PriorityQueue = prio

-- The object of each kind is lawful.
pub lawful : (k : Kind) → IsLawful (object_of k)
lawful kinds.Memory = memory_lawful
lawful kinds.KeySet = set_lawful
lawful kinds.KeyMap = key_map_lawful
lawful kinds.Counter = counter_lawful
lawful kinds.Queue = fifo_lawful
lawful kinds.Stack = stack_lawful
lawful kinds.PriorityQueue = prio_lawful

-- a state of a kind, among those of all kinds
abbrev pub state_of : (k : Kind) → States k → ObjectState
state_of kinds.Memory s = states.Memory s
state_of kinds.KeySet s = states.KeySet s
state_of kinds.KeyMap s = states.KeyMap s
state_of kinds.Counter s = states.Counter s
state_of kinds.Queue s = states.Queue s
state_of kinds.Stack s = states.Stack s
state_of kinds.PriorityQueue s = states.PriorityQueue s

-- an operation of a kind, as an act
abbrev pub act_of : (k : Kind) → Ops k → Act
act_of kinds.Memory a = Memory a
act_of kinds.KeySet a = KeySet a
act_of kinds.KeyMap a = KeyMap a
act_of kinds.Counter a = Counter a
act_of kinds.Queue a = Queue a
act_of kinds.Stack a = Stack a
act_of kinds.PriorityQueue a = PriorityQueue a

-- an undo value of a kind, among those of all kinds
abbrev pub undo_as : (k : Kind) → Undos k → Undo
undo_as kinds.Memory u = u
undo_as k u = Nothing

-- an undo value of all kinds, as one of this kind
abbrev pub undo_from : (k : Kind) → Undo → Undos k
undo_from kinds.Memory u = u
undo_from k u = tt

-- Each state and each act is one of its kind.
own_state : (s : ObjectState) → (t : States (one.shape s)) × (s ≡ state_of (one.shape s) t)
own_state (states.Memory s) = (s, refl)
own_state (states.KeySet s) = (s, refl)
own_state (states.KeyMap s) = (s, refl)
own_state (states.Counter s) = (s, refl)
own_state (states.Queue s) = (s, refl)
own_state (states.Stack s) = (s, refl)
own_state (states.PriorityQueue s) = (s, refl)

own_act : (a : Act) → (b : Ops (kind_for a)) × (a ≡ act_of (kind_for a) b)
own_act (Memory a) = (a, refl)
own_act (KeySet a) = (a, refl)
own_act (KeyMap a) = (a, refl)
own_act (Counter a) = (a, refl)
own_act (Queue a) = (a, refl)
own_act (Stack a) = (a, refl)
own_act (PriorityQueue a) = (a, refl)

-- An act fits its kind alone, and no lists refute a pair of acts of two kinds.
fits_own : (k : Kind) (a : Act) → IsTrue (one.fits k a) → k ≡ kind_for a
fits_own kinds.Memory (Memory a) h = refl
fits_own kinds.KeySet (KeySet a) h = refl
fits_own kinds.KeyMap (KeyMap a) h = refl
fits_own kinds.Counter (Counter a) h = refl
fits_own kinds.Queue (Queue a) h = refl
fits_own kinds.Stack (Stack a) h = refl
fits_own kinds.PriorityQueue (PriorityQueue a) h = refl
fits_own k a h = absurd (cc)

unrefuted_apart : (a b : Act) → one.fits (kind_for a) b ≡ false → one.refuting a b ≡ None
unrefuted_apart (Memory a) (Memory b) h = absurd (cc)
unrefuted_apart (KeySet a) (KeySet b) h = absurd (cc)
unrefuted_apart (KeyMap a) (KeyMap b) h = absurd (cc)
unrefuted_apart (Counter a) (Counter b) h = absurd (cc)
unrefuted_apart (Queue a) (Queue b) h = absurd (cc)
unrefuted_apart (Stack a) (Stack b) h = absurd (cc)
unrefuted_apart (PriorityQueue a) (PriorityQueue b) h = absurd (cc)
unrefuted_apart a b h = refl

-- A call of a kind has no place.
pub no_place : (k : Kind) (a : Ops k) → ((object_of k).call a).object ≡ 0
no_place kinds.Memory (mem.Read a v) = refl
no_place kinds.Memory (mem.Write a v) = refl
no_place kinds.Memory (mem.Cas a e n t) = refl
no_place kinds.KeySet (set.Add a c) = refl
no_place kinds.KeySet (set.Remove a c) = refl
no_place kinds.KeySet (set.Contains a c) = refl
no_place kinds.KeyMap (map.Put a v w) = refl
no_place kinds.KeyMap (map.Get a v) = refl
no_place kinds.KeyMap (map.Remove a v) = refl
no_place kinds.Counter (counts.Add d) = refl
no_place kinds.Counter (counts.Get v) = refl
no_place kinds.Counter (counts.FetchAdd d v) = refl
no_place kinds.Queue (queues.Enq v) = refl
no_place kinds.Queue (queues.Deq v) = refl
no_place kinds.Stack (stacks.Push v) = refl
no_place kinds.Stack (stacks.Pop v) = refl
no_place kinds.PriorityQueue (prios.Insert v) = refl
no_place kinds.PriorityQueue (prios.Take v) = refl
no_place kinds.PriorityQueue (prios.Least v) = refl

-- The definitions below need no arm for a new kind.

-- The states and the acts of a kind are its own alone.
pub fits : (k : Kind) (a : Ops k) → IsTrue ((object_of k).fits tt a)
fits kinds.Memory a = refl
fits k a = refl

-- A state of a kind has this kind as its shape.
pub has_kind : (k : Kind) (s : States k) → one.shape (state_of k s) ≡ k
has_kind kinds.Memory s = refl
has_kind k s = refl

-- An operation of a kind fits the kind.
pub asks_kind : (k : Kind) (a : Ops k) → IsTrue (one.fits k (act_of k a))
asks_kind kinds.Memory a = refl
asks_kind k a = refl

act_kind : (k : Kind) (a : Ops k) → kind_for (act_of k a) ≡ k
act_kind kinds.Memory a = refl
act_kind k a = refl

-- An operation of a kind fits no other kind.
pub only_kind : (k q : Kind) (a : Ops k) → IsTrue (one.fits q (act_of k a)) → q ≡ k
only_kind k q a h = fits_own q (act_of k a) h ∙ act_kind k a

-- No lists refute an act of a kind with an act that does not fit the kind.
pub other : (k : Kind) (a : Ops k) (b : Act) → one.fits k b ≡ false
    → one.refuting (act_of k a) b ≡ None
other k a b h = unrefuted_apart (act_of k a) b
    (subst (λ (q : Kind). one.fits q b ≡ false) (sym (act_kind k a)) h)

-- A state whose shape is a kind is a state of the kind.
pub its_state : (k : Kind) (s : ObjectState) → one.shape s ≡ k → (t : States k) × (s ≡ state_of k t)
its_state k s e = subst (λ (q : Kind). (t : States q) × (s ≡ state_of q t)) e (own_state s)

-- An act that fits a kind is an operation of the kind.
pub its_act : (k : Kind) (a : Act) → IsTrue (one.fits k a) → (b : Ops k) × (a ≡ act_of k b)
its_act k a h = subst (λ (q : Kind). (b : Ops q) × (a ≡ act_of q b)) (sym (fits_own k a h))
    (own_act a)

-- States of a kind that are equal among all kinds are equal.
pub one_state : (k : Kind) (s t : States k) → state_of k s ≡ state_of k t → s ≡ t
one_state kinds.Memory s t h = cc
one_state k s t h = cc

-- An undo value of a kind, taken among all kinds and back, is the same.
pub one_undo : (k : Kind) (u : Undos k) → undo_from k (undo_as k u) ≡ u
one_undo kinds.Memory u = refl
one_undo k u = refl

-- A state of the kind is a state of some run if it is one in its kind.
pub into_state : (k : Kind) (s : States k) → (object_of k).upkeep.IsState s
    → one.upkeep.IsState (state_of k s)
into_state kinds.Memory s h = h
into_state k s h = h

-- A state that the laws speak of among all kinds is one that they speak of in its kind.
pub from_state : (k : Kind) (s : States k) → one.upkeep.IsState (state_of k s)
    → (object_of k).upkeep.IsState s
from_state kinds.Memory s h = h
from_state k s h = h

-- All that an object means is what it means by itself.
pub start_is : (k : Kind) → one.start k ≡ state_of k ((object_of k).start tt)
start_is kinds.Memory = refl
start_is k = refl

-- An act is ranged exactly if its operation is ranged in the kind.
pub ranged_is : (k : Kind) (a : Ops k) → one.ranged (act_of k a) ≡ (object_of k).ranged a
ranged_is kinds.Memory a = refl
ranged_is k a = refl

-- The call of an act is the call of its operation in the kind.
pub call_is : (k : Kind) (a : Ops k) → one.call (act_of k a) ≡ (object_of k).call a
call_is kinds.Memory a = refl
call_is k a = refl

-- The recorded result of an act is that of its operation in the kind.
pub recorded_is : (k : Kind) (a : Ops k) → one.recorded (act_of k a) ≡ (object_of k).recorded a
recorded_is kinds.Memory a = refl
recorded_is k a = refl

-- The result of an act in a state is that of its operation in the kind.
pub gives_is : (k : Kind) (s : States k) (a : Ops k)
    → one.gives (state_of k s) (act_of k a) ≡ (object_of k).gives s a
gives_is kinds.Memory s a = refl
gives_is k s a = refl

-- The state after an act is the one after its operation in the kind.
pub next_is : (k : Kind) (s : States k) (a : Ops k)
    → one.next (state_of k s) (act_of k a) ≡ state_of k ((object_of k).next s a)
next_is kinds.Memory s a = refl
next_is k s a = refl

-- The undo value of an act is that of its operation in the kind.
pub kept_is : (k : Kind) (s : States k) (a : Ops k)
    → one.upkeep.kept (state_of k s) (act_of k a) ≡ undo_as k ((object_of k).upkeep.kept s a)
kept_is kinds.Memory s a = refl
kept_is k s a = refl

-- To take an act back is to take its operation back in the kind.
pub back_is : (k : Kind) (s : States k) (a : Ops k) (u : Undo)
    → one.upkeep.back (state_of k s) (act_of k a) u
    ≡ state_of k ((object_of k).upkeep.back s a (undo_from k u))
back_is kinds.Memory s a u = refl
back_is k s a u = refl

-- The lists that refute two acts of a kind are those that refute their operations.
pub refuting_is : (k : Kind) (a b : Ops k)
    → one.refuting (act_of k a) (act_of k b) ≡ both_as (act_of k) ((object_of k).refuting a b)
refuting_is kinds.Memory a b = refl
refuting_is k a b = refl

-- What is true for the acts and the states of each kind is true for all.
pub each_act : (P : Act → Type 0) → ((k : Kind) (a : Ops k) → P (act_of k a)) → (a : Act) → P a
each_act P h a = let b = own_act a in subst P (sym b.1) (h (kind_for a) b.0)

-- A fact of the states of each kind is a fact of all states.
pub each_state : (P : ObjectState → Type 0) → ((k : Kind) (s : States k) → P (state_of k s))
    → (s : ObjectState) → P s
each_state P h s = let t = own_state s in subst P (sym t.1) (h (one.shape s) t.0)
