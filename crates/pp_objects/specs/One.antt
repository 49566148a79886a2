-- Meaning: what one object means, of whatever kind: what its kind means.
use Rattle.std.specs.Prelude.{Bool, true, false, List, map, Option, Some, None, Result, Ok, Err}
use Rattle.pp_core.specs.declared.answer.OutOfMemory.{OutOfMemory}
use Rattle.pp_kind.specs.declared.spec.Applied.{Applied}
use Rattle.pp_kind.specs.declared.spec.Applied.TheVariants.{Done, Differs}
use Rattle.pp_core.specs.declared.answer.Answer.{Answer}
use Rattle.pp_core.specs.declared.answer.Answer.TheVariants.{None as NoAnswer}
use Rattle.pp_core.specs.declared.call.Call.{Call}
use Rattle.pp_core.specs.declared.call.Kind.{Kind}
use Rattle.pp_core.specs.declared.call.Kind.TheVariants as kinds
use Rattle.pp_kind.specs.Object.{Object}
use Rattle.pp_kind_memory.specs.Memories.{memory}
use Rattle.pp_kind_set.specs.Sets.{key_set}
use Rattle.pp_kind_map.specs.KeyMap.{key_map}
use Rattle.pp_kind_counter.specs.Count.{counter}
use Rattle.pp_kind_queue.specs.Fifo.{fifo}
use Rattle.pp_kind_stack.specs.Stacks.{stack}
use Rattle.pp_kind_priority.specs.Prios.{prio}
use Rattle.pp_kind_memory.specs.declared.undo.Undo.{Undo}
use Rattle.pp_kind_memory.specs.declared.undo.Undo.TheVariants.{Nothing}
use Rattle.pp_objects.specs.declared.act.Act.{Act}
use Rattle.pp_objects.specs.declared.act.Act.TheVariants.{Memory, KeySet, KeyMap, Counter, Queue}
use Rattle.pp_objects.specs.declared.act.Act.TheVariants.{Stack, PriorityQueue}
use Rattle.pp_objects.specs.declared.states.ObjectState.{ObjectState}
use Rattle.pp_objects.specs.declared.states.ObjectState.TheVariants as states

-- it is the state of some run of its kind
abbrev pub IsState : ObjectState → Type 0
IsState (states.Memory s) = memory.upkeep.IsState s
IsState (states.KeySet s) = key_set.upkeep.IsState s
IsState (states.KeyMap s) = key_map.upkeep.IsState s
IsState (states.Counter s) = counter.upkeep.IsState s
IsState (states.Queue s) = fifo.upkeep.IsState s
IsState (states.Stack s) = stack.upkeep.IsState s
IsState (states.PriorityQueue s) = prio.upkeep.IsState s

-- the state from which an object of a kind begins
abbrev pub empty_of : Kind → ObjectState
empty_of kinds.Memory = states.Memory (memory.start tt)
empty_of kinds.KeySet = states.KeySet (key_set.start tt)
empty_of kinds.KeyMap = states.KeyMap (key_map.start tt)
empty_of kinds.Counter = states.Counter (counter.start tt)
empty_of kinds.Queue = states.Queue (fifo.start tt)
empty_of kinds.Stack = states.Stack (stack.start tt)
empty_of kinds.PriorityQueue = states.PriorityQueue (prio.start tt)

-- the kind of the object that has this state
abbrev pub kind_of : ObjectState → Kind
kind_of (states.Memory s) = kinds.Memory
kind_of (states.KeySet s) = kinds.KeySet
kind_of (states.KeyMap s) = kinds.KeyMap
kind_of (states.Counter s) = kinds.Counter
kind_of (states.Queue s) = kinds.Queue
kind_of (states.Stack s) = kinds.Stack
kind_of (states.PriorityQueue s) = kinds.PriorityQueue

-- It is an act on objects of this kind. Here and below, the variable `act` is every act that no arm
-- before it names. This is an act of another kind, but in the arms `Nothing` of `kept_by` also an
-- act of the same kind. A new act of a known kind falls into these arms of `kept_by`. An act of a
-- new kind falls into the arms of all known kinds, which is right: it is an act of another kind.
abbrev pub fits : Kind → Act → Bool
fits kinds.Memory (Memory a) = true
fits kinds.Memory act = false
fits kinds.KeySet (KeySet a) = true
fits kinds.KeySet act = false
fits kinds.KeyMap (KeyMap a) = true
fits kinds.KeyMap act = false
fits kinds.Counter (Counter a) = true
fits kinds.Counter act = false
fits kinds.Queue (Queue a) = true
fits kinds.Queue act = false
fits kinds.Stack (Stack a) = true
fits kinds.Stack act = false
fits kinds.PriorityQueue (PriorityQueue a) = true
fits kinds.PriorityQueue act = false

-- the kind of the objects of the act
abbrev pub kind_for : Act → Kind
kind_for (Memory a) = kinds.Memory
kind_for (KeySet a) = kinds.KeySet
kind_for (KeyMap a) = kinds.KeyMap
kind_for (Counter a) = kinds.Counter
kind_for (Queue a) = kinds.Queue
kind_for (Stack a) = kinds.Stack
kind_for (PriorityQueue a) = kinds.PriorityQueue

-- all its numbers lie in the range of records
abbrev pub is_ranged : Act → Bool
is_ranged (Memory a) = memory.ranged a
is_ranged (KeySet a) = key_set.ranged a
is_ranged (KeyMap a) = key_map.ranged a
is_ranged (Counter a) = counter.ranged a
is_ranged (Queue a) = fifo.ranged a
is_ranged (Stack a) = stack.ranged a
is_ranged (PriorityQueue a) = prio.ranged a

-- its method and its arguments, at the object 0
abbrev pub call_of : Act → Call
call_of (Memory a) = memory.call a
call_of (KeySet a) = key_set.call a
call_of (KeyMap a) = key_map.call a
call_of (Counter a) = counter.call a
call_of (Queue a) = fifo.call a
call_of (Stack a) = stack.call a
call_of (PriorityQueue a) = prio.call a

-- the result that it records
abbrev pub recorded_by : Act → Answer
recorded_by (Memory a) = memory.recorded a
recorded_by (KeySet a) = key_set.recorded a
recorded_by (KeyMap a) = key_map.recorded a
recorded_by (Counter a) = counter.recorded a
recorded_by (Queue a) = fifo.recorded a
recorded_by (Stack a) = stack.recorded a
recorded_by (PriorityQueue a) = prio.recorded a

-- the result that an object returns for an act of its kind
abbrev pub given_by : ObjectState → Act → Answer
given_by (states.Memory s) (Memory a) = memory.gives s a
given_by (states.Memory s) act = NoAnswer
given_by (states.KeySet s) (KeySet a) = key_set.gives s a
given_by (states.KeySet s) act = NoAnswer
given_by (states.KeyMap s) (KeyMap a) = key_map.gives s a
given_by (states.KeyMap s) act = NoAnswer
given_by (states.Counter s) (Counter a) = counter.gives s a
given_by (states.Counter s) act = NoAnswer
given_by (states.Queue s) (Queue a) = fifo.gives s a
given_by (states.Queue s) act = NoAnswer
given_by (states.Stack s) (Stack a) = stack.gives s a
given_by (states.Stack s) act = NoAnswer
given_by (states.PriorityQueue s) (PriorityQueue a) = prio.gives s a
given_by (states.PriorityQueue s) act = NoAnswer

-- the state afterwards
abbrev pub state_after : ObjectState → Act → ObjectState
state_after (states.Memory s) (Memory a) = states.Memory (memory.next s a)
state_after (states.Memory s) act = states.Memory s
state_after (states.KeySet s) (KeySet a) = states.KeySet (key_set.next s a)
state_after (states.KeySet s) act = states.KeySet s
state_after (states.KeyMap s) (KeyMap a) = states.KeyMap (key_map.next s a)
state_after (states.KeyMap s) act = states.KeyMap s
state_after (states.Counter s) (Counter a) = states.Counter (counter.next s a)
state_after (states.Counter s) act = states.Counter s
state_after (states.Queue s) (Queue a) = states.Queue (fifo.next s a)
state_after (states.Queue s) act = states.Queue s
state_after (states.Stack s) (Stack a) = states.Stack (stack.next s a)
state_after (states.Stack s) act = states.Stack s
state_after (states.PriorityQueue s) (PriorityQueue a) = states.PriorityQueue (prio.next s a)
state_after (states.PriorityQueue s) act = states.PriorityQueue s

-- the undo value of the act: a memory keeps one, and the other kinds nothing
abbrev pub kept_by : ObjectState → Act → Undo
kept_by (states.Memory s) (Memory a) = memory.upkeep.kept s a
kept_by (states.Memory s) act = Nothing
kept_by (states.KeySet s) act = Nothing
kept_by (states.KeyMap s) act = Nothing
kept_by (states.Counter s) act = Nothing
kept_by (states.Queue s) act = Nothing
kept_by (states.Stack s) act = Nothing
kept_by (states.PriorityQueue s) act = Nothing

-- the state that this brings back
abbrev pub state_before : ObjectState → Act → Undo → ObjectState
state_before (states.Memory s) (Memory a) undo = states.Memory (memory.upkeep.back s a undo)
state_before (states.Memory s) act undo = states.Memory s
state_before (states.KeySet s) (KeySet a) undo = states.KeySet (key_set.upkeep.back s a tt)
state_before (states.KeySet s) act undo = states.KeySet s
state_before (states.KeyMap s) (KeyMap a) undo = states.KeyMap (key_map.upkeep.back s a tt)
state_before (states.KeyMap s) act undo = states.KeyMap s
state_before (states.Counter s) (Counter a) undo = states.Counter (counter.upkeep.back s a tt)
state_before (states.Counter s) act undo = states.Counter s
state_before (states.Queue s) (Queue a) undo = states.Queue (fifo.upkeep.back s a tt)
state_before (states.Queue s) act undo = states.Queue s
state_before (states.Stack s) (Stack a) undo = states.Stack (stack.upkeep.back s a tt)
state_before (states.Stack s) act undo = states.Stack s
state_before (states.PriorityQueue s) (PriorityQueue a) undo =
    states.PriorityQueue (prio.upkeep.back s a tt)
state_before (states.PriorityQueue s) act undo = states.PriorityQueue s

-- lists of a kind's operations, as lists of acts
abbrev pub both_as : {A B : Type 0} → (A → B) → Option (List A × List A) → Option (List B × List B)
both_as f None = None
both_as f (Some lists) = Some (map f lists.0, map f lists.1)

-- acts before and after a pair that does not swap
abbrev pub refuting_lists : Act → Act → Option (List Act × List Act)
refuting_lists (Memory a) (Memory b) = both_as Memory (memory.refuting a b)
refuting_lists (Memory a) act = None
refuting_lists (KeySet a) (KeySet b) = both_as KeySet (key_set.refuting a b)
refuting_lists (KeySet a) act = None
refuting_lists (KeyMap a) (KeyMap b) = both_as KeyMap (key_map.refuting a b)
refuting_lists (KeyMap a) act = None
refuting_lists (Counter a) (Counter b) = both_as Counter (counter.refuting a b)
refuting_lists (Counter a) act = None
refuting_lists (Queue a) (Queue b) = both_as Queue (fifo.refuting a b)
refuting_lists (Queue a) act = None
refuting_lists (Stack a) (Stack b) = both_as Stack (stack.refuting a b)
refuting_lists (Stack a) act = None
refuting_lists (PriorityQueue a) (PriorityQueue b) = both_as PriorityQueue (prio.refuting a b)
refuting_lists (PriorityQueue a) act = None

-- the outcome of `apply`, with nothing kept
abbrev pub keeping_nothing : Result (Applied (Unit {0})) OutOfMemory
    → Result (Applied Undo) OutOfMemory
keeping_nothing (Ok (Done u)) = Ok (Done Nothing)
keeping_nothing (Ok Differs) = Ok Differs
keeping_nothing (Err refused) = Err refused

-- it is in the clique of its kind
abbrev pub in_clique : Act → Bool
in_clique (Memory a) = memory.upkeep.in_clique a
in_clique (KeySet a) = key_set.upkeep.in_clique a
in_clique (KeyMap a) = key_map.upkeep.in_clique a
in_clique (Counter a) = counter.upkeep.in_clique a
in_clique (Queue a) = fifo.upkeep.in_clique a
in_clique (Stack a) = stack.upkeep.in_clique a
in_clique (PriorityQueue a) = prio.upkeep.in_clique a

-- an object of any kind
abbrev pub one : Object Kind ObjectState Act Undo
one = record {
  start = empty_of;
  shape = kind_of;
  fits = fits;
  ranged = is_ranged;
  call = call_of;
  recorded = recorded_by;
  gives = given_by;
  next = state_after;
  refuting = refuting_lists;
  upkeep = record {
    IsState = IsState;
    kept = kept_by;
    back = state_before;
    in_clique = in_clique;
  };
}
