-- Meaning: how objects differ from what they would be without one of their acts, as each kind says.
use Rattle.std.specs.Prelude.{◌≡◌, List, Some, slice_set}
use Rattle.std.specs.List.{slice_get}
use Rattle.pp_core.specs.declared.call.Kind.{Kind}
use Rattle.pp_core.specs.declared.call.Kind.TheVariants as kinds
use Rattle.pp_kind_counter.specs.Gaps as counters
use Rattle.pp_kind_map.specs.Gaps as maps
use Rattle.pp_kind_memory.specs.Gaps as memories
use Rattle.pp_kind_priority.specs.Gaps as prios
use Rattle.pp_kind_queue.specs.Gaps as queues
use Rattle.pp_kind_set.specs.Gaps as sets
use Rattle.pp_kind_stack.specs.Gaps as stacks
use Rattle.pp_objects.specs.declared.gap.ActGap.{ActGap}
use Rattle.pp_objects.specs.declared.gap.ActGap.TheVariants.{Memory, KeySet, KeyMap, Counter, Queue}
use Rattle.pp_objects.specs.declared.gap.ActGap.TheVariants.{Stack, PriorityQueue}
use Rattle.pp_objects.specs.declared.gap.Gap.{Gap}
use Rattle.pp_objects.specs.declared.states.ObjectState.{ObjectState}
use Rattle.pp_objects.specs.laws.Kinds.{States, state_of}

-- the kind of the objects of the gap
abbrev pub kind_for : ActGap → Kind
kind_for (Memory g) = kinds.Memory
kind_for (KeySet g) = kinds.KeySet
kind_for (KeyMap g) = kinds.KeyMap
kind_for (Counter g) = kinds.Counter
kind_for (Queue g) = kinds.Queue
kind_for (Stack g) = kinds.Stack
kind_for (PriorityQueue g) = kinds.PriorityQueue

-- what its kind requires of the state
abbrev pub KindBears : (g : ActGap) → States (kind_for g) → Type 0
KindBears (Memory g) s = memories.Bears g s
KindBears (KeySet g) s = sets.Bears g s
KindBears (KeyMap g) s = maps.Bears g s
KindBears (Counter g) s = counters.Bears g s
KindBears (Queue g) s = queues.Bears g s
KindBears (Stack g) s = stacks.Bears g s
KindBears (PriorityQueue g) s = prios.Bears g s

-- two states differ by a gap, as its kind says
abbrev pub KindDiffer : (g : ActGap) → States (kind_for g) → States (kind_for g) → Type 0
KindDiffer (Memory g) s t = memories.Differ g s t
KindDiffer (KeySet g) s t = sets.Differ g s t
KindDiffer (KeyMap g) s t = maps.Differ g s t
KindDiffer (Counter g) s t = counters.Differ g s t
KindDiffer (Queue g) s t = queues.Differ g s t
KindDiffer (Stack g) s t = stacks.Differ g s t
KindDiffer (PriorityQueue g) s t = prios.Differ g s t

-- an object of this kind meets what was required of the other one
abbrev pub OneBears : ActGap → ObjectState → Type 0
OneBears g s = (v : States (kind_for g)) → s ≡ state_of (kind_for g) v → KindBears g v

-- both objects are of this kind, and differ as it says
abbrev pub OneDiffer : ActGap → ObjectState → ObjectState → Type 0
OneDiffer g s t = (v w : States (kind_for g)) × (s ≡ state_of (kind_for g) v)
    × (t ≡ state_of (kind_for g) w) × KindDiffer g v w

-- the object at the place of a gap bears it
abbrev pub Bears : Gap → List ObjectState → Type 0
Bears g ss = (s : ObjectState) → slice_get ss g.object ≡ Some s → OneBears g.act s

-- the objects differ by a gap at its place, and nowhere else
abbrev pub Differ : Gap → List ObjectState → List ObjectState → Type 0
Differ g ss ts = (s t : ObjectState) × (slice_get ss g.object ≡ Some s)
    × (ts ≡ slice_set ss g.object t) × OneDiffer g.act s t
