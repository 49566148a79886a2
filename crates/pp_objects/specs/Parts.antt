-- Meaning: what the operations of a run are about: an object, and a key if its kind has keys.
use Rattle.std.specs.Prelude.{ℤ, pos, Bool, false, not}
use Rattle.std.specs.Ordering.{int_eq}
use Rattle.pp_kind.specs.declared.label.Label.{Label}
use Rattle.pp_kind.specs.declared.part.Part.{Part}
use Rattle.pp_kind_memory.specs.Operations as memories
use Rattle.pp_kind_set.specs.Operations as sets
use Rattle.pp_kind_map.specs.Operations as maps
use Rattle.pp_kind_memory.specs.Movers as mem
use Rattle.pp_kind_set.specs.Movers as set
use Rattle.pp_kind_map.specs.Movers as map
use Rattle.pp_kind_counter.specs.Movers as counts
use Rattle.pp_kind_queue.specs.Movers as queues
use Rattle.pp_kind_stack.specs.Movers as stacks
use Rattle.pp_kind_priority.specs.Movers as prios
use Rattle.pp_kind_counter.specs.declared.op.CounterOp.TheVariants.{Add}
use Rattle.pp_objects.specs.declared.act.Act.{Act}
use Rattle.pp_objects.specs.declared.act.Act.TheVariants.{Memory, KeySet, KeyMap, Counter, Queue}
use Rattle.pp_objects.specs.declared.act.Act.TheVariants.{Stack, PriorityQueue}
use Rattle.pp_objects.specs.declared.act.Op.{Op}

-- the key that an act is on, or 0 if its kind has none
abbrev pub key_of : Act → ℤ
key_of (Memory a) = memories.address_of a
key_of (KeySet a) = sets.key_of a
key_of (KeyMap a) = maps.key_of a
key_of (Counter a) = pos 0
key_of (Queue a) = pos 0
key_of (Stack a) = pos 0
key_of (PriorityQueue a) = pos 0

-- the object of an operation, and the key there
abbrev pub part_of : Op → Part
part_of op = record { object = op.object; key = key_of op.act }

-- the form of an act, among those that the gates of its kind know, and the number that they read
abbrev pub act_label : Act → Label
act_label (Memory a) = record { form = mem.gate_form_of a; number = mem.number_of a }
act_label (KeySet a) = record { form = set.form_of a; number = set.number_of a }
act_label (KeyMap a) = record { form = map.form_of a; number = map.number_of a }
act_label (Counter a) = record { form = counts.gate_form_of a; number = counts.number_of a }
act_label (Queue a) = record { form = queues.form_of a; number = queues.number_of a }
act_label (Stack a) = record { form = stacks.form_of a; number = stacks.number_of a }
act_label (PriorityQueue a) = record { form = prios.form_of a; number = prios.number_of a }

-- what gates read of an operation: its act's form and number
abbrev pub label_of : Op → Label
label_of op = act_label op.act

-- Both add to a counter, and the first adds another number than 0. Every other pair may fall into
-- the second arm, since its false claims nothing.
abbrev pub both_add : Act → Act → Bool
both_add (Counter (Add by)) (Counter (Add more)) = not (int_eq by (pos 0))
both_add a b = false
