-- Meaning: the operations of a run that are legal in each state: those whose call has no result.
use Rattle.std.specs.Prelude.{Bool, true, false}
use Rattle.pp_kind_counter.specs.declared.op.CounterOp.TheVariants.{Add}
use Rattle.pp_kind_memory.specs.declared.op.MemOp.TheVariants.{Write}
use Rattle.pp_kind_priority.specs.declared.op.PrioOp.TheVariants.{Insert}
use Rattle.pp_kind_queue.specs.declared.op.QueueOp.TheVariants.{Enq}
use Rattle.pp_kind_stack.specs.declared.op.StackOp.TheVariants.{Push}
use Rattle.pp_objects.specs.declared.act.Act.{Act}
use Rattle.pp_objects.specs.declared.act.Act.TheVariants.{Memory, Counter, Queue, Stack}
use Rattle.pp_objects.specs.declared.act.Act.TheVariants.{PriorityQueue}
use Rattle.pp_objects.specs.declared.act.Op.{Op}

-- The call of the act has no result. Every other act falls into the last arm, whose false claims
-- nothing.
abbrev pub is_silent : Act → Bool
is_silent (Memory (Write at value)) = true
is_silent (Counter (Add by)) = true
is_silent (Queue (Enq value)) = true
is_silent (Stack (Push value)) = true
is_silent (PriorityQueue (Insert value)) = true
is_silent act = false

-- so has that of the operation
abbrev pub silent_of : Op → Bool
silent_of op = is_silent op.act
