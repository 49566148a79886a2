use Rattle.pp_core.specs.declared.call.Kind.TheVariants as kinds
use Rattle.pp_objects.proofs.Gaps.{leaves_here}
use Rattle.pp_objects.proofs.Gaps.{memory_gaps, set_gaps, map_gaps, counter_gaps, queue_gaps, stack_gaps, prio_gaps}
use Rattle.pp_objects.proofs.one.OneObject.gap_of.Goals as goal

pub returns-in-Memory : goal.returns-in-Memory
returns-in-Memory c = leaves_here kinds.Memory memory_gaps c.args.op.now c.in-Memory.op c.args.undo.now
    c.gap_of.result c.left_as.result c.in-Memory.is c.left_as.ensures c.gap_of.ensures

pub returns-in-KeySet : goal.returns-in-KeySet
returns-in-KeySet c = leaves_here kinds.KeySet set_gaps c.args.op.now c.in-KeySet.op c.args.undo.now
    c.gap_of-in-KeySet.result c.left_as-in-KeySet.result c.in-KeySet.is c.left_as-in-KeySet.ensures c.gap_of-in-KeySet.ensures

pub returns-in-KeyMap : goal.returns-in-KeyMap
returns-in-KeyMap c = leaves_here kinds.KeyMap map_gaps c.args.op.now c.in-KeyMap.op c.args.undo.now
    c.gap_of-in-KeyMap.result c.left_as-in-KeyMap.result c.in-KeyMap.is c.left_as-in-KeyMap.ensures c.gap_of-in-KeyMap.ensures

pub returns-in-Counter : goal.returns-in-Counter
returns-in-Counter c = leaves_here kinds.Counter counter_gaps c.args.op.now c.in-Counter.op c.args.undo.now
    c.gap_of-in-Counter.result c.left_as-in-Counter.result c.in-Counter.is c.left_as-in-Counter.ensures c.gap_of-in-Counter.ensures

pub returns-in-Queue : goal.returns-in-Queue
returns-in-Queue c = leaves_here kinds.Queue queue_gaps c.args.op.now c.in-Queue.op c.args.undo.now
    c.gap_of-in-Queue.result c.left_as-in-Queue.result c.in-Queue.is c.left_as-in-Queue.ensures c.gap_of-in-Queue.ensures

pub returns-in-Stack : goal.returns-in-Stack
returns-in-Stack c = leaves_here kinds.Stack stack_gaps c.args.op.now c.in-Stack.op c.args.undo.now
    c.gap_of-in-Stack.result c.left_as-in-Stack.result c.in-Stack.is c.left_as-in-Stack.ensures c.gap_of-in-Stack.ensures

pub returns-in-PriorityQueue : goal.returns-in-PriorityQueue
returns-in-PriorityQueue c = leaves_here kinds.PriorityQueue prio_gaps c.args.op.now c.in-PriorityQueue.op c.args.undo.now
    c.gap_of-in-PriorityQueue.result c.left_as-in-PriorityQueue.result c.in-PriorityQueue.is c.left_as-in-PriorityQueue.ensures c.gap_of-in-PriorityQueue.ensures
