use Rattle.pp_core.specs.declared.call.Kind.TheVariants as kinds
use Rattle.pp_objects.proofs.Gaps.{crosses_here}
use Rattle.pp_objects.proofs.Gaps.{memory_gaps, set_gaps, map_gaps, counter_gaps, queue_gaps, stack_gaps, prio_gaps}
use Rattle.pp_objects.proofs.one.OneObject.cross.Goals as goal

pub returns-in-Memory-Memory : goal.returns-in-Memory-Memory
returns-in-Memory-Memory c = crosses_here kinds.Memory memory_gaps c.args.gap.now c.in-Memory-Memory.gap
    c.args.op.now c.in-Memory-Memory.op c.cross.result c.memory_crossed.result c.in-Memory-Memory.is-0
    c.in-Memory-Memory.is-1 c.memory_crossed.ensures c.cross.ensures

pub returns-in-KeySet-KeySet : goal.returns-in-KeySet-KeySet
returns-in-KeySet-KeySet c = crosses_here kinds.KeySet set_gaps c.args.gap.now c.in-KeySet-KeySet.gap
    c.args.op.now c.in-KeySet-KeySet.op c.cross-in-KeySet-KeySet.result c.crossed_as.result c.in-KeySet-KeySet.is-0
    c.in-KeySet-KeySet.is-1 c.crossed_as.ensures c.cross-in-KeySet-KeySet.ensures

pub returns-in-KeyMap-KeyMap : goal.returns-in-KeyMap-KeyMap
returns-in-KeyMap-KeyMap c = crosses_here kinds.KeyMap map_gaps c.args.gap.now c.in-KeyMap-KeyMap.gap
    c.args.op.now c.in-KeyMap-KeyMap.op c.cross-in-KeyMap-KeyMap.result c.crossed_as-in-KeyMap-KeyMap.result c.in-KeyMap-KeyMap.is-0
    c.in-KeyMap-KeyMap.is-1 c.crossed_as-in-KeyMap-KeyMap.ensures c.cross-in-KeyMap-KeyMap.ensures

pub returns-in-Counter-Counter : goal.returns-in-Counter-Counter
returns-in-Counter-Counter c = crosses_here kinds.Counter counter_gaps c.args.gap.now c.in-Counter-Counter.gap
    c.args.op.now c.in-Counter-Counter.op c.cross-in-Counter-Counter.result c.crossed_as-in-Counter-Counter.result c.in-Counter-Counter.is-0
    c.in-Counter-Counter.is-1 c.crossed_as-in-Counter-Counter.ensures c.cross-in-Counter-Counter.ensures

pub returns-in-Queue-Queue : goal.returns-in-Queue-Queue
returns-in-Queue-Queue c = crosses_here kinds.Queue queue_gaps c.args.gap.now c.in-Queue-Queue.gap
    c.args.op.now c.in-Queue-Queue.op c.cross-in-Queue-Queue.result c.crossed_as-in-Queue-Queue.result c.in-Queue-Queue.is-0
    c.in-Queue-Queue.is-1 c.crossed_as-in-Queue-Queue.ensures c.cross-in-Queue-Queue.ensures

pub returns-in-Stack-Stack : goal.returns-in-Stack-Stack
returns-in-Stack-Stack c = crosses_here kinds.Stack stack_gaps c.args.gap.now c.in-Stack-Stack.gap
    c.args.op.now c.in-Stack-Stack.op c.cross-in-Stack-Stack.result c.crossed_as-in-Stack-Stack.result c.in-Stack-Stack.is-0
    c.in-Stack-Stack.is-1 c.crossed_as-in-Stack-Stack.ensures c.cross-in-Stack-Stack.ensures

pub returns-in-PriorityQueue-PriorityQueue : goal.returns-in-PriorityQueue-PriorityQueue
returns-in-PriorityQueue-PriorityQueue c = crosses_here kinds.PriorityQueue prio_gaps c.args.gap.now c.in-PriorityQueue-PriorityQueue.gap
    c.args.op.now c.in-PriorityQueue-PriorityQueue.op c.cross-in-PriorityQueue-PriorityQueue.result c.crossed_as-in-PriorityQueue-PriorityQueue.result c.in-PriorityQueue-PriorityQueue.is-0
    c.in-PriorityQueue-PriorityQueue.is-1 c.crossed_as-in-PriorityQueue-PriorityQueue.ensures c.cross-in-PriorityQueue-PriorityQueue.ensures
