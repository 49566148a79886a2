use Rattle.pp_core.specs.declared.call.Kind.TheVariants as kinds
use Rattle.pp_objects.proofs.Gaps.{bears_here}
use Rattle.pp_objects.proofs.Gaps.{memory_gaps, set_gaps, map_gaps, counter_gaps, queue_gaps, stack_gaps, prio_gaps}
use Rattle.pp_objects.proofs.one.OneObject.bears.Goals as goal

pub returns-in-Memory-Memory : goal.returns-in-Memory-Memory
returns-in-Memory-Memory c = λ h. bears_here kinds.Memory memory_gaps c.args.gap.now c.in-Memory-Memory.gap
    c.args.state.now c.in-Memory-Memory.state c.in-Memory-Memory.is-0 c.in-Memory-Memory.is-1 (c.bears.ensures h)

pub returns-in-KeySet-KeySet : goal.returns-in-KeySet-KeySet
returns-in-KeySet-KeySet c = λ h. bears_here kinds.KeySet set_gaps c.args.gap.now c.in-KeySet-KeySet.gap
    c.args.state.now c.in-KeySet-KeySet.state c.in-KeySet-KeySet.is-0 c.in-KeySet-KeySet.is-1 (c.bears-in-KeySet-KeySet.ensures h)

pub returns-in-KeyMap-KeyMap : goal.returns-in-KeyMap-KeyMap
returns-in-KeyMap-KeyMap c = λ h. bears_here kinds.KeyMap map_gaps c.args.gap.now c.in-KeyMap-KeyMap.gap
    c.args.state.now c.in-KeyMap-KeyMap.state c.in-KeyMap-KeyMap.is-0 c.in-KeyMap-KeyMap.is-1 (c.bears-in-KeyMap-KeyMap.ensures h)

pub returns-in-Counter-Counter : goal.returns-in-Counter-Counter
returns-in-Counter-Counter c = λ h. bears_here kinds.Counter counter_gaps c.args.gap.now c.in-Counter-Counter.gap
    c.args.state.now c.in-Counter-Counter.state c.in-Counter-Counter.is-0 c.in-Counter-Counter.is-1 (c.bears-in-Counter-Counter.ensures h)

pub returns-in-Queue-Queue : goal.returns-in-Queue-Queue
returns-in-Queue-Queue c = λ h. bears_here kinds.Queue queue_gaps c.args.gap.now c.in-Queue-Queue.gap
    c.args.state.now c.in-Queue-Queue.state c.in-Queue-Queue.is-0 c.in-Queue-Queue.is-1 (c.bears-in-Queue-Queue.ensures h)

pub returns-in-Stack-Stack : goal.returns-in-Stack-Stack
returns-in-Stack-Stack c = λ h. bears_here kinds.Stack stack_gaps c.args.gap.now c.in-Stack-Stack.gap
    c.args.state.now c.in-Stack-Stack.state c.in-Stack-Stack.is-0 c.in-Stack-Stack.is-1 (c.bears-in-Stack-Stack.ensures h)

pub returns-in-PriorityQueue-PriorityQueue : goal.returns-in-PriorityQueue-PriorityQueue
returns-in-PriorityQueue-PriorityQueue c = λ h. bears_here kinds.PriorityQueue prio_gaps c.args.gap.now c.in-PriorityQueue-PriorityQueue.gap
    c.args.state.now c.in-PriorityQueue-PriorityQueue.state c.in-PriorityQueue-PriorityQueue.is-0 c.in-PriorityQueue-PriorityQueue.is-1 (c.bears-in-PriorityQueue-PriorityQueue.ensures h)
