use Rattle.pp_core.specs.declared.call.Kind.TheVariants as kinds
use Rattle.pp_objects.proofs.Gaps.{closes_here, may_close_here, never_other}
use Rattle.pp_objects.proofs.Gaps.{memory_gaps, set_gaps, map_gaps, counter_gaps, queue_gaps, stack_gaps, prio_gaps}
use Rattle.pp_objects.proofs.one.OneObject.close.Goals as goal
use Rattle.pp_objects.proofs.one.OneObject.close.Goals.{in_default-via-in-Memory+in_default, in_default-via-in-KeySet+in_default, in_default-via-in-KeyMap+in_default, in_default-via-in-Counter+in_default, in_default-via-in-Queue+in_default, in_default-via-in-Stack+in_default, in_default-via-in-PriorityQueue+in_default}
use Rattle.pp_objects.proofs.one.OneObject.close.Goals.{in-Memory-Memory, in-KeySet-KeySet, in-KeyMap-KeyMap}
use Rattle.pp_objects.proofs.one.OneObject.close.Goals.{in-Counter-Counter, in-Queue-Queue, in-Stack-Stack, in-PriorityQueue-PriorityQueue, in_default}

pub close-requires : goal.close-requires
close-requires g c = may_close_here kinds.Memory memory_gaps c.args.gap.now c.in-Memory-Memory.gap
    c.args.state.now c.in-Memory-Memory.state c.in-Memory-Memory.is-1 c.in-Memory-Memory.is-0 c.requires

pub close-requires-in-KeySet-KeySet : goal.close-requires-in-KeySet-KeySet
close-requires-in-KeySet-KeySet g c = may_close_here kinds.KeySet set_gaps c.args.gap.now c.in-KeySet-KeySet.gap
    c.args.state.now c.in-KeySet-KeySet.state c.in-KeySet-KeySet.is-1 c.in-KeySet-KeySet.is-0 c.requires

pub close-requires-in-KeyMap-KeyMap : goal.close-requires-in-KeyMap-KeyMap
close-requires-in-KeyMap-KeyMap g c = may_close_here kinds.KeyMap map_gaps c.args.gap.now c.in-KeyMap-KeyMap.gap
    c.args.state.now c.in-KeyMap-KeyMap.state c.in-KeyMap-KeyMap.is-1 c.in-KeyMap-KeyMap.is-0 c.requires

pub close-requires-in-Counter-Counter : goal.close-requires-in-Counter-Counter
close-requires-in-Counter-Counter g c = may_close_here kinds.Counter counter_gaps c.args.gap.now c.in-Counter-Counter.gap
    c.args.state.now c.in-Counter-Counter.state c.in-Counter-Counter.is-1 c.in-Counter-Counter.is-0 c.requires

pub close-requires-in-Queue-Queue : goal.close-requires-in-Queue-Queue
close-requires-in-Queue-Queue g c = may_close_here kinds.Queue queue_gaps c.args.gap.now c.in-Queue-Queue.gap
    c.args.state.now c.in-Queue-Queue.state c.in-Queue-Queue.is-1 c.in-Queue-Queue.is-0 c.requires

pub close-requires-in-Stack-Stack : goal.close-requires-in-Stack-Stack
close-requires-in-Stack-Stack g c = may_close_here kinds.Stack stack_gaps c.args.gap.now c.in-Stack-Stack.gap
    c.args.state.now c.in-Stack-Stack.state c.in-Stack-Stack.is-1 c.in-Stack-Stack.is-0 c.requires

pub close-requires-in-PriorityQueue-PriorityQueue : goal.close-requires-in-PriorityQueue-PriorityQueue
close-requires-in-PriorityQueue-PriorityQueue g c = may_close_here kinds.PriorityQueue prio_gaps c.args.gap.now c.in-PriorityQueue-PriorityQueue.gap
    c.args.state.now c.in-PriorityQueue-PriorityQueue.state c.in-PriorityQueue-PriorityQueue.is-1 c.in-PriorityQueue-PriorityQueue.is-0 c.requires

pub returns-clause-ok : goal.returns-clause-ok
returns-clause-ok g c =
    let f = c.args.gap.now in
    let s = c.args.state.now in
    let v = c.match-state.state in
    let r = c.match-state.result in
    elim c.match-state.branch [
      | in-Memory-Memory w ↦ closes_here kinds.Memory memory_gaps f w.in-Memory-Memory.gap s v
          w.in-Memory-Memory.state w.close.new.state r w.close.result w.in-Memory-Memory.is-1
          w.in-Memory-Memory.is-0 w.state-is w.result-is w.close.ensures.ok
      | in-KeySet-KeySet w ↦ closes_here kinds.KeySet set_gaps f w.in-KeySet-KeySet.gap s v
          w.in-KeySet-KeySet.state w.close-in-KeySet-KeySet.new.state r w.close-in-KeySet-KeySet.result w.in-KeySet-KeySet.is-1
          w.in-KeySet-KeySet.is-0 w.state-is w.result-is w.close-in-KeySet-KeySet.ensures.ok
      | in-KeyMap-KeyMap w ↦ closes_here kinds.KeyMap map_gaps f w.in-KeyMap-KeyMap.gap s v
          w.in-KeyMap-KeyMap.state w.close-in-KeyMap-KeyMap.new.state r w.close-in-KeyMap-KeyMap.result w.in-KeyMap-KeyMap.is-1
          w.in-KeyMap-KeyMap.is-0 w.state-is w.result-is w.close-in-KeyMap-KeyMap.ensures.ok
      | in-Counter-Counter w ↦ closes_here kinds.Counter counter_gaps f w.in-Counter-Counter.gap s v
          w.in-Counter-Counter.state w.close-in-Counter-Counter.new.state r w.close-in-Counter-Counter.result w.in-Counter-Counter.is-1
          w.in-Counter-Counter.is-0 w.state-is w.result-is w.close-in-Counter-Counter.ensures.ok
      | in-Queue-Queue w ↦ closes_here kinds.Queue queue_gaps f w.in-Queue-Queue.gap s v
          w.in-Queue-Queue.state w.close-in-Queue-Queue.new.state r w.close-in-Queue-Queue.result w.in-Queue-Queue.is-1
          w.in-Queue-Queue.is-0 w.state-is w.result-is w.close-in-Queue-Queue.ensures.ok
      | in-Stack-Stack w ↦ closes_here kinds.Stack stack_gaps f w.in-Stack-Stack.gap s v
          w.in-Stack-Stack.state w.close-in-Stack-Stack.new.state r w.close-in-Stack-Stack.result w.in-Stack-Stack.is-1
          w.in-Stack-Stack.is-0 w.state-is w.result-is w.close-in-Stack-Stack.ensures.ok
      | in-PriorityQueue-PriorityQueue w ↦ closes_here kinds.PriorityQueue prio_gaps f w.in-PriorityQueue-PriorityQueue.gap s v
          w.in-PriorityQueue-PriorityQueue.state w.close-in-PriorityQueue-PriorityQueue.new.state r w.close-in-PriorityQueue-PriorityQueue.result w.in-PriorityQueue-PriorityQueue.is-1
          w.in-PriorityQueue-PriorityQueue.is-0 w.state-is w.result-is w.close-in-PriorityQueue-PriorityQueue.ensures.ok
      | in_default w ↦ elim w.in_default.branch [
        | in_default-via-in-Memory+in_default u ↦ absurd (never_other kinds.Memory memory_gaps f s
            u.in_default.field-0-0 u.in_default.is-0 c.requires u.in_default.not-Memory-1)
        | in_default-via-in-KeySet+in_default u ↦ absurd (never_other kinds.KeySet set_gaps f s
            u.in_default.field-0-0 u.in_default.is-0 c.requires u.in_default.not-KeySet-1)
        | in_default-via-in-KeyMap+in_default u ↦ absurd (never_other kinds.KeyMap map_gaps f s
            u.in_default.field-0-0 u.in_default.is-0 c.requires u.in_default.not-KeyMap-1)
        | in_default-via-in-Counter+in_default u ↦ absurd (never_other kinds.Counter counter_gaps f s
            u.in_default.field-0-0 u.in_default.is-0 c.requires u.in_default.not-Counter-1)
        | in_default-via-in-Queue+in_default u ↦ absurd (never_other kinds.Queue queue_gaps f s
            u.in_default.field-0-0 u.in_default.is-0 c.requires u.in_default.not-Queue-1)
        | in_default-via-in-Stack+in_default u ↦ absurd (never_other kinds.Stack stack_gaps f s
            u.in_default.field-0-0 u.in_default.is-0 c.requires u.in_default.not-Stack-1)
        | in_default-via-in-PriorityQueue+in_default u ↦ absurd (never_other kinds.PriorityQueue prio_gaps f s
            u.in_default.field-0-0 u.in_default.is-0 c.requires u.in_default.not-PriorityQueue-1)
      ]
    ]
