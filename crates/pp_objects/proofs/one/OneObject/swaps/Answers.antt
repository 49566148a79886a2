use Rattle.pp_objects.proofs.Alone.{pair_swaps, strangers_swap}
use Rattle.pp_core.specs.declared.call.Kind.TheVariants as kinds
use Rattle.pp_objects.proofs.one.OneObject.swaps.Goals as goal

pub returns-in-Memory-Memory : goal.returns-in-Memory-Memory
returns-in-Memory-Memory c = pair_swaps kinds.Memory c.args.a.now c.args.b.now c.in-Memory-Memory.a
    c.in-Memory-Memory.b c.swaps.result c.in-Memory-Memory.is-0 c.in-Memory-Memory.is-1
    c.swaps.ensures.swaps c.swaps.ensures.only

pub returns-in-KeySet-KeySet : goal.returns-in-KeySet-KeySet
returns-in-KeySet-KeySet c = pair_swaps kinds.KeySet c.args.a.now c.args.b.now c.in-KeySet-KeySet.a
    c.in-KeySet-KeySet.b c.swaps-in-KeySet-KeySet.result c.in-KeySet-KeySet.is-0
    c.in-KeySet-KeySet.is-1 c.swaps-in-KeySet-KeySet.ensures.swaps
    c.swaps-in-KeySet-KeySet.ensures.only

pub returns-in-KeyMap-KeyMap : goal.returns-in-KeyMap-KeyMap
returns-in-KeyMap-KeyMap c = pair_swaps kinds.KeyMap c.args.a.now c.args.b.now c.in-KeyMap-KeyMap.a
    c.in-KeyMap-KeyMap.b c.swaps-in-KeyMap-KeyMap.result c.in-KeyMap-KeyMap.is-0
    c.in-KeyMap-KeyMap.is-1 c.swaps-in-KeyMap-KeyMap.ensures.swaps
    c.swaps-in-KeyMap-KeyMap.ensures.only

pub returns-in-Counter-Counter : goal.returns-in-Counter-Counter
returns-in-Counter-Counter c =
    pair_swaps kinds.Counter c.args.a.now c.args.b.now c.in-Counter-Counter.a c.in-Counter-Counter.b
    c.swaps-in-Counter-Counter.result c.in-Counter-Counter.is-0 c.in-Counter-Counter.is-1
    c.swaps-in-Counter-Counter.ensures.swaps c.swaps-in-Counter-Counter.ensures.only

pub returns-in-Queue-Queue : goal.returns-in-Queue-Queue
returns-in-Queue-Queue c = pair_swaps kinds.Queue c.args.a.now c.args.b.now c.in-Queue-Queue.a
    c.in-Queue-Queue.b c.swaps-in-Queue-Queue.result c.in-Queue-Queue.is-0 c.in-Queue-Queue.is-1
    c.swaps-in-Queue-Queue.ensures.swaps c.swaps-in-Queue-Queue.ensures.only

pub returns-in-Stack-Stack : goal.returns-in-Stack-Stack
returns-in-Stack-Stack c = pair_swaps kinds.Stack c.args.a.now c.args.b.now c.in-Stack-Stack.a
    c.in-Stack-Stack.b c.swaps-in-Stack-Stack.result c.in-Stack-Stack.is-0 c.in-Stack-Stack.is-1
    c.swaps-in-Stack-Stack.ensures.swaps c.swaps-in-Stack-Stack.ensures.only

pub returns-in-PriorityQueue-PriorityQueue : goal.returns-in-PriorityQueue-PriorityQueue
returns-in-PriorityQueue-PriorityQueue c = pair_swaps kinds.PriorityQueue c.args.a.now c.args.b.now c.in-PriorityQueue-PriorityQueue.a
    c.in-PriorityQueue-PriorityQueue.b c.swaps-in-PriorityQueue-PriorityQueue.result c.in-PriorityQueue-PriorityQueue.is-0 c.in-PriorityQueue-PriorityQueue.is-1
    c.swaps-in-PriorityQueue-PriorityQueue.ensures.swaps c.swaps-in-PriorityQueue-PriorityQueue.ensures.only

pub returns-in_default : goal.returns-in_default
returns-in_default c = strangers_swap kinds.Memory c.args.a.now c.args.b.now c.in_default.field-0-0
    c.in_default.is-0 c.in_default.not-Memory-1

pub returns-in_default-2 : goal.returns-in_default-2
returns-in_default-2 c = strangers_swap kinds.KeySet c.args.a.now c.args.b.now
    c.in_default.field-0-0 c.in_default.is-0 c.in_default.not-KeySet-1

pub returns-in_default-3 : goal.returns-in_default-3
returns-in_default-3 c = strangers_swap kinds.KeyMap c.args.a.now c.args.b.now
    c.in_default.field-0-0 c.in_default.is-0 c.in_default.not-KeyMap-1

pub returns-in_default-4 : goal.returns-in_default-4
returns-in_default-4 c = strangers_swap kinds.Counter c.args.a.now c.args.b.now
    c.in_default.field-0-0 c.in_default.is-0 c.in_default.not-Counter-1

pub returns-in_default-5 : goal.returns-in_default-5
returns-in_default-5 c = strangers_swap kinds.Queue c.args.a.now c.args.b.now c.in_default.field-0-0
    c.in_default.is-0 c.in_default.not-Queue-1

pub returns-in_default-6 : goal.returns-in_default-6
returns-in_default-6 c = strangers_swap kinds.Stack c.args.a.now c.args.b.now c.in_default.field-0-0
    c.in_default.is-0 c.in_default.not-Stack-1

pub returns-in_default-7 : goal.returns-in_default-7
returns-in_default-7 c = strangers_swap kinds.PriorityQueue c.args.a.now c.args.b.now c.in_default.field-0-0
    c.in_default.is-0 c.in_default.not-PriorityQueue-1
