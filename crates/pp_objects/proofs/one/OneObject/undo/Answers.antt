use Rattle.pp_objects.proofs.Alone.{was_applied_here}
use Rattle.pp_core.specs.declared.call.Kind.TheVariants as kinds
use Rattle.pp_objects.proofs.one.OneObject.undo.Goals as goal

pub undo-requires : goal.undo-requires
undo-requires g c =
    was_applied_here kinds.Memory c.args.state.now c.in-Memory-Memory.state c.args.op.now
    c.in-Memory-Memory.op c.args.undo c.in-Memory-Memory.is-0 c.in-Memory-Memory.is-1 c.requires

pub undo-requires-in-KeySet-KeySet : goal.undo-requires-in-KeySet-KeySet
undo-requires-in-KeySet-KeySet g c =
    was_applied_here kinds.KeySet c.args.state.now c.in-KeySet-KeySet.state c.args.op.now
    c.in-KeySet-KeySet.op c.args.undo c.in-KeySet-KeySet.is-0 c.in-KeySet-KeySet.is-1 c.requires

pub undo-requires-in-KeyMap-KeyMap : goal.undo-requires-in-KeyMap-KeyMap
undo-requires-in-KeyMap-KeyMap g c =
    was_applied_here kinds.KeyMap c.args.state.now c.in-KeyMap-KeyMap.state c.args.op.now
    c.in-KeyMap-KeyMap.op c.args.undo c.in-KeyMap-KeyMap.is-0 c.in-KeyMap-KeyMap.is-1 c.requires

pub undo-requires-in-Counter-Counter : goal.undo-requires-in-Counter-Counter
undo-requires-in-Counter-Counter g c =
    was_applied_here kinds.Counter c.args.state.now c.in-Counter-Counter.state c.args.op.now
    c.in-Counter-Counter.op c.args.undo c.in-Counter-Counter.is-0 c.in-Counter-Counter.is-1
    c.requires

pub undo-requires-in-Queue-Queue : goal.undo-requires-in-Queue-Queue
undo-requires-in-Queue-Queue g c =
    was_applied_here kinds.Queue c.args.state.now c.in-Queue-Queue.state c.args.op.now
    c.in-Queue-Queue.op c.args.undo c.in-Queue-Queue.is-0 c.in-Queue-Queue.is-1 c.requires

pub undo-requires-in-Stack-Stack : goal.undo-requires-in-Stack-Stack
undo-requires-in-Stack-Stack g c =
    was_applied_here kinds.Stack c.args.state.now c.in-Stack-Stack.state c.args.op.now
    c.in-Stack-Stack.op c.args.undo c.in-Stack-Stack.is-0 c.in-Stack-Stack.is-1 c.requires

pub undo-requires-in-PriorityQueue-PriorityQueue : goal.undo-requires-in-PriorityQueue-PriorityQueue
undo-requires-in-PriorityQueue-PriorityQueue g c =
    was_applied_here kinds.PriorityQueue c.args.state.now c.in-PriorityQueue-PriorityQueue.state c.args.op.now
    c.in-PriorityQueue-PriorityQueue.op c.args.undo c.in-PriorityQueue-PriorityQueue.is-0 c.in-PriorityQueue-PriorityQueue.is-1 c.requires
