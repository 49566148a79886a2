use Rattle.pp_objects.proofs.Alone.{reached_here}
use Rattle.pp_core.specs.declared.call.Kind.TheVariants as kinds
use Rattle.pp_objects.proofs.one.OneObject.apply.Goals as goal

pub apply-requires-clause-reached : goal.apply-requires-clause-reached
apply-requires-clause-reached g c =
    reached_here kinds.Memory c.args.state.now c.in-Memory-Memory.state c.in-Memory-Memory.is-0
    c.requires.reached

pub apply-requires-in-KeySet-KeySet-clause-reached :
    goal.apply-requires-in-KeySet-KeySet-clause-reached
apply-requires-in-KeySet-KeySet-clause-reached g c =
    reached_here kinds.KeySet c.args.state.now c.in-KeySet-KeySet.state c.in-KeySet-KeySet.is-0
    c.requires.reached

pub apply-requires-in-KeyMap-KeyMap-clause-reached :
    goal.apply-requires-in-KeyMap-KeyMap-clause-reached
apply-requires-in-KeyMap-KeyMap-clause-reached g c =
    reached_here kinds.KeyMap c.args.state.now c.in-KeyMap-KeyMap.state c.in-KeyMap-KeyMap.is-0
    c.requires.reached

pub apply-requires-in-Counter-Counter-clause-reached :
    goal.apply-requires-in-Counter-Counter-clause-reached
apply-requires-in-Counter-Counter-clause-reached g c =
    reached_here kinds.Counter c.args.state.now c.in-Counter-Counter.state c.in-Counter-Counter.is-0
    c.requires.reached

pub apply-requires-in-Queue-Queue-clause-reached : goal.apply-requires-in-Queue-Queue-clause-reached
apply-requires-in-Queue-Queue-clause-reached g c =
    reached_here kinds.Queue c.args.state.now c.in-Queue-Queue.state c.in-Queue-Queue.is-0
    c.requires.reached

pub apply-requires-in-Stack-Stack-clause-reached : goal.apply-requires-in-Stack-Stack-clause-reached
apply-requires-in-Stack-Stack-clause-reached g c =
    reached_here kinds.Stack c.args.state.now c.in-Stack-Stack.state c.in-Stack-Stack.is-0
    c.requires.reached

pub apply-requires-in-PriorityQueue-PriorityQueue-clause-reached : goal.apply-requires-in-PriorityQueue-PriorityQueue-clause-reached
apply-requires-in-PriorityQueue-PriorityQueue-clause-reached g c =
    reached_here kinds.PriorityQueue c.args.state.now c.in-PriorityQueue-PriorityQueue.state c.in-PriorityQueue-PriorityQueue.is-0
    c.requires.reached
