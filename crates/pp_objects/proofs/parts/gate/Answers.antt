use Rattle.pp_core.specs.declared.call.Kind.TheVariants as kinds
use Rattle.pp_objects.proofs.Gates.{gate_in}
use Rattle.pp_objects.proofs.parts.gate.Goals as goal

pub returns-in-Memory : goal.returns-in-Memory
returns-in-Memory c =
    gate_in c.args.form c.gate.result kinds.Memory c.in-Memory.op c.args.act.now c.in-Memory.is
    c.gate.ensures

pub returns-in-KeySet : goal.returns-in-KeySet
returns-in-KeySet c =
    gate_in c.args.form c.gate-in-KeySet.result kinds.KeySet c.in-KeySet.op c.args.act.now c.in-KeySet.is
    c.gate-in-KeySet.ensures

pub returns-in-KeyMap : goal.returns-in-KeyMap
returns-in-KeyMap c =
    gate_in c.args.form c.gate-in-KeyMap.result kinds.KeyMap c.in-KeyMap.op c.args.act.now c.in-KeyMap.is
    c.gate-in-KeyMap.ensures

pub returns-in-Counter : goal.returns-in-Counter
returns-in-Counter c =
    gate_in c.args.form c.gate-in-Counter.result kinds.Counter c.in-Counter.op c.args.act.now c.in-Counter.is
    c.gate-in-Counter.ensures

pub returns-in-Queue : goal.returns-in-Queue
returns-in-Queue c =
    gate_in c.args.form c.gate-in-Queue.result kinds.Queue c.in-Queue.op c.args.act.now c.in-Queue.is
    c.gate-in-Queue.ensures

pub returns-in-Stack : goal.returns-in-Stack
returns-in-Stack c =
    gate_in c.args.form c.gate-in-Stack.result kinds.Stack c.in-Stack.op c.args.act.now c.in-Stack.is
    c.gate-in-Stack.ensures

pub returns-in-PriorityQueue : goal.returns-in-PriorityQueue
returns-in-PriorityQueue c =
    gate_in c.args.form c.gate-in-PriorityQueue.result kinds.PriorityQueue c.in-PriorityQueue.op c.args.act.now c.in-PriorityQueue.is
    c.gate-in-PriorityQueue.ensures
