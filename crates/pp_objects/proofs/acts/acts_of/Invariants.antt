use Rattle.std.proofs.Common.{◌≡◌, map, take}
use Rattle.pp_objects.proofs.acts.acts_of.Given as goal

abbrev pub invariant-loop-op : goal.invariant-loop-op
invariant-loop-op g l = l.acts ≡ map g.O.KindOp.act (take l.op-index l.ops)
