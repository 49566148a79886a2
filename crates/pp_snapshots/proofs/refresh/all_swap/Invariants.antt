use Rattle.std.proofs.Common.{take}
use Rattle.pp_snapshots.specs.Refreshing.{AllSwap}
use Rattle.pp_snapshots.proofs.refresh.all_swap.Given as goal

-- those before it do
abbrev pub invariant-loop-op : goal.invariant-loop-op
invariant-loop-op g l = AllSwap g.S.Spec.object l.own (take l.op-index l.later)
