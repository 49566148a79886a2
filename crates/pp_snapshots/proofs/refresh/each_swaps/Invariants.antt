use Rattle.std.proofs.Common.{take}
use Rattle.pp_snapshots.specs.Refreshing.{SwapsAll}
use Rattle.pp_snapshots.proofs.refresh.each_swaps.Given as goal

-- those before it do
abbrev pub invariant-loop-a : goal.invariant-loop-a
invariant-loop-a g l = SwapsAll g.S.Spec.object (take l.a-index l.own) l.op
