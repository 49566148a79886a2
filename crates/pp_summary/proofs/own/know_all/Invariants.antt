use Rattle.std.proofs.Common.{take}
use Rattle.pp_summary.specs.Known.{KnowsAll}
use Rattle.pp_summary.proofs.own.know_all.Given as goal

-- The samples know the operations so far.
abbrev pub invariant-loop-item : goal.invariant-loop-item
invariant-loop-item g l = KnowsAll g.S.Spec.object g.S.Parted.part_of l.samples.entries (take l.item-index l.items)
