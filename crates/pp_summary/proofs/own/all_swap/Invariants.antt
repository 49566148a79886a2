use Rattle.std.proofs.Common.{take}
use Rattle.pp_summary.specs.Passing.{LetPass}
use Rattle.pp_summary.proofs.own.all_swap.Given as goal

abbrev pub invariant-loop-item : goal.invariant-loop-item
invariant-loop-item g l = LetPass g.S.Spec.object g.S.Placed.place_of (take l.item-index l.own) l.op
