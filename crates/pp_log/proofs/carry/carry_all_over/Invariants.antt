use Rattle.pp_log.proofs.Batches.{IsPartOver}
use Rattle.pp_log.proofs.carry.carry_all_over.Given as goal

abbrev pub invariant-loop-left : goal.invariant-loop-left
invariant-loop-left g l =
    IsPartOver g.S.Spec.object g.S.Placed.place_of l.batch l.at l.initial.undos.items l.left l.undos.items

abbrev pub decreases-loop-left : goal.decreases-loop-left
decreases-loop-left g l = l.left
