use Rattle.pp_log.proofs.Batches.{IsGathering}
use Rattle.pp_log.proofs.carry.gather.Given as goal

abbrev pub invariant-loop-at : goal.invariant-loop-at
invariant-loop-at g l =
    IsGathering g.S.Spec.object g.S.Placed.place_of l.batch l.from l.ids l.initial.undos.items l.at l.next l.undos.items
