use Rattle.pp_log.proofs.Carried.{IsPart}
use Rattle.pp_log.proofs.carry.carry_out.Given as goal

abbrev pub invariant-loop-at : goal.invariant-loop-at
invariant-loop-at g l =
    IsPart g.S.Spec.object g.S.Placed.place_of l.op l.from l.initial.undos.items l.at l.undos.items
