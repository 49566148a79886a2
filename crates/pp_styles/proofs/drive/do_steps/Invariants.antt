use Rattle.std.proofs.Common.{drop}
use Rattle.pp_styles.specs.Meanings.{meanings}
use Rattle.pp_styles.proofs.Driven.{SoFar}
use Rattle.pp_styles.proofs.drive.do_steps.Given as goal

abbrev pub invariant-loop-step : goal.invariant-loop-step
invariant-loop-step g l =
    SoFar l.fn.limit g.S.Spec.object g.S.Placed.place_of l.fn.machine (meanings l.list) l.fn.ticks
    (meanings (drop l.step-index l.list)) l.machine l.ticks
