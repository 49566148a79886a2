use Rattle.std.proofs.Common.{List}
use Rattle.pp_attempts.specs.Peaks.{Peak}
use Rattle.pp_attempts.specs.Trying.{MayBeNumbered}
use Rattle.pp_attempts.proofs.Rounds.{InRound}
use Rattle.pp_attempts.proofs.view.try_all.Given as goal

abbrev pub invariant-loop-candidate : goal.invariant-loop-candidate
invariant-loop-candidate g l = (ps : List (Peak _)) → MayBeNumbered g.S.Spec.object l.fn.state ps l.fn.views.items l.candidates
    → InRound g.S.Spec.object ps l.number l.fn.state l.fn.views.items l.candidates l.candidate-index l.views.items l.done.items l.state l.fn.ticks l.ticks
