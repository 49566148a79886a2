use Rattle.std.proofs.Common.{subst}
use Rattle.std.proofs.lemmas.Result.{IfOk-weaker}
use Rattle.pp_judge.specs.Findings.{Finds, finding_of}
use Rattle.pp_cmd_focus.specs.Located.{located_judging}
use Rattle.pp_cmd_focus.proofs.Concluding.{found_whole}
use Rattle.pp_cmd_focus.proofs.command.conclude.Goals as goal

pub returns-in-Running-clause-output : goal.returns-in-Running-clause-output
returns-in-Running-clause-output c =
    IfOk-weaker c.report_restriction.result _ _ (λ r shown old new read bytes is.
    let found = subst (λ p. Finds located_judging old new (finding_of p)) c.in-Running.is read.found in
    shown bytes (found_whole old new bytes c.in-Running.tally c.in-Running.located is found) (read.text bytes is)) c.report_restriction.ensures.output
