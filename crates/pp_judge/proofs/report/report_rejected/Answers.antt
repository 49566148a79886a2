use Rattle.std.proofs.lemmas.Result.{IfOk-weaker}
use Rattle.pp_judge.proofs.Concluding.{rejected_told}
use Rattle.pp_judge.proofs.report.report_rejected.Goals as goal

pub rejected-requires : goal.rejected-requires
rejected-requires c = c.requires.1.ends.named

pub returns : goal.returns
returns c = IfOk-weaker c.rejected.result _ _ (λ text is sc r. rejected_told sc c.args.tally.now c.args.rejection.now r text is) c.rejected.ensures
