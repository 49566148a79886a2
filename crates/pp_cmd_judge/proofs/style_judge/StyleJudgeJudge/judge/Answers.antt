use Rattle.std.proofs.Common.{◌≡◌, subst, sym}
use Rattle.std.specs.Result.{IfErr}
use Rattle.pp_records.specs.Records.{record_meaning}
use Rattle.pp_input_reader.specs.Takers.{IfFault}
use Rattle.pp_judge.specs.Judging.{HasFaultThere}
use Rattle.pp_cmd_judge.specs.StyleJudging.{style_judging}
use Rattle.pp_cmd_judge.proofs.style_judge.StyleJudgeJudge.judge.Goals as goal

pub returns-in-Driven-clause-stop : goal.returns-in-Driven-clause-stop
returns-in-Driven-clause-stop g c =
    let header = c.args.header.now in
    let r = record_meaning c.args.recorded.now in
    let line = c.args.line in
    subst (λ self. IfErr c.judge-in-Driven.result (λ stop. IfFault stop (λ at cause. (at ≡ line) × HasFaultThere style_judging header self r line cause))) (sym c.in-Driven.is) c.judge-in-Driven.ensures.stop
