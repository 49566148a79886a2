use Rattle.pp_cmd_judge.proofs.Judged.{judgements}
use Rattle.pp_cmd_judge.proofs.law.judgement_law.Goals as goal

pub returns : goal.returns
returns c = judgements
