use Rattle.pp_cmd_drill.proofs.Accepted.{drill_accepted}
use Rattle.pp_cmd_drill.proofs.law.drill_law.Goals as goal

pub returns : goal.returns
returns c = λ n low high. drill_accepted n low high
