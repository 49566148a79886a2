use Rattle.pp_cmd_drill.proofs.Drilling.{prints_lines}
use Rattle.pp_cmd_drill.proofs.law.prints_law.Goals as goal

pub returns : goal.returns
returns c = prints_lines
