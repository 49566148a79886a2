use Rattle.pp_cmd_drill.proofs.Stating.{drill_reads}
use Rattle.pp_cmd_drill.proofs.law.read_back_law.Goals as goal

pub returns : goal.returns
returns c = drill_reads
