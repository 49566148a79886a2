use Rattle.pp_cmd_quick.proofs.Decided.{decided}
use Rattle.pp_cmd_quick.proofs.law.decision_law.Goals as goal

pub returns : goal.returns
returns c = decided
