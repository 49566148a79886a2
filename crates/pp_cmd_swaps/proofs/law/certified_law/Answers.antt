use Rattle.pp_cmd_swaps.proofs.Rechecking.{certified}
use Rattle.pp_cmd_swaps.proofs.law.certified_law.Goals as goal

pub returns : goal.returns
returns c = λ bytes text is. certified bytes text is
