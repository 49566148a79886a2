use Rattle.pp_judge.proofs.WiderLimits.{wider_limits}
use Rattle.pp_judge.proofs.law.wider_limits_law.Goals as goal

pub returns : goal.returns
returns c = wider_limits
