use Rattle.pp_attempts.proofs.KeptPeaks.{applied}
use Rattle.pp_attempts.proofs.law.applied_law.Goals as goal

pub returns : goal.returns
returns g c = applied
