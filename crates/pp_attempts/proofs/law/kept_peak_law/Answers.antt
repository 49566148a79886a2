use Rattle.pp_kind.specs.Object.{rules_of}
use Rattle.pp_attempts.proofs.KeptPeaks.{kept_peak}
use Rattle.pp_attempts.proofs.law.kept_peak_law.Goals as goal

pub returns : goal.returns
returns g c = λ shape h ss met run. kept_peak (rules_of g.S.Spec.object shape) h met ss run
