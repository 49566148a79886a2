use Rattle.pp_kind.specs.Object.{rules_of}
use Rattle.pp_summary.specs.Runs.{boosting}
use Rattle.pp_summary.proofs.Failures.{failure_law}
use Rattle.pp_summary.proofs.laws.failure_law.Goals as goal

pub returns : goal.returns
returns g c = λ shape place ks. failure_law (rules_of g.S.Spec.object shape) (boosting place ks)
