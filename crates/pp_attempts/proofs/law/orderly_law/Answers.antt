use Rattle.pp_kind.specs.Object.{rules_of}
use Rattle.pp_attempts.proofs.Runs.{orderly}
use Rattle.pp_attempts.proofs.law.orderly_law.Goals as goal

pub returns : goal.returns
returns g c = λ shape h ss met run. orderly (rules_of g.S.Spec.object shape) h met ss run
