use Rattle.pp_kind.specs.Object.{rules_of}
use Rattle.pp_summary.proofs.Deciding.{quick}
use Rattle.pp_summary.proofs.laws.boosted_law.Goals as goal

pub returns : goal.returns
returns g v = λ shape place apart. quick (rules_of g.S.Spec.object shape) place apart
