use Rattle.pp_kind.specs.Object.{rules_of}
use Rattle.pp_summary.proofs.Whole.{decided}
use Rattle.pp_summary.proofs.laws.decided_law.Goals as goal

pub returns : goal.returns
returns g v = λ shape place apart. decided (rules_of g.S.Spec.object shape) place apart
