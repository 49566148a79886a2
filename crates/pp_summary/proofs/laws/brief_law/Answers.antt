use Rattle.pp_kind.specs.Object.{rules_of}
use Rattle.pp_summary.proofs.Briefs.{briefed}
use Rattle.pp_summary.proofs.laws.brief_law.Goals as goal

pub returns : goal.returns
returns g v = λ shape place apart. briefed (rules_of g.S.Spec.object shape) place apart
