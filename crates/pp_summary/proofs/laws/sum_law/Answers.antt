use Rattle.pp_kind.specs.Object.{rules_of}
use Rattle.pp_summary.proofs.Sums.{sum_law}
use Rattle.pp_summary.proofs.laws.sum_law.Goals as goal

pub returns : goal.returns
returns g c = λ shape place. sum_law (rules_of g.S.Spec.object shape) place
