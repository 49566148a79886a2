use Rattle.pp_kind.specs.Object.{rules_of}
use Rattle.pp_summary.proofs.Front.{reordered}
use Rattle.pp_summary.proofs.laws.front_law.Goals as goal

pub returns : goal.returns
returns g v = λ shape place apart t c b x i. reordered (rules_of g.S.Spec.object shape) place apart c b.sound x i (b.follows x i)
