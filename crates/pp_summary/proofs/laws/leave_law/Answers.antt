use Rattle.pp_kind.specs.Object.{rules_of}
use Rattle.pp_summary.proofs.Leave.{leave}
use Rattle.pp_summary.proofs.laws.leave_law.Goals as goal

pub returns : goal.returns
returns g v = λ shape place apart c b x i front last e. leave (rules_of g.S.Spec.object shape) place apart c b x i front last e
