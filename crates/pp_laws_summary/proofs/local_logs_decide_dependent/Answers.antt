use Rattle.pp_kind.specs.Object.{rules_of}
use Rattle.pp_laws_summary.proofs.Dependent.{dependent}
use Rattle.pp_laws_summary.proofs.local_logs_decide_dependent.Goals as goal

pub returns : goal.returns
returns g v = λ shape place part. dependent (rules_of g.S.Spec.object shape) place part
