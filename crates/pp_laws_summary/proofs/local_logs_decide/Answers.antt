use Rattle.pp_kind.specs.Object.{rules_of}
use Rattle.pp_laws_summary.proofs.LocalRecords.{keeps}
use Rattle.pp_laws_summary.proofs.local_logs_decide.Goals as goal

pub returns : goal.returns
returns g v = λ shape style has place part. keeps style has (rules_of g.S.Spec.object shape) place part
