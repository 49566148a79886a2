use Rattle.pp_model.proofs.Verdict.{accepted_iff, one_verdict}
use Rattle.pp_kind.specs.Object.{rules_of}
use Rattle.pp_machine.proofs.laws.verdict_law.Goals as goal

pub returns : goal.returns
returns g v = λ shape. let O = rules_of g.S.Spec.object shape in record { accepted = accepted_iff O; one = one_verdict O }
