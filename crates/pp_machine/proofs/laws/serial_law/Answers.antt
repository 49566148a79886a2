use Rattle.pp_model.proofs.Serial.{may_run_serially}
use Rattle.pp_kind.specs.Object.{rules_of}
use Rattle.pp_machine.proofs.laws.serial_law.Goals as goal

pub returns : goal.returns
returns g v = λ shape. may_run_serially (rules_of g.S.Spec.object shape)
