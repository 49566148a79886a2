use Rattle.pp_model.proofs.Serial.{same_state}
use Rattle.pp_kind.proofs.Places.{tells_states}
use Rattle.pp_kind.specs.Object.{rules_of}
use Rattle.pp_machine.proofs.laws.same_state_law.Goals as goal

pub returns : goal.returns
returns g v = λ shape. same_state (rules_of g.S.Spec.object shape) (tells_states g.S.Spec.object g.met.S.Spec.lawful shape)
