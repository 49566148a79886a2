use Rattle.pp_model.proofs.Simulate.{simulated}
use Rattle.pp_kind.proofs.Places.{tells_states}
use Rattle.pp_kind.specs.Object.{rules_of}
use Rattle.pp_machine.proofs.laws.simulation_law.Goals as goal

pub returns : goal.returns
returns g v = λ shape h ss f r. simulated (rules_of g.S.Spec.object shape) h ss f r (tells_states g.S.Spec.object g.met.S.Spec.lawful shape)
