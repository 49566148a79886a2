use Rattle.pp_model.proofs.Begin.{start_sound}
use Rattle.pp_model.proofs.Keeps.{step_keeps}
use Rattle.pp_kind.specs.Object.{rules_of}
use Rattle.pp_machine.proofs.laws.kept_law.Goals as goal

pub returns : goal.returns
returns g v = λ shape. let O = rules_of g.S.Spec.object shape in record { start = start_sound O; step = step_keeps O }
