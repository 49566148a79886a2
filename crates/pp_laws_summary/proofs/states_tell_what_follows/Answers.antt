use Rattle.pp_kind.specs.Object.{rules_of}
use Rattle.pp_laws_summary.proofs.States.{states_tell}
use Rattle.pp_laws_summary.proofs.states_tell_what_follows.Goals as goal

pub returns : goal.returns
returns g v = λ shape place part tells. states_tell (rules_of g.S.Spec.object shape) place part tells
