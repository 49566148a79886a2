use Rattle.pp_kind.specs.Object.{rules_of}
use Rattle.pp_laws_summary.proofs.Untouched.{untouched}
use Rattle.pp_laws_summary.proofs.untouched_objects_are_safe.Goals as goal

pub returns : goal.returns
returns g v = λ shape place part tells. untouched (rules_of g.S.Spec.object shape) place part tells
