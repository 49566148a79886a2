use Rattle.pp_kind.specs.Object.{rules_of}
use Rattle.pp_laws_locality.proofs.RunFailures.{locals}
use Rattle.pp_laws_locality.proofs.runs_are_local.Goals as goal

pub returns : goal.returns
returns g v = λ shape style has place part tells. locals style has (rules_of g.S.Spec.object shape) place part tells
