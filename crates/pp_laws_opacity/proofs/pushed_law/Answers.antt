use Rattle.pp_kind.specs.Object.{rules_of}
use Rattle.pp_laws_opacity.proofs.Sufficient.{pushed_sees}
use Rattle.pp_laws_opacity.proofs.pushed_law.Goals as goal

pub returns : goal.returns
returns g c = λ shape. λ h ss t met run x i n p. pushed_sees (rules_of g.S.Spec.object shape) h met ss t run x i n p
