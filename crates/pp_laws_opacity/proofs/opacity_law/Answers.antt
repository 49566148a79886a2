use Rattle.pp_kind.specs.Object.{rules_of}
use Rattle.pp_laws_opacity.proofs.Orders.{opaque, ordered}
use Rattle.pp_laws_opacity.proofs.opacity_law.Goals as goal

pub returns : goal.returns
returns g c = λ shape. λ h ss met run. (ordered (rules_of g.S.Spec.object shape) h met ss run, opaque (rules_of g.S.Spec.object shape) h met ss run)
