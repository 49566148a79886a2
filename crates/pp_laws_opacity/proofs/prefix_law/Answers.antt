use Rattle.pp_kind.specs.Object.{rules_of}
use Rattle.pp_laws_opacity.proofs.Apps.{opaque_before}
use Rattle.pp_laws_opacity.proofs.prefix_law.Goals as goal

pub returns : goal.returns
returns g c = λ shape. λ h past ss b opaque. opaque_before (rules_of g.S.Spec.object shape) h past ss b opaque
