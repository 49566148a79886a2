use Rattle.pp_kind.specs.Object.{rules_of}
use Rattle.pp_laws_opacity.proofs.Sufficient.{snapshots_opaque}
use Rattle.pp_laws_opacity.proofs.snapshot_law.Goals as goal

pub returns : goal.returns
returns g c = λ shape. λ h ss met run s. snapshots_opaque (rules_of g.S.Spec.object shape) h met ss run s
