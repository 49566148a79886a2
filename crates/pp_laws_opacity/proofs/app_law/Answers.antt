use Rattle.pp_kind.specs.Object.{rules_of}
use Rattle.pp_laws_opacity.proofs.Apps.{at_apps, from_apps}
use Rattle.pp_laws_opacity.proofs.app_law.Goals as goal

pub returns : goal.returns
returns g c = λ shape. λ h ss met run. (at_apps (rules_of g.S.Spec.object shape) h met ss run, from_apps (rules_of g.S.Spec.object shape) h met ss run)
