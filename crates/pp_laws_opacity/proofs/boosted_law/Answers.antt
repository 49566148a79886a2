use Rattle.pp_kind.specs.Object.{rules_of}
use Rattle.pp_laws_opacity.proofs.Boosted.{boosted_opaque}
use Rattle.pp_laws_opacity.proofs.boosted_law.Goals as goal

pub returns : goal.returns
returns g c = λ shape. λ place ks h rs style met run. boosted_opaque (rules_of g.S.Spec.object shape) place ks h rs style met run
