use Rattle.pp_kind.specs.Object.{rules_of}
use Rattle.pp_laws_opacity.proofs.Zombies.{at_app, not_opaque, one_zombie}
use Rattle.pp_laws_opacity.proofs.zombie_law.Goals as goal

pub returns : goal.returns
returns g c = λ shape. record {
  excludes = λ h ss z is opaque. not_opaque (rules_of g.S.Spec.object shape) h ss ss z is is.within opaque;
  one = λ h ss z w met run is it. one_zombie (rules_of g.S.Spec.object shape) h met ss run z w is it;
  app = λ h ss z met run is. at_app (rules_of g.S.Spec.object shape) h met ss run z is;
}
