use Rattle.pp_kind.specs.Object.{rules_of}
use Rattle.pp_laws_opacity.proofs.Prefixes.{began_one, began_open}
use Rattle.pp_laws_opacity.proofs.began_law.Goals as goal

pub returns : goal.returns
returns g c = λ shape. record {
  some = λ h ss t met run n. began_open (rules_of g.S.Spec.object shape) h met t ss run n;
  one = λ ss t e f b c. began_one t ss e f b c;
}
