use Rattle.pp_model.proofs.Parted.{views}
use Rattle.pp_kind.specs.Object.{rules_of}
use Rattle.pp_machine.proofs.laws.views_law.Goals as goal

pub returns : goal.returns
returns g v = λ shape. views (rules_of g.S.Spec.object shape)
