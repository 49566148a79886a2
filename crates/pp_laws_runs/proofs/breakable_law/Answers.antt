use Rattle.pp_kind.specs.Object.{rules_of}
use Rattle.pp_laws_runs.proofs.Law.{breakable_law}
use Rattle.pp_laws_runs.proofs.breakable_law.Goals as goal

pub returns : goal.returns
returns g c = λ shape. breakable_law (rules_of g.S.Spec.object shape) g.S.Placed.place_of (λ a b n. g.met.S.Placed.placed.apart a b n shape)
