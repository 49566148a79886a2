use Rattle.std.proofs.Common.{subst}
use Rattle.pp_model.specs.Config.{Config}
use Rattle.pp_summary.specs.Held.{IsHeldOf}
use Rattle.pp_summary.proofs.quick.Quick.count.Goals as goal

pub returns-clause-boosted : goal.returns-clause-boosted
returns-clause-boosted g c =
    subst (λ v. (x : Config _) × IsHeldOf g.S.Spec.object g.S.Placed.place_of v x) c.self.view_is c.self.invariant.is_held
