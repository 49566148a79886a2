use Rattle.std.proofs.Common.{subst}
use Rattle.pp_model.specs.Lists.{In}
use Rattle.pp_summary.proofs.own.Own.new.Goals as goal

pub invariant_of-result : goal.invariant_of-result
invariant_of-result g c = (λ p i. absurd (subst (λ l. In p l) c.new.ensures i), λ _ p i. absurd (subst (λ l. In p l) c.new.ensures i))
