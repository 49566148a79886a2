use Rattle.std.proofs.Common.{subst}
use Rattle.pp_styles.specs.Dropping.{Trims, pullings}
use Rattle.pp_styles.proofs.Tracking.{pulled_trims}
use Rattle.pp_styles.proofs.tracked.Tracked.trim_pulled.Goals as goal

pub invariant_of-self : goal.invariant_of-self
invariant_of-self g c = (
  c.self.invariant.0,
  c.self.invariant.1,
  pulled_trims g.S.Spec.object (pullings c.self.inside.pulled.value) c.self.inside.machine c.self.invariant.2 c.count-sound.ensures.sound c.args.tx.now c.args.source.now c.in-Some.local.now
      c.in-Some.ensures (pullings c.trim.new.self)
      (subst (λ n. Trims c.args.tx.now c.args.source.now c.in-Some.local.now.1 (pullings n) (pullings c.trim.new.self)) c.deref_mut.ensures.value c.trim.ensures),
)
