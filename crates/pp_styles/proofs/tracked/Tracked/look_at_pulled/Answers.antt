use Rattle.std.proofs.Common.{subst}
use Rattle.pp_styles.specs.Dropping.{Looks, pullings}
use Rattle.pp_styles.proofs.Tracking.{pulled_looks}
use Rattle.pp_styles.proofs.tracked.Tracked.look_at_pulled.Goals as goal

pub invariant_of-self : goal.invariant_of-self
invariant_of-self g c = (
  c.self.invariant.0,
  c.self.invariant.1,
  pulled_looks g.S.Spec.object (pullings c.self.inside.pulled.value) c.self.inside.machine c.self.invariant.2 c.count-sound.ensures.sound c.args.tx.now c.in-Some.local.now c.in-Some.ensures
      c.entries.result.now c.entries.ensures (pullings c.look.new.self)
      (subst (λ n. Looks c.args.tx.now c.entries.result.now (pullings n) (pullings c.look.new.self)) c.deref_mut.ensures.value c.look.ensures),
)
