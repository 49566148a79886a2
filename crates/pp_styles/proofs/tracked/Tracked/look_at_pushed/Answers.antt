use Rattle.std.proofs.Common.{refl, subst}
use Rattle.pp_styles.specs.Knowing.{PushesMore}
use Rattle.pp_styles.specs.Noting.{known}
use Rattle.pp_styles.proofs.Tracking.{pushes_here}
use Rattle.pp_styles.proofs.tracked.Tracked.look_at_pushed.Goals as goal

pub invariant_of-self : goal.invariant_of-self
invariant_of-self g c = (
  pushes_here g.S.Spec.object g.S.Placed.place_of (known c.self.inside.notes.value) c.self.inside.machine c.self.inside.machine refl c.self.invariant.0
      c.count-sound.ensures.sound c.args.tx.now c.in-Some.local.now c.in-Some.ensures (known c.look_at_pushed.new.self)
      (subst (λ n. PushesMore c.args.tx.now c.in-Some.local.now.1 (known n) (known c.look_at_pushed.new.self)) c.deref_mut.ensures.value c.look_at_pushed.ensures),
  c.self.invariant.1,
  c.self.invariant.2,
)
