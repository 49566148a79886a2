use Rattle.std.proofs.Common.{◌∙◌, ap, drop, refl, subst}
use Rattle.pp_styles.specs.Knowing.{IsAllBut}
use Rattle.pp_styles.specs.Noting.{known}
use Rattle.pp_styles.proofs.Tracking.{all_but_here}
use Rattle.pp_styles.proofs.tracked.Tracked.local_on.Goals as goal

pub returns-clause-ids : goal.returns-clause-ids
returns-clause-ids g c =
    let t = c.args.tx.now in
    let o = c.args.object in
    subst (λ v. IsAllBut g.S.Placed.place_of o v.config.shared c.in_ok-local.local.now.1 c.unknown.result.now) c.self.view_is
    (all_but_here g.S.Spec.object g.S.Placed.place_of (known c.self.inside.notes.value) c.self.inside.machine c.self.inside.machine refl c.self.invariant.0
    c.count-sound.ensures.sound t c.in_ok-local.local.now c.in_ok-local.ensures o c.unknown.result.now
    (c.unknown.ensures ∙ ap (λ n. drop ((known n).taken t o) ((known n).ids o)) c.deref.ensures))
