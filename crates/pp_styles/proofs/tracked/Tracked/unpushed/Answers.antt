use Rattle.std.proofs.Common.{◌≡◌, ◌≤◌, ◌-◌, ◌∙◌, Some, ap, arith, drop, length, refl, subst, take}
use Rattle.std.specs.Option.{option_map}
use Rattle.pp_records.specs.Expansions.{pushall}
use Rattle.pp_model.specs.Config.{tx}
use Rattle.pp_styles.specs.Noting.{known}
use Rattle.pp_styles.proofs.Tracking.{unpushed_here}
use Rattle.pp_styles.proofs.tracked.Tracked.unpushed.Goals as goal

pub returns : goal.returns
returns g c =
    let t = c.args.tx.now in
    let n = known c.self.inside.notes.value in
    let all = c.entries-entries.result.now in
    let from = c.min-from.result in
    let least = c.min-from.ensures in
    let counted : c.pushed.result ≡ n.pushed t = c.pushed.ensures ∙ ap (λ w. (known w).pushed t) c.deref.ensures in
    let low : from ≤ n.pushed t = omega arith in
    subst (λ v. Some (pushall t (take (length all - from) (drop from all))) ≡ option_map (λ x. pushall t x.local) (tx t v.config.opened)) c.self.view_is
    (unpushed_here g.S.Spec.object g.S.Placed.place_of n c.self.inside.machine c.self.inside.machine refl c.self.invariant.0
    c.count-sound.ensures.sound t c.in_ok-local.local.now c.in_ok-local.ensures from all c.entries-entries.ensures low)
