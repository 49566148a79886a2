use Rattle.std.proofs.Common.{refl, subst}
use Rattle.pp_core.specs.Steps.{meaning}
use Rattle.pp_styles.specs.Dropping.{ListsPull, pullings}
use Rattle.pp_styles.specs.Knowing.{ForgetsBefore, ListsAfter}
use Rattle.pp_styles.specs.Noting.{known}
use Rattle.pp_styles.specs.Publishing.{ListsPushed, UnpassesBefore, publications}
use Rattle.pp_styles.proofs.Tracking.{lists_behind, pulled_behind, true_behind}
use Rattle.pp_styles.proofs.tracked.Tracked.step.Goals as goal

pub invariant_of-result : goal.invariant_of-result
invariant_of-result g c =
    let P = g.S.Placed.place_of in
    let step = meaning c.args.step.now in
    let machine = c.in_ok-machine.machine in
    let new = c.forget_before.new.notes in
    let last = c.note_after.new.notes in
    let unpassed = c.forget_before.new.published in
    let listed = c.list_after.new.published in (
      true_behind g.S.Spec.object g.S.Placed.place_of (known c.self.inside.notes.value) c.self.inside.machine c.self.inside.machine refl c.self.invariant.0
          c.count-sound.ensures.sound step c.in_ok-machine.outcome machine (known new) (known last) c.in_ok-machine.ensures.effect
          (subst (λ n. ForgetsBefore P step c.self.inside.machine.config (known n) (known new)) c.deref_mut.ensures.value c.forget_before.ensures.notes)
          (subst (λ n. ListsAfter g.S.Placed.place_of step machine.config.done (known n) (known last)) c.deref_mut-4.ensures.value c.in_ok-note_after.ensures),
      lists_behind g.S.Spec.object g.S.Placed.place_of (publications c.self.inside.published.value) c.self.inside.machine c.self.invariant.1 c.count-sound.ensures.sound step c.in_ok-machine.outcome machine (publications unpassed) (publications listed) c.in_ok-machine.ensures.effect
          (subst (λ n. UnpassesBefore P step c.self.inside.machine.config.shared (publications n) (publications unpassed)) c.deref_mut-2.ensures.value c.forget_before.ensures.published)
          (subst (λ n. ListsPushed g.S.Placed.place_of step machine.config.shared (publications n) (publications listed)) c.deref_mut-5.ensures.value c.in_ok-list_after.ensures),
      pulled_behind g.S.Spec.object (pullings c.self.inside.pulled.value) c.self.inside.machine c.self.invariant.2 step c.in_ok-machine.outcome machine c.shared.result.now c.shared.ensures (pullings c.list_before.new.pulled) c.in_ok-machine.ensures.effect
          (subst (λ n. ListsPull step c.shared.result.now.1 (pullings n) (pullings c.list_before.new.pulled)) c.deref_mut-3.ensures.value c.list_before.ensures),
    )
