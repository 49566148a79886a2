use Rattle.std.proofs.Common.{◌∙◌, ap, refl, subst, sym}
use Rattle.pp_core.specs.declared.entry.LocalEntry.{LocalEntry}
use Rattle.pp_model.specs.Body.{IsWord}
use Rattle.pp_model.proofs.Finding.{decided, decided_not}
use Rattle.pp_machine.specs.declared.detail.Detail.TheVariants.{Entry}
use Rattle.pp_machine.specs.Courses.{own_calls}
use Rattle.pp_machine.specs.Sites.{seen_with}
use Rattle.pp_machine.proofs.Cuts.{read_found}
use Rattle.pp_machine.proofs.Judging.{cmt_2, cmt_3, cmt_4, cmt_0}
use Rattle.pp_machine.proofs.Opened.{coursed}
use Rattle.pp_machine.proofs.Testing.{all_pushed, not_all_pushed, all_stand, not_all_stand}
use Rattle.pp_machine.proofs.machine.cmt.judge_cmt.Goals as goal

pub returns-then-not-complete : goal.returns-then-not-complete
returns-then-not-complete g c = λ m t h.
    let q = coursed g.S.Spec.object m.shape m.txs m.ids c.args.shared.now m.done m.count h.holds t c.args.course.now h.is_open in
    let r = q.log in
    cmt_2 g.S.Spec.object (seen_with m c.args.shared.now) (seen_with m c.args.shared.now) refl t _ r.is
    (λ k. decided_not c.complete.result _ c.complete.ensures c.if-not-complete.true (subst (λ b. IsWord b (own_calls g.S.Spec.object c.args.course.now.local.1)) q.body_is k)) c.bare.result c.bare.ensures

pub returns-in-Some : goal.returns-in-Some
returns-in-Some g c = λ m t h.
    let q = coursed g.S.Spec.object m.shape m.txs m.ids c.args.shared.now m.done m.count h.holds t c.args.course.now h.is_open in
    let r = q.log in
    let same = c.entries-entries.ensures ∙ ap (λ l. l.1) c.local.ensures in
    let here = read_found _ _ _ _ (sym c.in-Some.ensures) c.index-entries-k.is in
    let k = not_all_pushed c.args.course.now.local.1 c.entries-entries.result.now same c.in-Some.k c.index-entries-k.result (sym c.in-Some.ensures) here in
    cmt_3 g.S.Spec.object (seen_with m c.args.shared.now) (seen_with m c.args.shared.now) refl t _ c.index-entries-k.result r.is (subst (λ b. IsWord b (own_calls g.S.Spec.object c.args.course.now.local.1)) (sym q.body_is) (decided c.complete.result _ c.complete.ensures c.if-not-complete.false)) k.0 k.1 k.2 _ (ap (λ (z : LocalEntry _). Entry z.id) (sym c.index-entries-k.is) ∙ k.3) c.told.result c.told.ensures

pub returns-in-Some-first_not_standing : goal.returns-in-Some-first_not_standing
returns-in-Some-first_not_standing g c = λ m t h.
    let q = coursed g.S.Spec.object m.shape m.txs m.ids c.args.shared.now m.done m.count h.holds t c.args.course.now h.is_open in
    let r = q.log in
    let same = c.entries-entries.ensures ∙ ap (λ l. l.1) c.local.ensures in
    let here = read_found _ _ _ _ (sym c.in-Some-first_not_standing.ensures) c.index-entries-k-in-Some-first_not_standing.is in
    let k = not_all_stand c.args.course.now.local.1 c.entries-entries.result.now c.args.shared.now.1 same h.holds.sound.shared_ids c.in-Some-first_not_standing.k c.index-entries-k-in-Some-first_not_standing.result (sym c.in-Some-first_not_standing.ensures) here in
    cmt_4 g.S.Spec.object (seen_with m c.args.shared.now) (seen_with m c.args.shared.now) refl t _ c.index-entries-k-in-Some-first_not_standing.result r.is (subst (λ b. IsWord b (own_calls g.S.Spec.object c.args.course.now.local.1)) (sym q.body_is) (decided c.complete.result _ c.complete.ensures c.if-not-complete.false)) (all_pushed c.args.course.now.local.1 c.entries-entries.result.now same (sym c.in_default.ensures)) k.0 k.1 k.2 _ (ap (λ (z : LocalEntry _). Entry z.id) (sym c.index-entries-k-in-Some-first_not_standing.is) ∙ k.3) c.told-in-Some-first_not_standing.result c.told-in-Some-first_not_standing.ensures

pub returns : goal.returns
returns g c = λ m t h.
    let q = coursed g.S.Spec.object m.shape m.txs m.ids c.args.shared.now m.done m.count h.holds t c.args.course.now h.is_open in
    let r = q.log in
    let same = c.entries-entries.ensures ∙ ap (λ l. l.1) c.local.ensures in (
      cmt_0 g.S.Spec.object (seen_with m c.args.shared.now) (seen_with m c.args.shared.now) refl t _ r.is (subst (λ b. IsWord b (own_calls g.S.Spec.object c.args.course.now.local.1)) (sym q.body_is) (decided c.complete.result _ c.complete.ensures c.if-not-complete.false)) (all_pushed c.args.course.now.local.1 c.entries-entries.result.now same (sym c.in_default.ensures))
          (all_stand c.args.course.now.local.1 c.entries-entries.result.now c.args.shared.now.1 same (sym c.in_default-first_not_standing.ensures)),
      tt,
    )
