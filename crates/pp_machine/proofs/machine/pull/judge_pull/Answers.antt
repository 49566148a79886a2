use Rattle.std.proofs.Common.{ap, refl, ◌∙◌, ◌++◌, ◌∷◌, [], ◌==◌, sym, subst, IsTrue}
use Rattle.std.proofs.lemmas.Bool.{eqb-true}
use Rattle.pp_log.specs.Logs.{answer_behind}
use Rattle.pp_model.specs.Config.{local_ops}
use Rattle.pp_machine.specs.declared.detail.Detail.TheVariants.{Gives}
use Rattle.pp_model.proofs.Logs.{found_other}
use Rattle.pp_model.proofs.Finding.{decided, decided_not}
use Rattle.pp_kind.specs.Object.{IsAllowed}
use Rattle.pp_machine.proofs.Cuts.{a_place, no_place, place_in, not_placed}
use Rattle.pp_machine.proofs.Cuts.{found_within, read_place}
use Rattle.pp_machine.specs.Sites.{seen_with}
use Rattle.pp_machine.proofs.Judged.{of_other_is}
use Rattle.pp_machine.proofs.Judging.{pull_2, pull_3, pull_4, pull_5, pull_0}
use Rattle.pp_machine.proofs.Opened.{fits_local, fits_shared, logged, ranged_local, ranged_shared}
use Rattle.pp_machine.proofs.Swapping.{before_shown, own_before, not_before}
use Rattle.pp_machine.proofs.machine.pull.judge_pull.Goals as goal

pub returns-in_default : goal.returns-in_default
returns-in_default g c = λ m shared t e h.
    let r = logged g.S.Spec.object m.shape m.txs m.ids shared m.done m.count h.holds t c.args.local.now h.is_open in
    pull_2 g.S.Spec.object (seen_with m shared) (seen_with m shared) refl t c.args.id _ r.is (sym e ∙ c.in_default.is) c.bare.result c.bare.ensures

pub returns-then-is_some : goal.returns-then-is_some
returns-then-is_some g c = λ m shared t e h.
    let k = a_place c.find.result c.is_some.result c.is_some.ensures c.if-is_some.true in
    let r = logged g.S.Spec.object m.shape m.txs m.ids shared m.done m.count h.holds t c.args.local.now h.is_open in
    let a = place_in (λ e. e.id == c.args.id) c.args.local.now.1 k.0 (sym c.find.ensures ∙ k.1) in
    pull_3 g.S.Spec.object (seen_with m shared) (seen_with m shared) refl t c.args.id _ c.in-Some.post a.0 r.is (sym e ∙ c.in-Some.is) a.1 (eqb-true (a.0).id c.args.id a.2) c.bare-then-is_some.result c.bare-then-is_some.ensures

pub legal-requires : goal.legal-requires
legal-requires g c =
    let shared = c.requires.0 in
    let t = c.requires.1 in
    let e = c.requires.2 in
    let m = (c.requires.3).0 in
    let h = (c.requires.3).1 in
    let r = logged g.S.Spec.object m.shape m.txs m.ids shared m.done m.count h.holds t c.args.local.now h.is_open in
    let p = c.in-Some.post in
    subst (λ sh. IsTrue (g.S.Spec.object.fits sh p.op)) (sym (r.fine).same_shape) (fits_shared g.S.Spec.object m.shape m.txs m.ids shared m.done m.count h.holds g.met.S.Spec.lawful p (found_other t c.args.id _ _ (sym e ∙ c.in-Some.is)).0)

pub gives-answer-requires : goal.gives-answer-requires
gives-answer-requires g c =
    let shared = c.requires.0 in
    let t = c.requires.1 in
    let e = c.requires.2 in
    let m = (c.requires.3).0 in
    let h = (c.requires.3).1 in
    let r = logged g.S.Spec.object m.shape m.txs m.ids shared m.done m.count h.holds t c.args.local.now h.is_open in
    let p = c.in-Some.post in
    subst (λ sh. IsTrue (g.S.Spec.object.fits sh p.op)) (sym (r.fine).same_shape) (fits_shared g.S.Spec.object m.shape m.txs m.ids shared m.done m.count h.holds g.met.S.Spec.lawful p (found_other t c.args.id _ _ (sym e ∙ c.in-Some.is)).0)

pub returns-then-not-legal : goal.returns-then-not-legal
returns-then-not-legal g c = λ m shared t e h.
    let r = logged g.S.Spec.object m.shape m.txs m.ids shared m.done m.count h.holds t c.args.local.now h.is_open in
    let p = c.in-Some.post in
    pull_4 g.S.Spec.object (seen_with m shared) (seen_with m shared) refl t c.args.id _ p r.is (sym e ∙ c.in-Some.is) (not_placed c.args.local.now.1 c.args.id (sym c.find.ensures ∙ no_place c.find.result c.is_some.result c.is_some.ensures c.if-is_some.false))
    (λ k. decided_not c.legal.result _ c.legal.ensures c.if-not-legal.true (subst (λ sh. IsAllowed g.S.Spec.object sh (local_ops c.args.local.now.1 ++ p.op ∷ [])) (sym (r.fine).same_shape) k))
    (Gives c.args.id c.gives-answer.result)
    (ap (Gives c.args.id) (c.gives-answer.ensures ∙ ap (λ sh. answer_behind g.S.Spec.object sh (local_ops c.args.local.now.1) p.op) (r.fine).same_shape))
    c.told.result c.told.ensures

pub bounds-entries-k : goal.bounds-entries-k
bounds-entries-k g c =
    found_within _ c.entries.result.now c.args.local.now.1 c.entries.ensures c.in-Some-first_not_before.k (sym c.in-Some-first_not_before.ensures)

pub swap_detail-requires-clause-first : goal.swap_detail-requires-clause-first
swap_detail-requires-clause-first g c =
    let shared = c.requires.0 in
    let t = c.requires.1 in
    let e = c.requires.2 in
    let m = (c.requires.3).0 in
    let h = (c.requires.3).1 in
    let r = logged g.S.Spec.object m.shape m.txs m.ids shared m.done m.count h.holds t c.args.local.now h.is_open in
    let p = c.in-Some.post in
    let fit = fits_local g.S.Spec.object m.shape m.txs m.ids shared m.done m.count h.holds g.met.S.Spec.lawful t c.args.local.now r in
    let here = read_place _ c.entries.result.now c.args.local.now.1 c.entries.ensures c.in-Some-first_not_before.k c.index-entries-k.result (sym c.in-Some-first_not_before.ensures) c.index-entries-k.is in
    let q = not_before g.S.Spec.object g.met.S.Spec.lawful m.shape c.args.local.now.1 p.op c.args.local.now.1 refl c.in-Some-first_not_before.k c.index-entries-k.result fit (fits_shared g.S.Spec.object m.shape m.txs m.ids shared m.done m.count h.holds g.met.S.Spec.lawful p (found_other t c.args.id _ _ (sym e ∙ c.in-Some.is)).0) (sym c.in-Some-first_not_before.ensures) here in
    ranged_local g.S.Spec.object m.shape m.txs m.ids shared m.done m.count h.holds t c.args.local.now r c.index-entries-k.result q.0

pub swap_detail-requires-clause-second : goal.swap_detail-requires-clause-second
swap_detail-requires-clause-second g c =
    let shared = c.requires.0 in
    let t = c.requires.1 in
    let e = c.requires.2 in
    let m = (c.requires.3).0 in
    let h = (c.requires.3).1 in
    let p = c.in-Some.post in
    ranged_shared g.S.Spec.object m.shape m.txs m.ids shared m.done m.count h.holds p (found_other t c.args.id _ _ (sym e ∙ c.in-Some.is)).0

pub returns-in-Some-first_not_before : goal.returns-in-Some-first_not_before
returns-in-Some-first_not_before g c = λ m shared t e h.
    let r = logged g.S.Spec.object m.shape m.txs m.ids shared m.done m.count h.holds t c.args.local.now h.is_open in
    let p = c.in-Some.post in
    let fit = fits_local g.S.Spec.object m.shape m.txs m.ids shared m.done m.count h.holds g.met.S.Spec.lawful t c.args.local.now r in
    let here = read_place _ c.entries.result.now c.args.local.now.1 c.entries.ensures c.in-Some-first_not_before.k c.index-entries-k.result (sym c.in-Some-first_not_before.ensures) c.index-entries-k.is in
    let q = not_before g.S.Spec.object g.met.S.Spec.lawful m.shape c.args.local.now.1 p.op c.args.local.now.1 refl c.in-Some-first_not_before.k c.index-entries-k.result fit (fits_shared g.S.Spec.object m.shape m.txs m.ids shared m.done m.count h.holds g.met.S.Spec.lawful p (found_other t c.args.id _ _ (sym e ∙ c.in-Some.is)).0) (sym c.in-Some-first_not_before.ensures) here in
    pull_5 g.S.Spec.object (seen_with m shared) (seen_with m shared) refl t c.args.id _ p c.index-entries-k.result r.is (sym e ∙ c.in-Some.is) (not_placed c.args.local.now.1 c.args.id (sym c.find.ensures ∙ no_place c.find.result c.is_some.result c.is_some.ensures c.if-is_some.false)) (subst (λ sh. IsAllowed g.S.Spec.object sh (local_ops c.args.local.now.1 ++ p.op ∷ [])) (r.fine).same_shape (decided c.legal.result _ c.legal.ensures c.if-not-legal.false)) q.0 q.1 q.2
    c.in_ok-detail.detail
    (c.in_ok-detail.ensures ∙ before_shown g.S.Spec.object g.met.S.Spec.lawful m.shape c.args.local.now.1 p.op c.args.local.now.1 refl c.in-Some-first_not_before.k c.index-entries-k.result (sym c.in-Some-first_not_before.ensures) here)
    c.told-in-Some-first_not_before.result c.told-in-Some-first_not_before.ensures

pub returns : goal.returns
returns g c = λ m shared t e h.
    let r = logged g.S.Spec.object m.shape m.txs m.ids shared m.done m.count h.holds t c.args.local.now h.is_open in
    let p = c.in-Some.post in (
      pull_0 g.S.Spec.object (seen_with m shared) (seen_with m shared) refl t c.args.id _ p r.is (sym e ∙ c.in-Some.is) (not_placed c.args.local.now.1 c.args.id (sym c.find.ensures ∙ no_place c.find.result c.is_some.result c.is_some.ensures c.if-is_some.false)) (subst (λ sh. IsAllowed g.S.Spec.object sh (local_ops c.args.local.now.1 ++ p.op ∷ [])) (r.fine).same_shape (decided c.legal.result _ c.legal.ensures c.if-not-legal.false))
          (own_before g.S.Spec.object g.met.S.Spec.lawful m.shape c.args.local.now.1 p.op c.args.local.now.1 refl (sym c.in_default-first_not_before.ensures)),
      of_other_is g.S.Spec.object m.shape m.txs m.ids shared m.done m.count h.holds (seen_with m shared) refl t c.args.id p (sym e ∙ c.in-Some.is),
    )
