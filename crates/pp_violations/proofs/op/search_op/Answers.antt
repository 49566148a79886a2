use Rattle.std.proofs.Common.{◌≡◌, ◌+◌, ◌++◌, ◌∙◌, ap, arith, length, reverse, subst, sym}
use Rattle.pp_kind.specs.Object.{AllRanged, IsAllowed}
use Rattle.pp_model.specs.Config.{shared_ops}
use Rattle.pp_model.specs.Object.{ops}
use Rattle.pp_model.specs.Rules.{FirstFalse}
use Rattle.pp_laws_summary.specs.Summary.{summary_missing}
use Rattle.pp_summary.proofs.HeldOf.{apart_of}
use Rattle.pp_summary.proofs.Moving.{fine_of}
use Rattle.pp_violations.specs.Asks.{Breaks, Judges}
use Rattle.pp_violations.specs.Searches.{AreEntriesAsked, ArePulled, FailsPull, app_evidence, app_facts, push_evidence, push_facts, view_items}
use Rattle.pp_violations.specs.Summarised.{kept_open, kept_summary}
use Rattle.pp_violations.proofs.Operations.{op_absent, op_app, op_pull, op_push}
use Rattle.pp_violations.proofs.Opened.{missing_asked, missing_at, own_asked, view_allowed, view_ranged}
use Rattle.pp_violations.proofs.Few.{entries_few}
use Rattle.pp_violations.proofs.Searching.{own_shape}
use Rattle.pp_violations.proofs.op.search_op.Goals as goal

pub returns-in_default-clause-searches : goal.returns-in_default-clause-searches
returns-in_default-clause-searches g c =
    let apart = apart_of g.S.Spec.object g.S.Placed.place_of g.S.Placed.SameAt g.met.S.Placed.placed in
    op_absent g.S.Spec.object g.S.Placed.place_of c.args.parts.now apart c.requires.keeps c.args.tx.now c.args.id c.args.op.now (sym c.in_default.ensures) c.alone.result c.alone.ensures

pub search_pulls-requires-clause-own : goal.search_pulls-requires-clause-own
search_pulls-requires-clause-own g c = own_asked g.S.Spec.object g.S.Placed.place_of g.S.Placed.SameAt g.met.S.Spec.lawful g.met.S.Placed.placed c.args.parts.now c.requires.keeps c.args.tx.now c.in-Some.it.now (sym c.in-Some.ensures)

pub search_pulls-requires-clause-asked : goal.search_pulls-requires-clause-asked
search_pulls-requires-clause-asked g c =
    let lacks : c.deref-2.result.now ≡ summary_missing g.S.Placed.place_of (g.S.Placed.place_of c.args.op.now) (kept_summary c.args.parts.now) (kept_open c.args.tx.now c.in-Some.it.now) = c.deref-2.ensures.value ∙ c.in_ok-missing.ensures c.args.tx.now ∙ ap (λ q. summary_missing g.S.Placed.place_of q (kept_summary c.args.parts.now) (kept_open c.args.tx.now c.in-Some.it.now)) c.place-place.ensures in
    subst (λ l. AreEntriesAsked g.S.Spec.object c.args.parts.now.shape l) (sym lacks) (missing_asked g.S.Spec.object g.S.Placed.place_of g.S.Placed.SameAt g.met.S.Spec.lawful g.met.S.Placed.placed c.args.parts.now c.requires.keeps (g.S.Placed.place_of c.args.op.now) (kept_open c.args.tx.now c.in-Some.it.now))

pub search_pulls-requires-clause-allowed : goal.search_pulls-requires-clause-allowed
search_pulls-requires-clause-allowed g c =
    let seen : c.deref.result.now ≡ view_items g.S.Placed.place_of (g.S.Placed.place_of c.args.op.now) c.args.parts.now c.in-Some.it.now = c.deref.ensures.value ∙ c.in_ok-view.ensures ∙ ap (λ q. view_items g.S.Placed.place_of q c.args.parts.now c.in-Some.it.now) c.place-place.ensures in
    subst (λ l. IsAllowed g.S.Spec.object c.args.parts.now.shape (ops l)) (sym seen) (view_allowed g.S.Spec.object g.S.Placed.place_of g.S.Placed.SameAt g.met.S.Spec.lawful g.met.S.Placed.placed c.args.parts.now c.requires.keeps c.args.tx.now c.in-Some.it.now (sym c.in-Some.ensures) (g.S.Placed.place_of c.args.op.now))

pub search_pulls-requires-clause-ranged : goal.search_pulls-requires-clause-ranged
search_pulls-requires-clause-ranged g c =
    let seen : c.deref.result.now ≡ view_items g.S.Placed.place_of (g.S.Placed.place_of c.args.op.now) c.args.parts.now c.in-Some.it.now = c.deref.ensures.value ∙ c.in_ok-view.ensures ∙ ap (λ q. view_items g.S.Placed.place_of q c.args.parts.now c.in-Some.it.now) c.place-place.ensures in
    subst (λ l. AllRanged g.S.Spec.object (ops l)) (sym seen) (view_ranged g.S.Spec.object g.S.Placed.place_of g.S.Placed.SameAt g.met.S.Spec.lawful g.met.S.Placed.placed c.args.parts.now c.requires.keeps c.args.tx.now c.in-Some.it.now (sym c.in-Some.ensures) (g.S.Placed.place_of c.args.op.now))

pub search_pulls-requires-clause-few : goal.search_pulls-requires-clause-few
search_pulls-requires-clause-few g c =
    let apart = apart_of g.S.Spec.object g.S.Placed.place_of g.S.Placed.SameAt g.met.S.Placed.placed in
    let seen : c.deref.result.now ≡ view_items g.S.Placed.place_of (g.S.Placed.place_of c.args.op.now) c.args.parts.now c.in-Some.it.now = c.deref.ensures.value ∙ c.in_ok-view.ensures ∙ ap (λ q. view_items g.S.Placed.place_of q c.args.parts.now c.in-Some.it.now) c.place-place.ensures in
    let lacks : c.deref-2.result.now ≡ summary_missing g.S.Placed.place_of (g.S.Placed.place_of c.args.op.now) (kept_summary c.args.parts.now) (kept_open c.args.tx.now c.in-Some.it.now) = c.deref-2.ensures.value ∙ c.in_ok-missing.ensures c.args.tx.now ∙ ap (λ q. summary_missing g.S.Placed.place_of q (kept_summary c.args.parts.now) (kept_open c.args.tx.now c.in-Some.it.now)) c.place-place.ensures in
    let a = entries_few g.S.Spec.object g.S.Placed.place_of apart c.args.parts.now c.requires.keeps c.args.tx.now c.in-Some.it.now (sym c.in-Some.ensures) (g.S.Placed.place_of c.args.op.now) in
    let d = ap (λ l. length l) seen in
    let e = ap (λ l. length l) lacks in
    omega (arith, a, d, e, c.requires.few)

pub returns-in_err-state-clause-bound : goal.returns-in_err-state-clause-bound
returns-in_err-state-clause-bound g c =
    let apart = apart_of g.S.Spec.object g.S.Placed.place_of g.S.Placed.SameAt g.met.S.Placed.placed in
    let seen : c.deref.result.now ≡ view_items g.S.Placed.place_of (g.S.Placed.place_of c.args.op.now) c.args.parts.now c.in-Some.it.now = c.deref.ensures.value ∙ c.in_ok-view.ensures ∙ ap (λ q. view_items g.S.Placed.place_of q c.args.parts.now c.in-Some.it.now) c.place-place.ensures in
    let lacks : c.deref-2.result.now ≡ summary_missing g.S.Placed.place_of (g.S.Placed.place_of c.args.op.now) (kept_summary c.args.parts.now) (kept_open c.args.tx.now c.in-Some.it.now) = c.deref-2.ensures.value ∙ c.in_ok-missing.ensures c.args.tx.now ∙ ap (λ q. summary_missing g.S.Placed.place_of q (kept_summary c.args.parts.now) (kept_open c.args.tx.now c.in-Some.it.now)) c.place-place.ensures in
    let a = entries_few g.S.Spec.object g.S.Placed.place_of apart c.args.parts.now c.requires.keeps c.args.tx.now c.in-Some.it.now (sym c.in-Some.ensures) (g.S.Placed.place_of c.args.op.now) in
    let d = ap (λ l. length l) seen in
    let e = ap (λ l. length l) lacks in
    omega (arith, a, d, e, c.search_pulls.ensures.bound)

pub returns-in-Err-clause-searches : goal.returns-in-Err-clause-searches
returns-in-Err-clause-searches g c =
    let apart = apart_of g.S.Spec.object g.S.Placed.place_of g.S.Placed.SameAt g.met.S.Placed.placed in
    let seen : c.deref.result.now ≡ view_items g.S.Placed.place_of (g.S.Placed.place_of c.args.op.now) c.args.parts.now c.in-Some.it.now = c.deref.ensures.value ∙ c.in_ok-view.ensures ∙ ap (λ q. view_items g.S.Placed.place_of q c.args.parts.now c.in-Some.it.now) c.place-place.ensures in
    let lacks : c.deref-2.result.now ≡ summary_missing g.S.Placed.place_of (g.S.Placed.place_of c.args.op.now) (kept_summary c.args.parts.now) (kept_open c.args.tx.now c.in-Some.it.now) = c.deref-2.ensures.value ∙ c.in_ok-missing.ensures c.args.tx.now ∙ ap (λ q. summary_missing g.S.Placed.place_of q (kept_summary c.args.parts.now) (kept_open c.args.tx.now c.in-Some.it.now)) c.place-place.ensures in
    let j = rw c.in-Err.is at c.in_ok-state.ensures.searches in
    op_pull g.S.Spec.object g.S.Placed.place_of c.args.parts.now apart c.requires.keeps c.args.tx.now c.args.id c.args.op.now c.in-Some.it.now (sym c.in-Some.ensures) (missing_at g.S.Spec.object g.S.Placed.place_of g.S.Placed.SameAt g.met.S.Spec.lawful g.met.S.Placed.placed c.args.parts.now c.requires.keeps (g.S.Placed.place_of c.args.op.now) (kept_open c.args.tx.now c.in-Some.it.now)) c.deref-2.result.now lacks c.in-Err.violation
    (subst (λ l. FailsPull g.S.Spec.object g.S.Placed.place_of c.args.parts.now.shape (ops l) c.in-Some.it.now.own c.deref-2.result.now c.in-Err.violation) seen j)

pub returns-in-Err-clause-bound : goal.returns-in-Err-clause-bound
returns-in-Err-clause-bound g c =
    let apart = apart_of g.S.Spec.object g.S.Placed.place_of g.S.Placed.SameAt g.met.S.Placed.placed in
    let seen : c.deref.result.now ≡ view_items g.S.Placed.place_of (g.S.Placed.place_of c.args.op.now) c.args.parts.now c.in-Some.it.now = c.deref.ensures.value ∙ c.in_ok-view.ensures ∙ ap (λ q. view_items g.S.Placed.place_of q c.args.parts.now c.in-Some.it.now) c.place-place.ensures in
    let lacks : c.deref-2.result.now ≡ summary_missing g.S.Placed.place_of (g.S.Placed.place_of c.args.op.now) (kept_summary c.args.parts.now) (kept_open c.args.tx.now c.in-Some.it.now) = c.deref-2.ensures.value ∙ c.in_ok-missing.ensures c.args.tx.now ∙ ap (λ q. summary_missing g.S.Placed.place_of q (kept_summary c.args.parts.now) (kept_open c.args.tx.now c.in-Some.it.now)) c.place-place.ensures in
    let a = entries_few g.S.Spec.object g.S.Placed.place_of apart c.args.parts.now c.requires.keeps c.args.tx.now c.in-Some.it.now (sym c.in-Some.ensures) (g.S.Placed.place_of c.args.op.now) in
    let d = ap (λ l. length l) seen in
    let e = ap (λ l. length l) lacks in
    omega (arith, a, d, e, c.search_pulls.ensures.bound)

pub judge_app-requires-clause-taken : goal.judge_app-requires-clause-taken
judge_app-requires-clause-taken g c =
    let apart = apart_of g.S.Spec.object g.S.Placed.place_of g.S.Placed.SameAt g.met.S.Placed.placed in
    (fine_of g.S.Spec.object g.S.Placed.place_of apart c.args.parts.now c.requires.keeps c.args.tx.now c.in-Some.it.now (sym c.in-Some.ensures)).taken

pub returns-in-Some-judge_app-clause-searches : goal.returns-in-Some-judge_app-clause-searches
returns-in-Some-judge_app-clause-searches g c =
    let apart = apart_of g.S.Spec.object g.S.Placed.place_of g.S.Placed.SameAt g.met.S.Placed.placed in
    let seen : c.deref.result.now ≡ view_items g.S.Placed.place_of (g.S.Placed.place_of c.args.op.now) c.args.parts.now c.in-Some.it.now = c.deref.ensures.value ∙ c.in_ok-view.ensures ∙ ap (λ q. view_items g.S.Placed.place_of q c.args.parts.now c.in-Some.it.now) c.place-place.ensures in
    let lacks : c.deref-2.result.now ≡ summary_missing g.S.Placed.place_of (g.S.Placed.place_of c.args.op.now) (kept_summary c.args.parts.now) (kept_open c.args.tx.now c.in-Some.it.now) = c.deref-2.ensures.value ∙ c.in_ok-missing.ensures c.args.tx.now ∙ ap (λ q. summary_missing g.S.Placed.place_of q (kept_summary c.args.parts.now) (kept_open c.args.tx.now c.in-Some.it.now)) c.place-place.ensures in
    let all = rw c.in-Ok.is at c.in_ok-state.ensures.searches in
    let W = ops c.deref.result.now ++ shared_ops c.deref-2.result.now in
    let own = own_shape g.S.Spec.object g.S.Placed.place_of c.args.parts.now.shape c.in-Ok.state W all.1 in
    let pulled = subst (λ l. ArePulled g.S.Spec.object g.S.Placed.place_of c.args.parts.now.shape (ops l) c.in-Some.it.now.own c.deref-2.result.now (length c.deref-2.result.now)) seen all.0 in
    let b = c.in-Some-judge_app.broken in
    let n : c.len-offset.result ≡ length c.deref-2.result.now = omega (arith, c.len-offset.ensures, c.deref-2.ensures.len) in
    op_app g.S.Spec.object g.S.Placed.place_of c.args.parts.now apart c.requires.keeps c.args.tx.now c.args.id c.args.op.now c.in-Some.it.now (sym c.in-Some.ensures) (missing_at g.S.Spec.object g.S.Placed.place_of g.S.Placed.SameAt g.met.S.Spec.lawful g.met.S.Placed.placed c.args.parts.now c.requires.keeps (g.S.Placed.place_of c.args.op.now) (kept_open c.args.tx.now c.in-Some.it.now)) c.deref-2.result.now lacks pulled b
    (subst (λ l. Breaks (app_facts g.S.Spec.object g.S.Placed.place_of c.args.parts.now.shape (reverse c.args.parts.now.ids) c.args.id c.args.op.now c.in-Some.it.now.walk.body c.in-Some.it.now.own (ops l ++ shared_ops c.deref-2.result.now)) (app_evidence g.S.Spec.object g.S.Placed.place_of c.args.parts.now.shape c.args.id c.args.op.now (ops l ++ shared_ops c.deref-2.result.now)) b) seen
    (subst (λ z. Breaks (app_facts g.S.Spec.object g.S.Placed.place_of z (reverse c.args.parts.now.ids) c.args.id c.args.op.now c.in-Some.it.now.walk.body c.in-Some.it.now.own W) (app_evidence g.S.Spec.object g.S.Placed.place_of z c.args.id c.args.op.now W) b) all.1.shape_is (c.in-Some-judge_app.ensures W own)))
    c.len-offset.result n c.at_step.result c.at_step.ensures

pub returns-in-Some-judge_app-clause-bound : goal.returns-in-Some-judge_app-clause-bound
returns-in-Some-judge_app-clause-bound g c =
    let apart = apart_of g.S.Spec.object g.S.Placed.place_of g.S.Placed.SameAt g.met.S.Placed.placed in
    let seen : c.deref.result.now ≡ view_items g.S.Placed.place_of (g.S.Placed.place_of c.args.op.now) c.args.parts.now c.in-Some.it.now = c.deref.ensures.value ∙ c.in_ok-view.ensures ∙ ap (λ q. view_items g.S.Placed.place_of q c.args.parts.now c.in-Some.it.now) c.place-place.ensures in
    let lacks : c.deref-2.result.now ≡ summary_missing g.S.Placed.place_of (g.S.Placed.place_of c.args.op.now) (kept_summary c.args.parts.now) (kept_open c.args.tx.now c.in-Some.it.now) = c.deref-2.ensures.value ∙ c.in_ok-missing.ensures c.args.tx.now ∙ ap (λ q. summary_missing g.S.Placed.place_of q (kept_summary c.args.parts.now) (kept_open c.args.tx.now c.in-Some.it.now)) c.place-place.ensures in
    let a = entries_few g.S.Spec.object g.S.Placed.place_of apart c.args.parts.now c.requires.keeps c.args.tx.now c.in-Some.it.now (sym c.in-Some.ensures) (g.S.Placed.place_of c.args.op.now) in
    let d = ap (λ l. length l) seen in
    let e = ap (λ l. length l) lacks in
    omega (arith, a, d, e, c.search_pulls.ensures.bound)

pub returns-in_err-broken-clause-bound : goal.returns-in_err-broken-clause-bound
returns-in_err-broken-clause-bound g c =
    let apart = apart_of g.S.Spec.object g.S.Placed.place_of g.S.Placed.SameAt g.met.S.Placed.placed in
    let seen : c.deref.result.now ≡ view_items g.S.Placed.place_of (g.S.Placed.place_of c.args.op.now) c.args.parts.now c.in-Some.it.now = c.deref.ensures.value ∙ c.in_ok-view.ensures ∙ ap (λ q. view_items g.S.Placed.place_of q c.args.parts.now c.in-Some.it.now) c.place-place.ensures in
    let lacks : c.deref-2.result.now ≡ summary_missing g.S.Placed.place_of (g.S.Placed.place_of c.args.op.now) (kept_summary c.args.parts.now) (kept_open c.args.tx.now c.in-Some.it.now) = c.deref-2.ensures.value ∙ c.in_ok-missing.ensures c.args.tx.now ∙ ap (λ q. summary_missing g.S.Placed.place_of q (kept_summary c.args.parts.now) (kept_open c.args.tx.now c.in-Some.it.now)) c.place-place.ensures in
    let a = entries_few g.S.Spec.object g.S.Placed.place_of apart c.args.parts.now c.requires.keeps c.args.tx.now c.in-Some.it.now (sym c.in-Some.ensures) (g.S.Placed.place_of c.args.op.now) in
    let d = ap (λ l. length l) seen in
    let e = ap (λ l. length l) lacks in
    omega (arith, a, d, e, c.search_pulls.ensures.bound)

pub returns-clause-searches : goal.returns-clause-searches
returns-clause-searches g c =
    let apart = apart_of g.S.Spec.object g.S.Placed.place_of g.S.Placed.SameAt g.met.S.Placed.placed in
    let seen : c.deref.result.now ≡ view_items g.S.Placed.place_of (g.S.Placed.place_of c.args.op.now) c.args.parts.now c.in-Some.it.now = c.deref.ensures.value ∙ c.in_ok-view.ensures ∙ ap (λ q. view_items g.S.Placed.place_of q c.args.parts.now c.in-Some.it.now) c.place-place.ensures in
    let lacks : c.deref-2.result.now ≡ summary_missing g.S.Placed.place_of (g.S.Placed.place_of c.args.op.now) (kept_summary c.args.parts.now) (kept_open c.args.tx.now c.in-Some.it.now) = c.deref-2.ensures.value ∙ c.in_ok-missing.ensures c.args.tx.now ∙ ap (λ q. summary_missing g.S.Placed.place_of q (kept_summary c.args.parts.now) (kept_open c.args.tx.now c.in-Some.it.now)) c.place-place.ensures in
    let all = rw c.in-Ok.is at c.in_ok-state.ensures.searches in
    let W = ops c.deref.result.now ++ shared_ops c.deref-2.result.now in
    let own = own_shape g.S.Spec.object g.S.Placed.place_of c.args.parts.now.shape c.in-Ok.state W all.1 in
    let pulled = subst (λ l. ArePulled g.S.Spec.object g.S.Placed.place_of c.args.parts.now.shape (ops l) c.in-Some.it.now.own c.deref-2.result.now (length c.deref-2.result.now)) seen all.0 in
    let n : c.len-offset.result + 1 ≡ length c.deref-2.result.now + 1 = omega (arith, c.len-offset.ensures, c.deref-2.ensures.len) in
    op_push g.S.Spec.object g.S.Placed.place_of c.args.parts.now apart c.requires.keeps c.args.tx.now c.args.id c.args.op.now c.in-Some.it.now (sym c.in-Some.ensures) (missing_at g.S.Spec.object g.S.Placed.place_of g.S.Placed.SameAt g.met.S.Spec.lawful g.met.S.Placed.placed c.args.parts.now c.requires.keeps (g.S.Placed.place_of c.args.op.now) (kept_open c.args.tx.now c.in-Some.it.now)) c.deref-2.result.now lacks pulled
    (subst (λ l. FirstFalse (app_facts g.S.Spec.object g.S.Placed.place_of c.args.parts.now.shape (reverse c.args.parts.now.ids) c.args.id c.args.op.now c.in-Some.it.now.walk.body c.in-Some.it.now.own (ops l ++ shared_ops c.deref-2.result.now)) 0) seen
    (subst (λ z. FirstFalse (app_facts g.S.Spec.object g.S.Placed.place_of z (reverse c.args.parts.now.ids) c.args.id c.args.op.now c.in-Some.it.now.walk.body c.in-Some.it.now.own W) 0) all.1.shape_is (c.in_default-judge_app.ensures W own)))
    (c.len-offset.result + 1) n c.in_ok-broken.broken
    (subst (λ z. Judges (push_facts g.S.Spec.object g.S.Placed.place_of z c.args.tx.now c.args.op.now c.args.parts.now.shared.1) (push_evidence g.S.Spec.object g.S.Placed.place_of z c.args.tx.now c.args.id c.args.op.now c.args.parts.now.shared.1) c.in_ok-broken.broken) c.requires.keeps.same_shape c.in_ok-broken.ensures)
    c.at_step_if.result c.at_step_if.ensures

pub returns-clause-bound : goal.returns-clause-bound
returns-clause-bound g c =
    let apart = apart_of g.S.Spec.object g.S.Placed.place_of g.S.Placed.SameAt g.met.S.Placed.placed in
    let seen : c.deref.result.now ≡ view_items g.S.Placed.place_of (g.S.Placed.place_of c.args.op.now) c.args.parts.now c.in-Some.it.now = c.deref.ensures.value ∙ c.in_ok-view.ensures ∙ ap (λ q. view_items g.S.Placed.place_of q c.args.parts.now c.in-Some.it.now) c.place-place.ensures in
    let lacks : c.deref-2.result.now ≡ summary_missing g.S.Placed.place_of (g.S.Placed.place_of c.args.op.now) (kept_summary c.args.parts.now) (kept_open c.args.tx.now c.in-Some.it.now) = c.deref-2.ensures.value ∙ c.in_ok-missing.ensures c.args.tx.now ∙ ap (λ q. summary_missing g.S.Placed.place_of q (kept_summary c.args.parts.now) (kept_open c.args.tx.now c.in-Some.it.now)) c.place-place.ensures in
    let a = entries_few g.S.Spec.object g.S.Placed.place_of apart c.args.parts.now c.requires.keeps c.args.tx.now c.in-Some.it.now (sym c.in-Some.ensures) (g.S.Placed.place_of c.args.op.now) in
    let d = ap (λ l. length l) seen in
    let e = ap (λ l. length l) lacks in
    omega (arith, a, d, e, c.search_pulls.ensures.bound)
