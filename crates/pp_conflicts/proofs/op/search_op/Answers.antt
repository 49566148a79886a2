use Rattle.std.proofs.Common.{◌≡◌, ◌+◌, ◌++◌, ◌∙◌, ap, arith, length, reverse, subst, sym}
use Rattle.pp_model.specs.Config.{shared_ops}
use Rattle.pp_model.specs.Object.{ops}
use Rattle.pp_laws_summary.specs.Summary.{summary_pulled}
use Rattle.pp_snapshots.specs.Shown.{shown, shown_tx}
use Rattle.pp_snapshots.proofs.Moving.{fine_of}
use Rattle.pp_violations.specs.Asks.{Judges}
use Rattle.pp_violations.specs.Searches.{ArePulled, FailsPull, app_evidence, app_facts}
use Rattle.pp_violations.proofs.Searching.{own_shape}
use Rattle.pp_conflicts.specs.Searches.{at_commit, view_items}
use Rattle.pp_conflicts.proofs.Records.{op_absent, op_app, op_pull}
use Rattle.pp_conflicts.proofs.Seen.{pulled_fine}
use Rattle.pp_conflicts.proofs.op.search_op.Goals as goal

pub returns-in_default-clause-searches : goal.returns-in_default-clause-searches
returns-in_default-clause-searches g c = op_absent g.S.Spec.object g.S.Placed.place_of g.S.Placed.SameAt g.met.S.Spec.lawful g.met.S.Placed.placed c.args.parts.now c.requires.keeps c.args.tx.now (sym c.in_default.ensures) c.args.id c.args.op.now c.alone.result c.alone.ensures

pub search_missing-requires-clause-found : goal.search_missing-requires-clause-found
search_missing-requires-clause-found g c = (c.args.tx.now, sym c.in-Some.ensures)

pub search_missing-requires-clause-asked : goal.search_missing-requires-clause-asked
search_missing-requires-clause-asked g c =
    (pulled_fine g.S.Spec.object g.S.Placed.place_of g.S.Placed.SameAt g.met.S.Spec.lawful g.met.S.Placed.placed c.args.parts.now c.requires.keeps c.args.tx.now c.in-Some.it.now (sym c.in-Some.ensures) c.place-place.result c.deref.result.now (λ ks t. c.deref.ensures.value ∙ c.in_ok-pulled.ensures ks t)).0

pub search_missing-requires-clause-room : goal.search_missing-requires-clause-room
search_missing-requires-clause-room g c =
    (pulled_fine g.S.Spec.object g.S.Placed.place_of g.S.Placed.SameAt g.met.S.Spec.lawful g.met.S.Placed.placed c.args.parts.now c.requires.keeps c.args.tx.now c.in-Some.it.now (sym c.in-Some.ensures) c.place-place.result c.deref.result.now (λ ks t. c.deref.ensures.value ∙ c.in_ok-pulled.ensures ks t)).2

pub returns-in-Err-clause-searches : goal.returns-in-Err-clause-searches
returns-in-Err-clause-searches g c =
    let j = rw c.in-Err.is at c.in_ok-state.ensures.searches in
    let at = (pulled_fine g.S.Spec.object g.S.Placed.place_of g.S.Placed.SameAt g.met.S.Spec.lawful g.met.S.Placed.placed c.args.parts.now c.requires.keeps c.args.tx.now c.in-Some.it.now (sym c.in-Some.ensures) c.place-place.result c.deref.result.now (λ ks t. c.deref.ensures.value ∙ c.in_ok-pulled.ensures ks t)).1 in
    op_pull g.S.Spec.object g.S.Placed.place_of g.S.Placed.SameAt g.met.S.Spec.lawful g.met.S.Placed.placed c.args.parts.now c.requires.keeps c.args.tx.now c.in-Some.it.now (sym c.in-Some.ensures) c.args.id c.args.op.now c.deref.result.now
    (λ ks. c.deref.ensures.value ∙ c.in_ok-pulled.ensures ks c.args.tx.now ∙ ap (λ q. summary_pulled g.S.Placed.place_of at_commit q (shown ks c.args.parts.now) (shown_tx c.args.tx.now c.in-Some.it.now)) c.place-place.ensures)
    (λ e i. at e i ∙ c.place-place.ensures) c.in-Err.violation
    (subst (λ q. FailsPull g.S.Spec.object g.S.Placed.place_of c.args.parts.now.shape (ops (view_items g.S.Placed.place_of q c.args.parts.now c.in-Some.it.now)) c.in-Some.it.now.own c.deref.result.now c.in-Err.violation) c.place-place.ensures j)

pub judge_app-broken-requires-clause-taken : goal.judge_app-broken-requires-clause-taken
judge_app-broken-requires-clause-taken g c = (fine_of g.S.Spec.object g.S.Placed.place_of g.S.Placed.SameAt g.met.S.Spec.lawful g.met.S.Placed.placed c.args.parts.now c.requires.keeps c.args.tx.now c.in-Some.it.now (sym c.in-Some.ensures)).taken

pub returns-clause-searches : goal.returns-clause-searches
returns-clause-searches g c =
    let o = g.S.Spec.object in
    let place = g.S.Placed.place_of in
    let v = c.args.parts.now in
    let it = c.in-Some.it.now in
    let M = c.deref.result.now in
    let at = (pulled_fine g.S.Spec.object g.S.Placed.place_of g.S.Placed.SameAt g.met.S.Spec.lawful g.met.S.Placed.placed c.args.parts.now c.requires.keeps c.args.tx.now c.in-Some.it.now (sym c.in-Some.ensures) c.place-place.result M (λ ks t. c.deref.ensures.value ∙ c.in_ok-pulled.ensures ks t)).1 in
    let all = rw c.in-Ok.is at c.in_ok-state.ensures.searches in
    let W = ops (view_items place c.place-place.result v it) ++ shared_ops M in
    let own = own_shape o place v.shape c.in-Ok.state W all.1 in
    let n : c.len.result ≡ length M = omega (arith, c.len.ensures, c.deref.ensures.len) in
    op_app g.S.Spec.object g.S.Placed.place_of g.S.Placed.SameAt g.met.S.Spec.lawful g.met.S.Placed.placed c.args.parts.now c.requires.keeps c.args.tx.now it (sym c.in-Some.ensures) c.args.id c.args.op.now M
    (λ ks. c.deref.ensures.value ∙ c.in_ok-pulled.ensures ks c.args.tx.now ∙ ap (λ q. summary_pulled place at_commit q (shown ks v) (shown_tx c.args.tx.now it)) c.place-place.ensures)
    (λ e i. at e i ∙ c.place-place.ensures)
    (subst (λ q. ArePulled o place v.shape (ops (view_items place q v it)) it.own M (length M)) c.place-place.ensures all.0)
    c.judge_app-broken.result
    (subst (λ q. Judges (app_facts o place v.shape (reverse v.ids) c.args.id c.args.op.now it.walk.body it.own (ops (view_items place q v it) ++ shared_ops M)) (app_evidence o place v.shape c.args.id c.args.op.now (ops (view_items place q v it) ++ shared_ops M)) c.judge_app-broken.result) c.place-place.ensures
    (subst (λ z. Judges (app_facts o place z (reverse v.ids) c.args.id c.args.op.now it.walk.body it.own W) (app_evidence o place z c.args.id c.args.op.now W) c.judge_app-broken.result) all.1.shape_is (c.judge_app-broken.ensures W own)))
    c.len.result n c.at_step_if.result c.at_step_if.ensures
