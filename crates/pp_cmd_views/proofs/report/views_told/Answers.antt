use Rattle.std.proofs.Common.{ℕ, List, length, ◌∙◌, ap, subst}
use Rattle.std.proofs.lemmas.Result.{IfOk-weaker}
use Rattle.pp_core.specs.declared.entry.CommittedTx.{CommittedTx}
use Rattle.pp_objects.specs.declared.act.Op.{Op}
use Rattle.pp_attempts.specs.declared.peak.Peak.{Peak}
use Rattle.pp_attempts.specs.Views.{AreViews}
use Rattle.pp_judge.specs.Objects.{object_of}
use Rattle.pp_cmd_views.proofs.Telling.{told_views}
use Rattle.pp_cmd_views.specs.Texts.{views_text}
use Rattle.pp_cmd_views.proofs.report.views_told.Goals as goal

pub run_views-requires : goal.run_views-requires
run_views-requires g c = c.requires

pub returns-clause-told : goal.returns-clause-told
returns-clause-told g c =
    let tally = c.args.tally.now in
    let machine = c.args.machine.now in
    let vs = c.in_ok-views.views in
    IfOk-weaker c.views_text.result _ _ (λ text is sc steps h same few.
    told_views sc tally machine steps h vs text
    (subst (λ (w : List (Peak Op)). AreViews (object_of tally.header) machine.config.done w vs) same c.in_ok-views.ensures.views)
    (is ∙ ap (λ (n : ℕ). views_text n c.len.result vs) c.count.ensures.count
    ∙ ap (λ (n : ℕ). views_text machine.count n vs) (c.len.ensures ∙ ap (λ (D : List (CommittedTx Op)). length D) c.committed-committed.ensures.done))
    few)
    c.views_text.ensures
