use Rattle.std.proofs.Common.{◌≡◌, ◌≤◌, ◌+◌, ◌*◌, List, length, sym, ◌∙◌, ap, subst, arith}
use Rattle.std.proofs.lemmas.Result.{IfOk-weaker}
use Rattle.pp_core.specs.declared.call.Kind.{Kind}
use Rattle.pp_core.specs.declared.entry.CommittedTx.{CommittedTx}
use Rattle.pp_model.specs.Lists.{In}
use Rattle.pp_model.specs.Sound.{serial_ops}
use Rattle.pp_model.proofs.Lengths.{serial_fits}
use Rattle.pp_objects.specs.Objects.{kinds_of, objects}
use Rattle.pp_objects.specs.declared.act.Op.{Op}
use Rattle.pp_kind.specs.Object.{AllRanged, rules_of}
use Rattle.pp_attempts.specs.declared.peak.Peak.{Peak}
use Rattle.pp_attempts.specs.Peaks.{IdsTell, operations}
use Rattle.pp_attempts.specs.Views.{AreViews, MayBeTried}
use Rattle.pp_judge.proofs.Naming.{allowed_over}
use Rattle.pp_cmd_views.proofs.Telling.{few_committed, may_be_tried, orderly_steps}
use Rattle.pp_attempts.proofs.KeptPeaks.{ids_tell}
use Rattle.pp_cmd_views.proofs.report.run_views.Goals as goal

pub explain-requires-clause-few : goal.explain-requires-clause-few
explain-requires-clause-few g c =
    let same = ap (λ (D : List (CommittedTx Op)). length D) c.committed.ensures.done in
    omega (arith, same, few_committed c.requires.0 c.args.tally.now c.args.machine.now c.requires.1 c.requires.2)

pub explain-requires-clause-allowed : goal.explain-requires-clause-allowed
explain-requires-clause-allowed g c =
    let machine = c.args.machine.now in
    allowed_over c.in_ok-kinds.kinds machine.shape c.committed.result.now machine.config.done
    (c.requires.2.running.shape ∙ sym c.in_ok-kinds.ensures) c.committed.ensures.done c.committed.ensures.allowed

pub explain-requires-clause-ranged : goal.explain-requires-clause-ranged
explain-requires-clause-ranged g c = subst (λ (D : List (CommittedTx Op)). AllRanged objects (serial_ops D)) (sym c.committed.ensures.done) c.committed.ensures.ranged

pub explain-requires-clause-may : goal.explain-requires-clause-may
explain-requires-clause-may g c = λ p i.
    let h = c.requires.2 in
    let machine = c.args.machine.now in
    let n = length (serial_ops c.committed.result.now) in
    let same : n ≡ length (serial_ops machine.config.done) = ap (λ (D : List (CommittedTx Op)). length (serial_ops D)) c.committed.ensures.done in
    let count = h.running.stands.few in
    let short = c.count-count.ensures.short in
    let few : n ≤ 200_256 = omega (arith, same, serial_fits (rules_of objects machine.shape) machine.config c.count-count.ensures.sound, short, count) in
    subst (λ (k : List Kind). MayBeTried objects k n p.ops) (sym c.in_ok-kinds.ensures)
    (may_be_tried c.requires.0 c.args.tally.now machine c.requires.1 h p n (subst (λ (w : List (Peak Op)). In p w) c.requires.3 i) few)

pub explain-requires-clause-ids : goal.explain-requires-clause-ids
explain-requires-clause-ids g c =
    let steps = c.requires.1 in
    subst (λ (ps : List (Peak Op)). IdsTell ps) (sym c.requires.3)
    (ids_tell steps (orderly_steps c.requires.0 c.args.tally.now c.args.machine.now steps c.requires.2))

pub returns-clause-views : goal.returns-clause-views
returns-clause-views g c =
    let kinds = kinds_of c.args.tally.now.header.catalog in
    let ps = c.args.found.now in
    IfOk-weaker c.explain.result _ _ (λ views are.
    subst (λ (D : List (CommittedTx Op)). AreViews (rules_of objects kinds) D ps views) c.committed.ensures.done
    (subst (λ (k : List Kind). AreViews (rules_of objects k) c.committed.result.now ps views) c.in_ok-kinds.ensures are))
    c.explain.ensures.views

pub returns-clause-bound : goal.returns-clause-bound
returns-clause-bound g c =
    subst (λ (D : List (CommittedTx Op)). c.explain.new.ticks ≤ c.args.ticks.now + length (serial_ops D) + 2 * ((length D + 1) * operations c.args.found.now)) c.committed.ensures.done c.explain.ensures.bound
