use Rattle.std.proofs.Common.{List, sym, ◌∙◌, ap}
use Rattle.std.proofs.lemmas.Result.{IfOk-weaker}
use Rattle.pp_core.specs.declared.entry.CommittedTx.{CommittedTx}
use Rattle.pp_model.specs.Sound.{serial_ops}
use Rattle.pp_objects.specs.Objects.{kinds_of, objects}
use Rattle.pp_objects.specs.declared.act.Op.{Op}
use Rattle.pp_input_reader.proofs.Takers.{on_ok}
use Rattle.pp_kind.specs.Object.{state_after}
use Rattle.pp_cmd_drill.proofs.Drilling.{catalog_is, drilled_by}
use Rattle.pp_cmd_drill.specs.Reports.{drill_report, drill_scan}
use Rattle.pp_cmd_drill.proofs.command.text_of_run.Goals as goal

pub compute_states-requires : goal.compute_states-requires
compute_states-requires g c = (drill_scan c.args.n, c.requires.running)

pub drill_report-requires-clause-over : goal.drill_report-requires-clause-over
drill_report-requires-clause-over g c = catalog_is c.args.n c.requires.some c.requires.few c.args.tally.now c.args.machine.now c.requires.running

pub drill_report-requires-clause-states : goal.drill_report-requires-clause-states
drill_report-requires-clause-states g c = c.in_ok-steps.ensures.named

pub returns-clause-output : goal.returns-clause-output
returns-clause-output g c =
    let kinds = kinds_of c.args.tally.now.header.catalog in
    IfOk-weaker c.drill_report.result _ _ (λ text text_is.
    drilled_by c.args.n c.requires.some c.requires.few c.args.tally.now c.args.machine.now c.requires.running c.in_ok-steps.steps c.committed-committed.result.now c.in_ok-steps.states text c.in_ok-steps.ensures.count c.committed-committed.ensures.done
    (c.in_ok-steps.ensures.states ∙ ap (λ (D : List (CommittedTx Op)). state_after objects kinds (serial_ops D)) (sym c.committed-committed.ensures.done))
    (text_is ∙ ap (λ m. drill_report c.args.n c.in_ok-steps.steps m c.in_ok-steps.states) c.len.ensures))
    c.drill_report.ensures

pub returns-clause-cost : goal.returns-clause-cost
returns-clause-cost g c = on_ok c.drill_report.result _ c.in_ok-steps.ensures.cost
