use Rattle.std.proofs.Common.{List, sym, ◌∙◌, ap}
use Rattle.std.proofs.lemmas.Result.{IfOk-weaker}
use Rattle.pp_core.specs.declared.entry.CommittedTx.{CommittedTx}
use Rattle.pp_model.specs.Sound.{serial_ops}
use Rattle.pp_objects.specs.Objects.{kinds_of, objects}
use Rattle.pp_objects.specs.declared.act.Op.{Op}
use Rattle.pp_kind.specs.Object.{state_after}
use Rattle.pp_input_reader.proofs.Takers.{on_ok}
use Rattle.pp_judge.proofs.Concluding.{accepted_told}
use Rattle.pp_judge.proofs.Naming.{allowed_over, committed_named}
use Rattle.pp_cmd_certify.proofs.command.report_accepted.Goals as goal

pub accepted-requires-clause-named : goal.accepted-requires-clause-named
accepted-requires-clause-named g c =
    let machine = c.args.machine.now in
    let catalog = c.args.tally.now.header.catalog in
    committed_named catalog c.committed-committed.result.now
    (allowed_over (kinds_of catalog) machine.shape c.committed-committed.result.now machine.config.done c.requires.1.shape c.committed-committed.ensures.done c.committed-committed.ensures.allowed)

pub accepted-requires-clause-states : goal.accepted-requires-clause-states
accepted-requires-clause-states g c = c.in_ok-count.ensures.named

pub returns-clause-report : goal.returns-clause-report
returns-clause-report g c =
    let kinds = kinds_of c.args.tally.now.header.catalog in
    IfOk-weaker c.accepted.result _ _ (λ text text_is sc r.
    accepted_told sc c.args.tally.now c.args.machine.now r c.in_ok-count.count c.committed-committed.result.now c.in_ok-count.states text c.in_ok-count.ensures.count c.committed-committed.ensures.done
    (c.in_ok-count.ensures.states ∙ ap (λ (D : List (CommittedTx Op)). state_after objects kinds (serial_ops D)) (sym c.committed-committed.ensures.done)) text_is)
    c.accepted.ensures

pub returns-clause-cost : goal.returns-clause-cost
returns-clause-cost g c = on_ok c.accepted.result _ c.in_ok-count.ensures.cost
