use Rattle.std.proofs.Common.{◌≡◌, ◌+◌, List, length, sym, ◌∙◌, ap, arith, subst, ◌<◌}
use Rattle.std.proofs.lemmas.Result.{IfOk-weaker}
use Rattle.pp_core.specs.declared.entry.CommittedTx.{CommittedTx}
use Rattle.pp_model.specs.Sound.{serial_ops}
use Rattle.pp_objects.specs.Objects.{kinds_of, objects}
use Rattle.pp_objects.specs.declared.act.Op.{Op}
use Rattle.pp_kind.specs.Object.{state_after}
use Rattle.pp_kind.specs.declared.range.TheConstants.{MOST_OPERATIONS}
use Rattle.pp_input_reader.proofs.Takers.{on_ok}
use Rattle.pp_judge.proofs.Naming.{allowed_over, committed_named, states_named}
use Rattle.pp_judge.specs.Tallies.{headed}
use Rattle.pp_cmd_judge.proofs.Reporting.{accepted_told, shape_so}
use Rattle.pp_cmd_judge.specs.StyleJudging.{done_of, shape_of}
use Rattle.pp_cmd_judge.proofs.command.report_accepted.Goals as goal

pub committed-committed-requires : goal.committed-committed-requires
committed-committed-requires g c =
    let good = c.requires.1 in
    (headed good.follows.at c.args.tally.now.header, c.requires.0.records, good.good)

pub serial_state-requires-clause-allowed : goal.serial_state-requires-clause-allowed
serial_state-requires-clause-allowed g c =
    let judge = c.args.judge.now in
    allowed_over c.in_ok-kinds.kinds (shape_of judge) c.committed-committed.result.now (done_of judge)
    (shape_so c.requires.0 c.args.tally.now judge c.requires.1 ∙ sym c.in_ok-kinds.ensures) c.committed-committed.ensures.done c.committed-committed.ensures.allowed

pub serial_state-requires-clause-few : goal.serial_state-requires-clause-few
serial_state-requires-clause-few g c =
    subst (λ (D : List (CommittedTx Op)). length (serial_ops D) < MOST_OPERATIONS) (sym c.committed-committed.ensures.done) c.committed-committed.ensures.few

pub accepted-requires-clause-named : goal.accepted-requires-clause-named
accepted-requires-clause-named g c =
    let judge = c.args.judge.now in
    let catalog = c.args.tally.now.header.catalog in
    committed_named catalog c.committed-committed.result.now
    (allowed_over (kinds_of catalog) (shape_of judge) c.committed-committed.result.now (done_of judge) (shape_so c.requires.0 c.args.tally.now judge c.requires.1) c.committed-committed.ensures.done c.committed-committed.ensures.allowed)

pub accepted-requires-clause-states : goal.accepted-requires-clause-states
accepted-requires-clause-states g c =
    let judge = c.args.judge.now in
    let catalog = c.args.tally.now.header.catalog in
    let committed = c.committed-committed.result.now in
    states_named catalog committed c.in_ok-states.states
    (allowed_over (kinds_of catalog) (shape_of judge) committed (done_of judge) (shape_so c.requires.0 c.args.tally.now judge c.requires.1) c.committed-committed.ensures.done c.committed-committed.ensures.allowed)
    (c.in_ok-states.ensures.state ∙ ap (λ k. state_after objects k (serial_ops committed)) c.in_ok-kinds.ensures)

pub returns-clause-report : goal.returns-clause-report
returns-clause-report g c =
    let committed = c.committed-committed.result.now in
    IfOk-weaker c.accepted.result _ _ (λ text text_is sc good.
    accepted_told sc c.args.tally.now c.args.judge.now good c.steps-steps.result committed c.in_ok-states.states text c.steps-steps.ensures c.committed-committed.ensures.done
    (c.in_ok-states.ensures.state ∙ ap (λ k. state_after objects k (serial_ops committed)) c.in_ok-kinds.ensures) text_is)
    c.accepted.ensures

pub returns-clause-cost : goal.returns-clause-cost
returns-clause-cost g c =
    let same : length (serial_ops c.committed-committed.result.now) ≡ length (serial_ops (done_of c.args.judge.now)) = ap (λ (D : List (CommittedTx Op)). length (serial_ops D)) c.committed-committed.ensures.done in
    on_ok c.accepted.result _ (c.in_ok-states.ensures.cost ∙ ap (λ n. c.args.ticks.now + n) same)

pub returns-clause-bound : goal.returns-clause-bound
returns-clause-bound g c =
    let same : length (serial_ops c.committed-committed.result.now) ≡ length (serial_ops (done_of c.args.judge.now)) = ap (λ (D : List (CommittedTx Op)). length (serial_ops D)) c.committed-committed.ensures.done in
    omega (arith, same, c.serial_state.ensures.bound)

pub returns-in_err-states-clause-bound : goal.returns-in_err-states-clause-bound
returns-in_err-states-clause-bound g c =
    let same : length (serial_ops c.committed-committed.result.now) ≡ length (serial_ops (done_of c.args.judge.now)) = ap (λ (D : List (CommittedTx Op)). length (serial_ops D)) c.committed-committed.ensures.done in
    omega (arith, same, c.serial_state.ensures.bound)
