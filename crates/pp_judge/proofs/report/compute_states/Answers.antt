use Rattle.std.proofs.Common.{◌≡◌, ◌+◌, List, length, sym, ◌∙◌, ap, arith}
use Rattle.pp_core.specs.declared.entry.CommittedTx.{CommittedTx}
use Rattle.pp_model.specs.Sound.{serial_ops}
use Rattle.pp_model.proofs.Lengths.{serial_fits}
use Rattle.pp_objects.specs.Objects.{kinds_of, objects}
use Rattle.pp_objects.specs.declared.act.Op.{Op}
use Rattle.pp_kind.specs.Object.{rules_of, state_after}
use Rattle.pp_judge.proofs.Naming.{allowed_over, states_named}
use Rattle.pp_judge.proofs.report.compute_states.Goals as goal

pub serial_state-requires-clause-allowed : goal.serial_state-requires-clause-allowed
serial_state-requires-clause-allowed g c =
    let machine = c.args.machine.now in
    allowed_over c.in_ok-kinds.kinds machine.shape c.committed-committed.result.now machine.config.done
    (c.requires.1.shape ∙ sym c.in_ok-kinds.ensures) c.committed-committed.ensures.done c.committed-committed.ensures.allowed

pub serial_state-requires-clause-few : goal.serial_state-requires-clause-few
serial_state-requires-clause-few g c =
    let r = c.requires.1 in
    let machine = c.args.machine.now in
    let same : length (serial_ops c.committed-committed.result.now) ≡ length (serial_ops machine.config.done) = ap (λ (D : List (CommittedTx Op)). length (serial_ops D)) c.committed-committed.ensures.done in
    omega (arith, same, serial_fits (rules_of objects machine.shape) machine.config c.count-count.ensures.sound, c.count-count.ensures.short, r.stands.few)

pub returns-clause-states : goal.returns-clause-states
returns-clause-states g c =
    let committed = c.committed-committed.result.now in
    c.in_ok-states.ensures.state ∙ ap (λ k. state_after objects k (serial_ops committed)) c.in_ok-kinds.ensures
    ∙ ap (λ (D : List (CommittedTx Op)). state_after objects (kinds_of c.args.tally.now.header.catalog) (serial_ops D)) c.committed-committed.ensures.done

pub returns-clause-named : goal.returns-clause-named
returns-clause-named g c =
    let machine = c.args.machine.now in
    let catalog = c.args.tally.now.header.catalog in
    let committed = c.committed-committed.result.now in
    states_named catalog committed c.in_ok-states.states
    (allowed_over (kinds_of catalog) machine.shape committed machine.config.done c.requires.1.shape c.committed-committed.ensures.done c.committed-committed.ensures.allowed)
    (c.in_ok-states.ensures.state ∙ ap (λ k. state_after objects k (serial_ops committed)) c.in_ok-kinds.ensures)

pub returns-clause-cost : goal.returns-clause-cost
returns-clause-cost g c =
    let same : length (serial_ops c.committed-committed.result.now) ≡ length (serial_ops c.args.machine.now.config.done) = ap (λ (D : List (CommittedTx Op)). length (serial_ops D)) c.committed-committed.ensures.done in
    c.in_ok-states.ensures.cost ∙ ap (λ n. c.args.ticks.now + n) same

pub returns-clause-bound : goal.returns-clause-bound
returns-clause-bound g c =
    let same : length (serial_ops c.committed-committed.result.now) ≡ length (serial_ops c.args.machine.now.config.done) = ap (λ (D : List (CommittedTx Op)). length (serial_ops D)) c.committed-committed.ensures.done in
    omega (arith, same, c.serial_state.ensures.bound)

pub returns-in_err-states-clause-bound : goal.returns-in_err-states-clause-bound
returns-in_err-states-clause-bound g c =
    let same : length (serial_ops c.committed-committed.result.now) ≡ length (serial_ops c.args.machine.now.config.done) = ap (λ (D : List (CommittedTx Op)). length (serial_ops D)) c.committed-committed.ensures.done in
    omega (arith, same, c.serial_state.ensures.bound)
