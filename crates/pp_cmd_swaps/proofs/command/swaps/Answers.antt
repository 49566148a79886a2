use Rattle.std.proofs.Common.{subst, sym}
use Rattle.pp_judge.specs.Costs.{StepsCostAtLeast}
use Rattle.pp_judge.specs.Driven.{driven_judging}
use Rattle.pp_judge.specs.Findings.{Finds, RisesAtLeast}
use Rattle.pp_judge.specs.Inputs.{scan}
use Rattle.pp_judge.specs.Rejected.{IsEvident}
use Rattle.pp_input_reader.proofs.Takers.{taken_all}
use Rattle.pp_judge.specs.Running.{IsRunning}
use Rattle.pp_judge.proofs.Concluding.{rejected_evident}
use Rattle.pp_judge.proofs.Running.{rejected_of, running_of}
use Rattle.pp_cmd_swaps.specs.Swaps.{IsSwaps}
use Rattle.pp_cmd_swaps.proofs.Telling.{accepted_if_decided, accepted_swaps, fault_swaps, rejected_swaps}
use Rattle.pp_core.specs.declared.status.Status.TheVariants as statuses
use Rattle.pp_format_read.specs.declared.header.Header.{Header}
use Rattle.pp_objects.specs.declared.act.Op.{Op}
use Rattle.pp_records.specs.Runs.{LinedSteps}
use Rattle.pp_judge.specs.declared.observer.Blind.{Blind}
use Rattle.pp_cmd_swaps.proofs.command.swaps.Goals as goal

-- An observer that sees nothing.
abbrev Nothing : Header → LinedSteps Op → Blind → Type 0
Nothing header steps w = Unit {0}

pub returns-in_ok-text-in-Fault-clause-output : goal.returns-in_ok-text-in-Fault-clause-output
returns-in_ok-text-in-Fault-clause-output g c = λ bytes is.
    let found = subst (Finds (driven_judging Nothing) (g.S.Source.left c.args.source.now) (g.S.Source.left c.examine.new.source)) c.in-Fault.is c.in_ok-line.ensures.found in
    fault_swaps bytes c.in-Fault.line c.in-Fault.cause c.in_ok-text-in-Fault.text (found bytes is) c.in_ok-text-in-Fault.ensures

pub returns-in_ok-text-in-Rejected-clause-output : goal.returns-in_ok-text-in-Rejected-clause-output
returns-in_ok-text-in-Rejected-clause-output g c = λ bytes is.
    let old = g.S.Source.left c.args.source.now in
    let new = g.S.Source.left c.examine.new.source in
    let text = c.in_ok-text-in-Rejected.text in
    let found = subst (Finds (driven_judging Nothing) old new) c.in-Rejected.is c.in_ok-line.ensures.found in
    subst (λ bs. IsSwaps bs statuses.Rejected text) (taken_all old new found.0 bytes found.1 found.2 is)
    (let rejected = rejected_of Nothing (scan found.0) c.in-Rejected.tally c.in-Rejected.refused found.3 in
    rejected_swaps found.0 c.in-Rejected.tally c.in-Rejected.refused.rejection text rejected (c.in_ok-text-in-Rejected.ensures (scan found.0) rejected))

pub returns-in_ok-text-in-Rejected-clause-shown : goal.returns-in_ok-text-in-Rejected-clause-shown
returns-in_ok-text-in-Rejected-clause-shown g c = λ rejected bytes is.
    let old = g.S.Source.left c.args.source.now in
    let new = g.S.Source.left c.examine.new.source in
    let found = subst (Finds (driven_judging Nothing) old new) c.in-Rejected.is c.in_ok-line.ensures.found in
    subst (λ bs. IsEvident (scan bs)) (taken_all old new found.0 bytes found.1 found.2 is)
    (rejected_evident (scan found.0) c.in-Rejected.tally c.in-Rejected.refused.rejection (rejected_of Nothing (scan found.0) c.in-Rejected.tally c.in-Rejected.refused found.3))

pub returns-in_ok-report-in-Accepted-clause-output : goal.returns-in_ok-report-in-Accepted-clause-output
returns-in_ok-report-in-Accepted-clause-output g c = λ bytes is.
    let old = g.S.Source.left c.args.source.now in
    let new = g.S.Source.left c.examine.new.source in
    let found = subst (Finds (driven_judging Nothing) old new) c.in-Accepted.is c.in_ok-line.ensures.found in
    let report = c.in_ok-report-in-Accepted.report in
    subst (λ bs. IsSwaps bs report.0 report.1) (taken_all old new found.0 bytes found.1 found.2 is)
    (accepted_swaps found.0 c.in-Accepted.tally c.into_machine-machine.result report.0 report.1 (subst (IsRunning (scan found.0) c.in-Accepted.tally) (sym c.into_machine-machine.ensures) (running_of Nothing (scan found.0) c.in-Accepted.tally c.in-Accepted.judge found.3)) c.in_ok-report-in-Accepted.ensures)

-- ---- what the counter shows

pub returns-in_ok-text-in-Rejected-clause-least : goal.returns-in_ok-text-in-Rejected-clause-least
returns-in_ok-text-in-Rejected-clause-least g c = λ decided bytes is.
    subst (λ finding. RisesAtLeast (driven_judging Nothing) (scan bytes) finding c.args.ticks.now c.examine.new.ticks) c.in-Rejected.is (c.in_ok-line.ensures.least bytes is)

pub returns-in_ok-report-in-Accepted-clause-least : goal.returns-in_ok-report-in-Accepted-clause-least
returns-in_ok-report-in-Accepted-clause-least g c = λ decided bytes is.
    let report = c.in_ok-report-in-Accepted.report in
    let accepted = accepted_if_decided c.in-Accepted.tally.header.catalog c.into_machine-machine.result.config report.0 report.1 c.in_ok-report-in-Accepted.ensures decided in
    subst (λ s. StepsCostAtLeast s (scan bytes) c.args.ticks.now c.examine.new.ticks) (sym accepted)
    (subst (λ finding. RisesAtLeast (driven_judging Nothing) (scan bytes) finding c.args.ticks.now c.examine.new.ticks) c.in-Accepted.is (c.in_ok-line.ensures.least bytes is))

pub report_rejected-requires : goal.report_rejected-requires
report_rejected-requires g c =
    let found = subst (Finds (driven_judging Nothing) (g.S.Source.left c.args.source.now) (g.S.Source.left c.examine.new.source)) c.in-Rejected.is c.in_ok-line.ensures.found in
    (scan found.0, rejected_of Nothing (scan found.0) c.in-Rejected.tally c.in-Rejected.refused found.3)
