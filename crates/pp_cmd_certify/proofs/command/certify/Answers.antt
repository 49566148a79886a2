use Rattle.std.proofs.Common.{subst, sym}
use Rattle.pp_core.specs.declared.status.Status.TheVariants as statuses
use Rattle.pp_judge.specs.Driven.{driven_judging}
use Rattle.pp_judge.specs.Findings.{Finds, RisesAtLeast}
use Rattle.pp_judge.specs.Inputs.{scan}
use Rattle.pp_judge.specs.Running.{IsRunning}
use Rattle.pp_judge.specs.Rejected.{IsEvident}
use Rattle.pp_judge.specs.Reports.{IsCertified}
use Rattle.pp_input_reader.proofs.Takers.{taken_all}
use Rattle.pp_judge.proofs.Concluding.{fault_report, rejected_evident, run_report}
use Rattle.pp_judge.proofs.Running.{rejected_of, rejected_sound, running_of, running_sound}
use Rattle.pp_judge.proofs.Summing.{no_serial, serial_least, serial_most}
use Rattle.pp_format_read.specs.declared.header.Header.{Header}
use Rattle.pp_objects.specs.declared.act.Op.{Op}
use Rattle.pp_records.specs.Runs.{LinedSteps}
use Rattle.pp_judge.specs.declared.observer.Blind.{Blind}
use Rattle.pp_cmd_certify.proofs.command.certify.Goals as goal

-- An observer that sees nothing.
abbrev Nothing : Header → LinedSteps Op → Blind → Type 0
Nothing header steps w = Unit {0}

pub returns-in_ok-text-in-Fault-clause-report : goal.returns-in_ok-text-in-Fault-clause-report
returns-in_ok-text-in-Fault-clause-report g c = λ bytes is.
    let found = subst (Finds (driven_judging Nothing) (g.S.Source.left c.args.source.now) (g.S.Source.left c.examine.new.source)) c.in-Fault.is c.in_ok-line.ensures.found in
    fault_report bytes c.in-Fault.line c.in-Fault.cause c.in_ok-text-in-Fault.text (found bytes is) c.in_ok-text-in-Fault.ensures

pub returns-in_ok-text-in-Rejected-clause-report : goal.returns-in_ok-text-in-Rejected-clause-report
returns-in_ok-text-in-Rejected-clause-report g c = λ bytes is.
    let old = g.S.Source.left c.args.source.now in
    let new = g.S.Source.left c.examine.new.source in
    let text = c.in_ok-text-in-Rejected.text in
    let found = subst (Finds (driven_judging Nothing) old new) c.in-Rejected.is c.in_ok-line.ensures.found in
    subst (λ bs. IsCertified bs statuses.Rejected text) (taken_all old new found.0 bytes found.1 found.2 is)
    (let rejected = rejected_of Nothing (scan found.0) c.in-Rejected.tally c.in-Rejected.refused found.3 in
    run_report found.0 statuses.Rejected text (rejected_sound (scan found.0) c.in-Rejected.tally c.in-Rejected.refused.rejection rejected) (c.in_ok-text-in-Rejected.ensures (scan found.0) rejected))

pub returns-in_ok-text-in-Accepted-clause-report : goal.returns-in_ok-text-in-Accepted-clause-report
returns-in_ok-text-in-Accepted-clause-report g c = λ bytes is.
    let old = g.S.Source.left c.args.source.now in
    let new = g.S.Source.left c.examine.new.source in
    let text = c.in_ok-text-in-Accepted.text in
    let found = subst (Finds (driven_judging Nothing) old new) c.in-Accepted.is c.in_ok-line.ensures.found in
    subst (λ bs. IsCertified bs statuses.Accepted text) (taken_all old new found.0 bytes found.1 found.2 is)
    (let running = subst (IsRunning (scan found.0) c.in-Accepted.tally) (sym c.into_machine-machine.ensures) (running_of Nothing (scan found.0) c.in-Accepted.tally c.in-Accepted.judge found.3) in
    run_report found.0 statuses.Accepted text (running_sound (scan found.0) c.in-Accepted.tally c.into_machine-machine.result running) (c.in_ok-text-in-Accepted.ensures.report (scan found.0) running))

pub returns-in_ok-text-in-Rejected-clause-shown : goal.returns-in_ok-text-in-Rejected-clause-shown
returns-in_ok-text-in-Rejected-clause-shown g c = λ rejected bytes is.
    let old = g.S.Source.left c.args.source.now in
    let new = g.S.Source.left c.examine.new.source in
    let found = subst (Finds (driven_judging Nothing) old new) c.in-Rejected.is c.in_ok-line.ensures.found in
    subst (λ bs. IsEvident (scan bs)) (taken_all old new found.0 bytes found.1 found.2 is)
    (rejected_evident (scan found.0) c.in-Rejected.tally c.in-Rejected.refused.rejection (rejected_of Nothing (scan found.0) c.in-Rejected.tally c.in-Rejected.refused found.3))

-- ---- what the counter shows

pub returns-in_ok-text-in-Fault-clause-most : goal.returns-in_ok-text-in-Fault-clause-most
returns-in_ok-text-in-Fault-clause-most g c = λ bytes is. no_serial (scan bytes) c.args.ticks.now c.examine.new.ticks (c.examine.ensures.most bytes is)

pub returns-in_err-text-in-Fault-clause-most : goal.returns-in_err-text-in-Fault-clause-most
returns-in_err-text-in-Fault-clause-most g c = λ bytes is. no_serial (scan bytes) c.args.ticks.now c.examine.new.ticks (c.examine.ensures.most bytes is)

pub returns-in_ok-text-in-Rejected-clause-most : goal.returns-in_ok-text-in-Rejected-clause-most
returns-in_ok-text-in-Rejected-clause-most g c = λ bytes is. no_serial (scan bytes) c.args.ticks.now c.examine.new.ticks (c.examine.ensures.most bytes is)

pub returns-in_err-text-in-Rejected-clause-most : goal.returns-in_err-text-in-Rejected-clause-most
returns-in_err-text-in-Rejected-clause-most g c = λ bytes is. no_serial (scan bytes) c.args.ticks.now c.examine.new.ticks (c.examine.ensures.most bytes is)

pub returns-in_err-line-clause-most : goal.returns-in_err-line-clause-most
returns-in_err-line-clause-most g c = λ bytes is. no_serial (scan bytes) c.args.ticks.now c.examine.new.ticks (c.examine.ensures.most bytes is)

pub returns-in_ok-text-in-Accepted-clause-most : goal.returns-in_ok-text-in-Accepted-clause-most
returns-in_ok-text-in-Accepted-clause-most g c = λ bytes is.
    let old = g.S.Source.left c.args.source.now in
    let new = g.S.Source.left c.examine.new.source in
    let tally = c.in-Accepted.tally in
    let machine = c.into_machine-machine.result in
    let found = subst (Finds (driven_judging Nothing) old new) c.in-Accepted.is c.in_ok-line.ensures.found in
    let running = subst (λ bs. IsRunning (scan bs) tally machine) (taken_all old new found.0 bytes found.1 found.2 is) (subst (IsRunning (scan found.0) tally) (sym c.into_machine-machine.ensures) (running_of Nothing (scan found.0) tally c.in-Accepted.judge found.3)) in
    serial_most (scan bytes) tally machine running c.args.ticks.now c.examine.new.ticks c.report_accepted.new.ticks (c.examine.ensures.most bytes is) c.report_accepted.ensures.bound

pub returns-in_err-text-in-Accepted-clause-most : goal.returns-in_err-text-in-Accepted-clause-most
returns-in_err-text-in-Accepted-clause-most g c = λ bytes is.
    let old = g.S.Source.left c.args.source.now in
    let new = g.S.Source.left c.examine.new.source in
    let tally = c.in-Accepted.tally in
    let machine = c.into_machine-machine.result in
    let found = subst (Finds (driven_judging Nothing) old new) c.in-Accepted.is c.in_ok-line.ensures.found in
    let running = subst (λ bs. IsRunning (scan bs) tally machine) (taken_all old new found.0 bytes found.1 found.2 is) (subst (IsRunning (scan found.0) tally) (sym c.into_machine-machine.ensures) (running_of Nothing (scan found.0) tally c.in-Accepted.judge found.3)) in
    serial_most (scan bytes) tally machine running c.args.ticks.now c.examine.new.ticks c.report_accepted.new.ticks (c.examine.ensures.most bytes is) c.report_accepted.ensures.bound

pub returns-in_ok-text-in-Rejected-clause-least : goal.returns-in_ok-text-in-Rejected-clause-least
returns-in_ok-text-in-Rejected-clause-least g c = λ decided bytes is.
    subst (λ finding. RisesAtLeast (driven_judging Nothing) (scan bytes) finding c.args.ticks.now c.examine.new.ticks) c.in-Rejected.is (c.in_ok-line.ensures.least bytes is)

pub returns-in_ok-text-in-Accepted-clause-least : goal.returns-in_ok-text-in-Accepted-clause-least
returns-in_ok-text-in-Accepted-clause-least g c = λ decided bytes is.
    let old = g.S.Source.left c.args.source.now in
    let new = g.S.Source.left c.examine.new.source in
    let tally = c.in-Accepted.tally in
    let machine = c.into_machine-machine.result in
    let found = subst (Finds (driven_judging Nothing) old new) c.in-Accepted.is c.in_ok-line.ensures.found in
    let running = subst (λ bs. IsRunning (scan bs) tally machine) (taken_all old new found.0 bytes found.1 found.2 is) (subst (IsRunning (scan found.0) tally) (sym c.into_machine-machine.ensures) (running_of Nothing (scan found.0) tally c.in-Accepted.judge found.3)) in
    let least = subst (λ finding. RisesAtLeast (driven_judging Nothing) (scan bytes) finding c.args.ticks.now c.examine.new.ticks) c.in-Accepted.is (c.in_ok-line.ensures.least bytes is) in
    serial_least (scan bytes) tally machine running c.args.ticks.now c.examine.new.ticks c.report_accepted.new.ticks least c.in_ok-text-in-Accepted.ensures.cost

pub report_rejected-requires : goal.report_rejected-requires
report_rejected-requires g c =
    let found = subst (Finds (driven_judging Nothing) (g.S.Source.left c.args.source.now) (g.S.Source.left c.examine.new.source)) c.in-Rejected.is c.in_ok-line.ensures.found in
    (scan found.0, rejected_of Nothing (scan found.0) c.in-Rejected.tally c.in-Rejected.refused found.3)

pub report_accepted-requires : goal.report_accepted-requires
report_accepted-requires g c =
    let found = subst (Finds (driven_judging Nothing) (g.S.Source.left c.args.source.now) (g.S.Source.left c.examine.new.source)) c.in-Accepted.is c.in_ok-line.ensures.found in
    (scan found.0, subst (IsRunning (scan found.0) c.in-Accepted.tally) (sym c.into_machine-machine.ensures) (running_of Nothing (scan found.0) c.in-Accepted.tally c.in-Accepted.judge found.3))
