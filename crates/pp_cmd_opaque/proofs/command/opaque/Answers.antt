use Rattle.std.proofs.Common.{subst, sym, inl, inr}
use Rattle.pp_core.specs.declared.status.Status.TheVariants as statuses
use Rattle.pp_input.specs.Limits.{usual_limits}
use Rattle.pp_input_reader.proofs.Takers.{taken_all}
use Rattle.pp_judge.proofs.Concluding.{rejected_evident}
use Rattle.pp_judge.proofs.Running.{rejected_of}
use Rattle.pp_judge.specs.Driven.{driven_judging}
use Rattle.pp_judge.specs.Findings.{Finds, RisesAtLeast}
use Rattle.pp_judge.specs.Inputs.{scan}
use Rattle.pp_judge.specs.Rejected.{IsEvident}
use Rattle.pp_laws_runs.proofs.ScannedRecords.{scan_styled}
use Rattle.pp_cmd_opaque.proofs.Keeping.{kept_run}
use Rattle.pp_cmd_opaque.proofs.Reporting.{accepted_meets_all, accepted_output, fault_output, rejected_output, searched_least, searched_most, steps_most}
use Rattle.pp_cmd_opaque.specs.Kept.{HasKept, HasKeptRun}
use Rattle.pp_cmd_opaque.specs.Meanings.{MeetsAll}
use Rattle.pp_cmd_opaque.specs.Outputs.{IsOpaqueOutput}
use Rattle.pp_cmd_opaque.proofs.command.opaque.Goals as goal

-- ---- what is printed

pub returns-in_ok-text-in-Fault-clause-output : goal.returns-in_ok-text-in-Fault-clause-output
returns-in_ok-text-in-Fault-clause-output g c = λ bytes is.
    let old = g.S.Source.left c.args.source.now in
    let new = g.S.Source.left c.examine.new.source in
    let found = subst (Finds (driven_judging HasKept) old new) c.in-Fault.is c.in_ok-line.ensures.found in
    fault_output bytes c.in-Fault.line c.in-Fault.cause c.in_ok-text-in-Fault.text (found bytes is) c.in_ok-text-in-Fault.ensures

pub report_rejected-requires : goal.report_rejected-requires
report_rejected-requires g c =
    let old = g.S.Source.left c.args.source.now in
    let new = g.S.Source.left c.examine.new.source in
    let found = subst (Finds (driven_judging HasKept) old new) c.in-Rejected.is c.in_ok-line.ensures.found in
    (scan found.0, rejected_of HasKept (scan found.0) c.in-Rejected.tally c.in-Rejected.refused found.3)

pub returns-in_ok-text-in-Rejected-clause-output : goal.returns-in_ok-text-in-Rejected-clause-output
returns-in_ok-text-in-Rejected-clause-output g c = λ bytes is.
    let old = g.S.Source.left c.args.source.now in
    let new = g.S.Source.left c.examine.new.source in
    let found = subst (Finds (driven_judging HasKept) old new) c.in-Rejected.is c.in_ok-line.ensures.found in
    let text = c.in_ok-text-in-Rejected.text in
    let rejected = rejected_of HasKept (scan found.0) c.in-Rejected.tally c.in-Rejected.refused found.3 in
    subst (λ bs. IsOpaqueOutput bs statuses.Rejected text) (taken_all old new found.0 bytes found.1 found.2 is)
    (rejected_output found.0 c.in-Rejected.tally c.in-Rejected.refused.rejection text rejected (c.in_ok-text-in-Rejected.ensures (scan found.0) rejected))

pub returns-in_ok-text-in-Rejected-clause-shown : goal.returns-in_ok-text-in-Rejected-clause-shown
returns-in_ok-text-in-Rejected-clause-shown g c = λ rejected bytes is.
    let old = g.S.Source.left c.args.source.now in
    let new = g.S.Source.left c.examine.new.source in
    let found = subst (Finds (driven_judging HasKept) old new) c.in-Rejected.is c.in_ok-line.ensures.found in
    inl (subst (λ bs. IsEvident (scan bs)) (taken_all old new found.0 bytes found.1 found.2 is)
    (rejected_evident (scan found.0) c.in-Rejected.tally c.in-Rejected.refused.rejection (rejected_of HasKept (scan found.0) c.in-Rejected.tally c.in-Rejected.refused found.3)))

pub report_opacity-requires : goal.report_opacity-requires
report_opacity-requires g c =
    let old = g.S.Source.left c.args.source.now in
    let new = g.S.Source.left c.examine.new.source in
    let found = subst (Finds (driven_judging HasKept) old new) c.in-Accepted.is c.in_ok-line.ensures.found in
    let tally = c.in-Accepted.tally in
    (scan found.0, subst (λ m. HasKeptRun (scan found.0) tally m c.in-Accepted.judge.observer) (sym c.into_machine-machine.ensures) (kept_run (scan found.0) tally c.in-Accepted.judge found.3 (scan_styled usual_limits found.0)))

pub returns-in_ok-report-in-Accepted-clause-output : goal.returns-in_ok-report-in-Accepted-clause-output
returns-in_ok-report-in-Accepted-clause-output g c = λ bytes is.
    let old = g.S.Source.left c.args.source.now in
    let new = g.S.Source.left c.examine.new.source in
    let found = subst (Finds (driven_judging HasKept) old new) c.in-Accepted.is c.in_ok-line.ensures.found in
    let tally = c.in-Accepted.tally in
    let machine = c.into_machine-machine.result in
    let has = subst (λ m. HasKeptRun (scan found.0) tally m c.in-Accepted.judge.observer) (sym c.into_machine-machine.ensures) (kept_run (scan found.0) tally c.in-Accepted.judge found.3 (scan_styled usual_limits found.0)) in
    let report = c.in_ok-report-in-Accepted.report in
    subst (λ bs. IsOpaqueOutput bs report.0 report.1) (taken_all old new found.0 bytes found.1 found.2 is)
    (accepted_output found.0 tally machine has.steps.running report.0 report.1 (c.in_ok-report-in-Accepted.ensures.output (scan found.0) has))

pub returns-in_ok-report-in-Accepted-clause-shown : goal.returns-in_ok-report-in-Accepted-clause-shown
returns-in_ok-report-in-Accepted-clause-shown g c = λ rejected bytes is.
    let old = g.S.Source.left c.args.source.now in
    let new = g.S.Source.left c.examine.new.source in
    let found = subst (Finds (driven_judging HasKept) old new) c.in-Accepted.is c.in_ok-line.ensures.found in
    let tally = c.in-Accepted.tally in
    let machine = c.into_machine-machine.result in
    let has = subst (λ m. HasKeptRun (scan found.0) tally m c.in-Accepted.judge.observer) (sym c.into_machine-machine.ensures) (kept_run (scan found.0) tally c.in-Accepted.judge found.3 (scan_styled usual_limits found.0)) in
    inr (subst (λ bs. MeetsAll bs) (taken_all old new found.0 bytes found.1 found.2 is) (accepted_meets_all found.0 tally machine has.steps.running))

-- ---- what the counter shows

pub returns-in_err-line-clause-most : goal.returns-in_err-line-clause-most
returns-in_err-line-clause-most g c = λ bytes is. steps_most (scan bytes) c.args.ticks.now c.examine.new.ticks (c.examine.ensures.most bytes is)

pub returns-in_ok-text-in-Fault-clause-most : goal.returns-in_ok-text-in-Fault-clause-most
returns-in_ok-text-in-Fault-clause-most g c = λ bytes is. steps_most (scan bytes) c.args.ticks.now c.examine.new.ticks (c.examine.ensures.most bytes is)

pub returns-in_err-text-in-Fault-clause-most : goal.returns-in_err-text-in-Fault-clause-most
returns-in_err-text-in-Fault-clause-most g c = λ bytes is. steps_most (scan bytes) c.args.ticks.now c.examine.new.ticks (c.examine.ensures.most bytes is)

pub returns-in_ok-text-in-Rejected-clause-most : goal.returns-in_ok-text-in-Rejected-clause-most
returns-in_ok-text-in-Rejected-clause-most g c = λ bytes is. steps_most (scan bytes) c.args.ticks.now c.examine.new.ticks (c.examine.ensures.most bytes is)

pub returns-in_err-text-in-Rejected-clause-most : goal.returns-in_err-text-in-Rejected-clause-most
returns-in_err-text-in-Rejected-clause-most g c = λ bytes is. steps_most (scan bytes) c.args.ticks.now c.examine.new.ticks (c.examine.ensures.most bytes is)

pub returns-in_ok-report-in-Accepted-clause-most : goal.returns-in_ok-report-in-Accepted-clause-most
returns-in_ok-report-in-Accepted-clause-most g c = λ bytes is.
    let old = g.S.Source.left c.args.source.now in
    let new = g.S.Source.left c.examine.new.source in
    let found = subst (Finds (driven_judging HasKept) old new) c.in-Accepted.is c.in_ok-line.ensures.found in
    let tally = c.in-Accepted.tally in
    let machine = c.into_machine-machine.result in
    let kept = c.in-Accepted.judge.observer in
    let has = subst (λ m. HasKeptRun (scan found.0) tally m kept) (sym c.into_machine-machine.ensures) (kept_run (scan found.0) tally c.in-Accepted.judge found.3 (scan_styled usual_limits found.0)) in
    let h = subst (λ bs. HasKeptRun (scan bs) tally machine kept) (taken_all old new found.0 bytes found.1 found.2 is) has in
    searched_most (scan bytes) tally machine kept h c.args.ticks.now c.examine.new.ticks c.report_opacity.new.ticks (c.examine.ensures.most bytes is) c.report_opacity.ensures.bound

pub returns-in_err-report-in-Accepted-clause-most : goal.returns-in_err-report-in-Accepted-clause-most
returns-in_err-report-in-Accepted-clause-most g c = λ bytes is.
    let old = g.S.Source.left c.args.source.now in
    let new = g.S.Source.left c.examine.new.source in
    let found = subst (Finds (driven_judging HasKept) old new) c.in-Accepted.is c.in_ok-line.ensures.found in
    let tally = c.in-Accepted.tally in
    let machine = c.into_machine-machine.result in
    let kept = c.in-Accepted.judge.observer in
    let has = subst (λ m. HasKeptRun (scan found.0) tally m kept) (sym c.into_machine-machine.ensures) (kept_run (scan found.0) tally c.in-Accepted.judge found.3 (scan_styled usual_limits found.0)) in
    let h = subst (λ bs. HasKeptRun (scan bs) tally machine kept) (taken_all old new found.0 bytes found.1 found.2 is) has in
    searched_most (scan bytes) tally machine kept h c.args.ticks.now c.examine.new.ticks c.report_opacity.new.ticks (c.examine.ensures.most bytes is) c.report_opacity.ensures.bound

pub returns-in_ok-text-in-Rejected-clause-least : goal.returns-in_ok-text-in-Rejected-clause-least
returns-in_ok-text-in-Rejected-clause-least g c = λ decided bytes is.
    subst (λ finding. RisesAtLeast (driven_judging HasKept) (scan bytes) finding c.args.ticks.now c.examine.new.ticks) c.in-Rejected.is (c.in_ok-line.ensures.least bytes is)

pub returns-in_ok-report-in-Accepted-clause-least : goal.returns-in_ok-report-in-Accepted-clause-least
returns-in_ok-report-in-Accepted-clause-least g c = λ decided bytes is.
    searched_least (scan bytes) c.in_ok-report-in-Accepted.report.0 c.args.ticks.now c.examine.new.ticks c.report_opacity.new.ticks
    (subst (λ finding. RisesAtLeast (driven_judging HasKept) (scan bytes) finding c.args.ticks.now c.examine.new.ticks) c.in-Accepted.is (c.in_ok-line.ensures.least bytes is))
    c.report_opacity.ensures.rises
