use Rattle.std.proofs.Common.{subst}
use Rattle.pp_core.specs.declared.status.Status.TheVariants as statuses
use Rattle.pp_judge.specs.Driven.{driven_judging}
use Rattle.pp_judge.specs.Findings.{Finds, RisesAtLeast}
use Rattle.pp_judge.specs.Inputs.{scan}
use Rattle.pp_judge.specs.Rejected.{IsEvident}
use Rattle.pp_judge.specs.Reports.{IsExpanded}
use Rattle.pp_input_reader.proofs.Takers.{taken_all}
use Rattle.pp_judge.proofs.Concluding.{rejected_evident}
use Rattle.pp_cmd_expand.proofs.Expanding.{accepted_expanded, fault_expanded, rejected_expanded}
use Rattle.pp_judge.proofs.Running.{rejected_of, running_of}
use Rattle.pp_cmd_expand.specs.Written.{HasWritten}
use Rattle.pp_cmd_expand.proofs.command.expand.Goals as goal

pub returns-in_ok-text-in-Fault-clause-output : goal.returns-in_ok-text-in-Fault-clause-output
returns-in_ok-text-in-Fault-clause-output g c = λ bytes is.
    let found = subst (Finds (driven_judging HasWritten) (g.S.Source.left c.args.source.now) (g.S.Source.left c.examine.new.source)) c.in-Fault.is c.in_ok-line.ensures.found in
    fault_expanded bytes c.in-Fault.line c.in-Fault.cause c.in_ok-text-in-Fault.text (found bytes is) c.in_ok-text-in-Fault.ensures

pub returns-in-Accepted-clause-output : goal.returns-in-Accepted-clause-output
returns-in-Accepted-clause-output g c = λ bytes is.
    let old = g.S.Source.left c.args.source.now in
    let new = g.S.Source.left c.examine.new.source in
    let judge = c.in-Accepted.judge in
    let tally = c.in-Accepted._tally in
    let found = subst (Finds (driven_judging HasWritten) old new) c.in-Accepted.is c.in_ok-line.ensures.found in
    subst (λ bs. IsExpanded bs statuses.Accepted judge.observer.text) (taken_all old new found.0 bytes found.1 found.2 is)
    (accepted_expanded found.0 tally judge.machine judge.observer.text (running_of HasWritten (scan found.0) tally judge found.3) found.3.good.1)

pub returns-in-Rejected-clause-output : goal.returns-in-Rejected-clause-output
returns-in-Rejected-clause-output g c = λ bytes is.
    let old = g.S.Source.left c.args.source.now in
    let new = g.S.Source.left c.examine.new.source in
    let refused = c.in-Rejected.refused in
    let tally = c.in-Rejected._tally in
    let found = subst (Finds (driven_judging HasWritten) old new) c.in-Rejected.is c.in_ok-line.ensures.found in
    subst (λ bs. IsExpanded bs statuses.Rejected refused.observer.text) (taken_all old new found.0 bytes found.1 found.2 is)
    (rejected_expanded found.0 tally refused.rejection refused.observer.text (rejected_of HasWritten (scan found.0) tally refused found.3) found.3.bad.1)

pub returns-in-Rejected-clause-shown : goal.returns-in-Rejected-clause-shown
returns-in-Rejected-clause-shown g c = λ rejected bytes is.
    let old = g.S.Source.left c.args.source.now in
    let new = g.S.Source.left c.examine.new.source in
    let refused = c.in-Rejected.refused in
    let found = subst (Finds (driven_judging HasWritten) old new) c.in-Rejected.is c.in_ok-line.ensures.found in
    subst (λ bs. IsEvident (scan bs)) (taken_all old new found.0 bytes found.1 found.2 is)
    (rejected_evident (scan found.0) c.in-Rejected._tally refused.rejection (rejected_of HasWritten (scan found.0) c.in-Rejected._tally refused found.3))

-- ---- what the counter shows

pub returns-in-Rejected-clause-least : goal.returns-in-Rejected-clause-least
returns-in-Rejected-clause-least g c = λ decided bytes is.
    subst (λ finding. RisesAtLeast (driven_judging HasWritten) (scan bytes) finding c.args.ticks.now c.examine.new.ticks) c.in-Rejected.is (c.in_ok-line.ensures.least bytes is)

pub returns-in-Accepted-clause-least : goal.returns-in-Accepted-clause-least
returns-in-Accepted-clause-least g c = λ decided bytes is.
    subst (λ finding. RisesAtLeast (driven_judging HasWritten) (scan bytes) finding c.args.ticks.now c.examine.new.ticks) c.in-Accepted.is (c.in_ok-line.ensures.least bytes is)
