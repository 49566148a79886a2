use Rattle.std.proofs.Common.{subst, sym}
use Rattle.pp_core.specs.declared.status.Status.TheVariants as statuses
use Rattle.pp_input_reader.proofs.Takers.{taken_all}
use Rattle.pp_styles.specs.Meanings.{meanings}
use Rattle.pp_judge.proofs.Concluding.{rejected_evident}
use Rattle.pp_judge.proofs.Running.{rejected_of}
use Rattle.pp_judge.specs.Driven.{driven_judging}
use Rattle.pp_judge.specs.Findings.{Finds, RisesAtLeast}
use Rattle.pp_judge.specs.Inputs.{scan}
use Rattle.pp_judge.specs.Rejected.{IsEvident}
use Rattle.pp_cmd_views.proofs.Telling.{accepted_views, fault_views, has_steps, rejected_views, steps_most, viewed_least, viewed_most}
use Rattle.pp_cmd_views.specs.Outputs.{IsViews}
use Rattle.pp_cmd_views.specs.Taken.{HasSeenSteps, HasSteps}
use Rattle.pp_cmd_views.proofs.command.views.Goals as goal

-- ---- the text

pub returns-in_ok-text-in-Fault-clause-output : goal.returns-in_ok-text-in-Fault-clause-output
returns-in_ok-text-in-Fault-clause-output g c = λ bytes is.
    let old = g.S.Source.left c.args.source.now in
    let new = g.S.Source.left c.examine.new.source in
    let found = subst (Finds (driven_judging HasSeenSteps) old new) c.in-Fault.is c.in_ok-line.ensures.found in
    fault_views bytes c.in-Fault.line c.in-Fault.cause c.in_ok-text-in-Fault.text (found bytes is) c.in_ok-text-in-Fault.ensures

pub report_rejected-requires : goal.report_rejected-requires
report_rejected-requires g c =
    let old = g.S.Source.left c.args.source.now in
    let new = g.S.Source.left c.examine.new.source in
    let found = subst (Finds (driven_judging HasSeenSteps) old new) c.in-Rejected.is c.in_ok-line.ensures.found in
    (scan found.0, rejected_of HasSeenSteps (scan found.0) c.in-Rejected.tally c.in-Rejected.refused found.3)

pub returns-in_ok-text-in-Rejected-clause-output : goal.returns-in_ok-text-in-Rejected-clause-output
returns-in_ok-text-in-Rejected-clause-output g c = λ bytes is.
    let old = g.S.Source.left c.args.source.now in
    let new = g.S.Source.left c.examine.new.source in
    let found = subst (Finds (driven_judging HasSeenSteps) old new) c.in-Rejected.is c.in_ok-line.ensures.found in
    let text = c.in_ok-text-in-Rejected.text in
    let rejected = rejected_of HasSeenSteps (scan found.0) c.in-Rejected.tally c.in-Rejected.refused found.3 in
    subst (λ bs. IsViews bs statuses.Rejected text) (taken_all old new found.0 bytes found.1 found.2 is)
    (rejected_views found.0 c.in-Rejected.tally c.in-Rejected.refused.rejection text rejected (c.in_ok-text-in-Rejected.ensures (scan found.0) rejected))

pub returns-in_ok-text-in-Rejected-clause-shown : goal.returns-in_ok-text-in-Rejected-clause-shown
returns-in_ok-text-in-Rejected-clause-shown g c = λ rejected bytes is.
    let old = g.S.Source.left c.args.source.now in
    let new = g.S.Source.left c.examine.new.source in
    let found = subst (Finds (driven_judging HasSeenSteps) old new) c.in-Rejected.is c.in_ok-line.ensures.found in
    subst (λ bs. IsEvident (scan bs)) (taken_all old new found.0 bytes found.1 found.2 is)
    (rejected_evident (scan found.0) c.in-Rejected.tally c.in-Rejected.refused.rejection (rejected_of HasSeenSteps (scan found.0) c.in-Rejected.tally c.in-Rejected.refused found.3))

pub report_views-requires : goal.report_views-requires
report_views-requires g c =
    let old = g.S.Source.left c.args.source.now in
    let new = g.S.Source.left c.examine.new.source in
    let found = subst (Finds (driven_judging HasSeenSteps) old new) c.in-Accepted.is c.in_ok-line.ensures.found in
    let tally = c.in-Accepted.tally in
    let machine = c.into_machine-machine.result in
    let steps = meanings c.in-Accepted.judge.observer.steps in
    let has = subst (λ m. HasSteps (scan found.0) tally m steps) (sym c.into_machine-machine.ensures) (has_steps (scan found.0) tally c.in-Accepted.judge found.3) in
    (scan found.0, has)

pub returns-in_ok-told-in-Accepted-clause-output : goal.returns-in_ok-told-in-Accepted-clause-output
returns-in_ok-told-in-Accepted-clause-output g c = λ bytes is.
    let old = g.S.Source.left c.args.source.now in
    let new = g.S.Source.left c.examine.new.source in
    let found = subst (Finds (driven_judging HasSeenSteps) old new) c.in-Accepted.is c.in_ok-line.ensures.found in
    let tally = c.in-Accepted.tally in
    let machine = c.into_machine-machine.result in
    let steps = meanings c.in-Accepted.judge.observer.steps in
    let has = subst (λ m. HasSteps (scan found.0) tally m steps) (sym c.into_machine-machine.ensures) (has_steps (scan found.0) tally c.in-Accepted.judge found.3) in
    let told = c.in_ok-told-in-Accepted.told in
    subst (λ bs. IsViews bs told.0 told.1) (taken_all old new found.0 bytes found.1 found.2 is)
    (accepted_views found.0 tally machine steps told.0 told.1 has (c.in_ok-told-in-Accepted.ensures.told (scan found.0) has))

-- ---- what the counter shows

pub returns-in_err-line-clause-most : goal.returns-in_err-line-clause-most
returns-in_err-line-clause-most g c = λ bytes is. steps_most (scan bytes) c.args.ticks.now c.examine.new.ticks (c.examine.ensures.most bytes is)

pub returns-in_ok-text-in-Fault-clause-most : goal.returns-in_ok-text-in-Fault-clause-most
returns-in_ok-text-in-Fault-clause-most g c = λ bytes is. steps_most (scan bytes) c.args.ticks.now c.examine.new.ticks (c.examine.ensures.most bytes is)

pub returns-in_err-text-in-Fault-clause-most : goal.returns-in_err-text-in-Fault-clause-most
returns-in_err-text-in-Fault-clause-most g c = λ bytes is. steps_most (scan bytes) c.args.ticks.now c.examine.new.ticks (c.examine.ensures.most bytes is)

pub returns-in_ok-text-in-Rejected-clause-most : goal.returns-in_ok-text-in-Rejected-clause-most
returns-in_ok-text-in-Rejected-clause-most g c = λ bytes is. steps_most (scan bytes) c.args.ticks.now c.examine.new.ticks (c.examine.ensures.most bytes is)

pub returns-in_err-text-in-Rejected-clause-most : goal.returns-in_err-text-in-Rejected-clause-most
returns-in_err-text-in-Rejected-clause-most g c = λ bytes is. steps_most (scan bytes) c.args.ticks.now c.examine.new.ticks (c.examine.ensures.most bytes is)

pub returns-in_ok-told-in-Accepted-clause-most : goal.returns-in_ok-told-in-Accepted-clause-most
returns-in_ok-told-in-Accepted-clause-most g c = λ bytes is.
    let old = g.S.Source.left c.args.source.now in
    let new = g.S.Source.left c.examine.new.source in
    let found = subst (Finds (driven_judging HasSeenSteps) old new) c.in-Accepted.is c.in_ok-line.ensures.found in
    let tally = c.in-Accepted.tally in
    let machine = c.into_machine-machine.result in
    let steps = meanings c.in-Accepted.judge.observer.steps in
    let has = subst (λ m. HasSteps (scan found.0) tally m steps) (sym c.into_machine-machine.ensures) (has_steps (scan found.0) tally c.in-Accepted.judge found.3) in
    let h = subst (λ bs. HasSteps (scan bs) tally machine steps) (taken_all old new found.0 bytes found.1 found.2 is) has in
    viewed_most (scan bytes) tally machine steps h c.args.ticks.now c.examine.new.ticks c.report_views.new.ticks (c.examine.ensures.most bytes is) c.report_views.ensures.bound

pub returns-in_err-told-in-Accepted-clause-most : goal.returns-in_err-told-in-Accepted-clause-most
returns-in_err-told-in-Accepted-clause-most g c = λ bytes is.
    let old = g.S.Source.left c.args.source.now in
    let new = g.S.Source.left c.examine.new.source in
    let found = subst (Finds (driven_judging HasSeenSteps) old new) c.in-Accepted.is c.in_ok-line.ensures.found in
    let tally = c.in-Accepted.tally in
    let machine = c.into_machine-machine.result in
    let steps = meanings c.in-Accepted.judge.observer.steps in
    let has = subst (λ m. HasSteps (scan found.0) tally m steps) (sym c.into_machine-machine.ensures) (has_steps (scan found.0) tally c.in-Accepted.judge found.3) in
    let h = subst (λ bs. HasSteps (scan bs) tally machine steps) (taken_all old new found.0 bytes found.1 found.2 is) has in
    viewed_most (scan bytes) tally machine steps h c.args.ticks.now c.examine.new.ticks c.report_views.new.ticks (c.examine.ensures.most bytes is) c.report_views.ensures.bound

pub returns-in_ok-text-in-Rejected-clause-least : goal.returns-in_ok-text-in-Rejected-clause-least
returns-in_ok-text-in-Rejected-clause-least g c = λ decided bytes is.
    subst (λ finding. RisesAtLeast (driven_judging HasSeenSteps) (scan bytes) finding c.args.ticks.now c.examine.new.ticks) c.in-Rejected.is (c.in_ok-line.ensures.least bytes is)

pub returns-in_ok-told-in-Accepted-clause-least : goal.returns-in_ok-told-in-Accepted-clause-least
returns-in_ok-told-in-Accepted-clause-least g c = λ decided bytes is.
    viewed_least (scan bytes) c.in_ok-told-in-Accepted.told.0 c.args.ticks.now c.examine.new.ticks c.report_views.new.ticks c.in_ok-told-in-Accepted.ensures.status decided
    (subst (λ finding. RisesAtLeast (driven_judging HasSeenSteps) (scan bytes) finding c.args.ticks.now c.examine.new.ticks) c.in-Accepted.is (c.in_ok-line.ensures.least bytes is))
    c.report_views.ensures.rises
