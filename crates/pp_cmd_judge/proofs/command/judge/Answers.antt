use Rattle.std.proofs.Common.{ℕ, List, subst}
use Rattle.pp_core.specs.declared.status.Status.TheVariants as statuses
use Rattle.pp_input_reader.proofs.Takers.{taken_all}
use Rattle.pp_judge.specs.Findings.{AreGood, Finds, RisesAtLeast}
use Rattle.pp_cmd_judge.specs.Inputs.{judge_scan}
use Rattle.pp_cmd_judge.specs.Judgements.{IsJudgeOutput, IsJudgedEvident}
use Rattle.pp_cmd_judge.specs.StyleJudging.{style_judging}
use Rattle.pp_cmd_judge.proofs.Reporting.{accepted_sound, fault_reported, no_serial_run, rejected_evident, rejected_so, rejected_sound, rejected_told, run_reported, serial_least, serial_most}
use Rattle.pp_cmd_judge.proofs.command.judge.Goals as goal

-- ---- what is printed

pub returns-in_ok-text-in-Fault-clause-output : goal.returns-in_ok-text-in-Fault-clause-output
returns-in_ok-text-in-Fault-clause-output g c = λ bytes is.
    let found = subst (Finds style_judging (g.S.Source.left c.args.source.now) (g.S.Source.left c.examine.new.source)) c.in-Fault.is c.in_ok-line.ensures.found in
    fault_reported bytes c.in-Fault.line c.in-Fault.cause c.in_ok-text-in-Fault.text (found bytes is) c.in_ok-text-in-Fault.ensures

pub returns-in_ok-text-in-Rejected-clause-output : goal.returns-in_ok-text-in-Rejected-clause-output
returns-in_ok-text-in-Rejected-clause-output g c = λ bytes is.
    let old = g.S.Source.left c.args.source.now in
    let new = g.S.Source.left c.examine.new.source in
    let text = c.in_ok-text-in-Rejected.text in
    let found = subst (Finds style_judging old new) c.in-Rejected.is c.in_ok-line.ensures.found in
    subst (λ (bs : List ℕ). IsJudgeOutput bs statuses.Rejected text) (taken_all old new found.0 bytes found.1 found.2 is)
    (run_reported found.0 statuses.Rejected text (rejected_sound (judge_scan found.0) c.in-Rejected.tally c.in-Rejected.rejection found.3)
    (rejected_told (judge_scan found.0) c.in-Rejected.tally c.in-Rejected.rejection found.3 text c.in_ok-text-in-Rejected.ensures))

pub returns-in_ok-text-in-Accepted-clause-output : goal.returns-in_ok-text-in-Accepted-clause-output
returns-in_ok-text-in-Accepted-clause-output g c = λ bytes is.
    let old = g.S.Source.left c.args.source.now in
    let new = g.S.Source.left c.examine.new.source in
    let text = c.in_ok-text-in-Accepted.text in
    let found = subst (Finds style_judging old new) c.in-Accepted.is c.in_ok-line.ensures.found in
    subst (λ (bs : List ℕ). IsJudgeOutput bs statuses.Accepted text) (taken_all old new found.0 bytes found.1 found.2 is)
    (run_reported found.0 statuses.Accepted text (accepted_sound (judge_scan found.0) c.in-Accepted.tally c.in-Accepted.judge found.3)
    (c.in_ok-text-in-Accepted.ensures.report (judge_scan found.0) found.3))

pub returns-in_ok-text-in-Rejected-clause-shown : goal.returns-in_ok-text-in-Rejected-clause-shown
returns-in_ok-text-in-Rejected-clause-shown g c = λ rejected bytes is.
    let old = g.S.Source.left c.args.source.now in
    let new = g.S.Source.left c.examine.new.source in
    let found = subst (Finds style_judging old new) c.in-Rejected.is c.in_ok-line.ensures.found in
    subst (λ (bs : List ℕ). IsJudgedEvident (judge_scan bs)) (taken_all old new found.0 bytes found.1 found.2 is)
    (rejected_evident (judge_scan found.0) c.in-Rejected.tally c.in-Rejected.rejection found.3)

-- ---- what the counter shows

pub returns-in_ok-text-in-Fault-clause-most : goal.returns-in_ok-text-in-Fault-clause-most
returns-in_ok-text-in-Fault-clause-most g c = λ bytes is. no_serial_run (judge_scan bytes) c.args.ticks.now c.examine.new.ticks (c.examine.ensures.most bytes is)

pub returns-in_err-text-in-Fault-clause-most : goal.returns-in_err-text-in-Fault-clause-most
returns-in_err-text-in-Fault-clause-most g c = λ bytes is. no_serial_run (judge_scan bytes) c.args.ticks.now c.examine.new.ticks (c.examine.ensures.most bytes is)

pub returns-in_ok-text-in-Rejected-clause-most : goal.returns-in_ok-text-in-Rejected-clause-most
returns-in_ok-text-in-Rejected-clause-most g c = λ bytes is. no_serial_run (judge_scan bytes) c.args.ticks.now c.examine.new.ticks (c.examine.ensures.most bytes is)

pub returns-in_err-text-in-Rejected-clause-most : goal.returns-in_err-text-in-Rejected-clause-most
returns-in_err-text-in-Rejected-clause-most g c = λ bytes is. no_serial_run (judge_scan bytes) c.args.ticks.now c.examine.new.ticks (c.examine.ensures.most bytes is)

pub returns-in_err-line-clause-most : goal.returns-in_err-line-clause-most
returns-in_err-line-clause-most g c = λ bytes is. no_serial_run (judge_scan bytes) c.args.ticks.now c.examine.new.ticks (c.examine.ensures.most bytes is)

pub returns-in_ok-text-in-Accepted-clause-most : goal.returns-in_ok-text-in-Accepted-clause-most
returns-in_ok-text-in-Accepted-clause-most g c = λ bytes is.
    let old = g.S.Source.left c.args.source.now in
    let new = g.S.Source.left c.examine.new.source in
    let tally = c.in-Accepted.tally in
    let judge = c.in-Accepted.judge in
    let found = subst (Finds style_judging old new) c.in-Accepted.is c.in_ok-line.ensures.found in
    let good = subst (λ (bs : List ℕ). AreGood style_judging (judge_scan bs) tally judge) (taken_all old new found.0 bytes found.1 found.2 is) found.3 in
    (c.examine.new.ticks, c.examine.ensures.most bytes is, serial_most (judge_scan bytes) tally judge good c.examine.new.ticks c.report_accepted.new.ticks c.report_accepted.ensures.bound)

pub returns-in_err-text-in-Accepted-clause-most : goal.returns-in_err-text-in-Accepted-clause-most
returns-in_err-text-in-Accepted-clause-most g c = λ bytes is.
    let old = g.S.Source.left c.args.source.now in
    let new = g.S.Source.left c.examine.new.source in
    let tally = c.in-Accepted.tally in
    let judge = c.in-Accepted.judge in
    let found = subst (Finds style_judging old new) c.in-Accepted.is c.in_ok-line.ensures.found in
    let good = subst (λ (bs : List ℕ). AreGood style_judging (judge_scan bs) tally judge) (taken_all old new found.0 bytes found.1 found.2 is) found.3 in
    (c.examine.new.ticks, c.examine.ensures.most bytes is, serial_most (judge_scan bytes) tally judge good c.examine.new.ticks c.report_accepted.new.ticks c.report_accepted.ensures.bound)

pub returns-in_ok-text-in-Rejected-clause-least : goal.returns-in_ok-text-in-Rejected-clause-least
returns-in_ok-text-in-Rejected-clause-least g c = λ decided bytes is.
    subst (λ finding. RisesAtLeast style_judging (judge_scan bytes) finding c.args.ticks.now c.examine.new.ticks) c.in-Rejected.is (c.in_ok-line.ensures.least bytes is)

pub returns-in_ok-text-in-Accepted-clause-least : goal.returns-in_ok-text-in-Accepted-clause-least
returns-in_ok-text-in-Accepted-clause-least g c = λ decided bytes is.
    let old = g.S.Source.left c.args.source.now in
    let new = g.S.Source.left c.examine.new.source in
    let tally = c.in-Accepted.tally in
    let judge = c.in-Accepted.judge in
    let found = subst (Finds style_judging old new) c.in-Accepted.is c.in_ok-line.ensures.found in
    let good = subst (λ (bs : List ℕ). AreGood style_judging (judge_scan bs) tally judge) (taken_all old new found.0 bytes found.1 found.2 is) found.3 in
    let least = subst (λ finding. RisesAtLeast style_judging (judge_scan bytes) finding c.args.ticks.now c.examine.new.ticks) c.in-Accepted.is (c.in_ok-line.ensures.least bytes is) in
    (c.examine.new.ticks, least, serial_least (judge_scan bytes) tally judge good c.examine.new.ticks c.report_accepted.new.ticks c.in_ok-text-in-Accepted.ensures.cost)

-- ---- what is asked

pub report_rejected-requires : goal.report_rejected-requires
report_rejected-requires g c =
    let found = subst (Finds style_judging (g.S.Source.left c.args.source.now) (g.S.Source.left c.examine.new.source)) c.in-Rejected.is c.in_ok-line.ensures.found in
    (rejected_so (judge_scan found.0) c.in-Rejected.tally c.in-Rejected.rejection found.3).named

pub report_accepted-requires : goal.report_accepted-requires
report_accepted-requires g c =
    let found = subst (Finds style_judging (g.S.Source.left c.args.source.now) (g.S.Source.left c.examine.new.source)) c.in-Accepted.is c.in_ok-line.ensures.found in
    (judge_scan found.0, found.3)
