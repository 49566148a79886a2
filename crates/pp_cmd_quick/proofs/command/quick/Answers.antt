use Rattle.std.proofs.Common.{ℕ, List, subst}
use Rattle.pp_judge.specs.Findings.{Finds, RisesAtLeast}
use Rattle.pp_judge.specs.Inputs.{scan}
use Rattle.pp_input_reader.proofs.Takers.{taken_all}
use Rattle.pp_core.specs.declared.status.Status.TheVariants as statuses
use Rattle.pp_cmd_quick.specs.Decisions.{IsQuick}
use Rattle.pp_cmd_quick.specs.Taking.{AreGood, quick_judging}
use Rattle.pp_cmd_quick.proofs.Concluding.{accepted_told, failed_of, faulty_told, good_of, no_serial, rejected_told, serial_least, serial_most}
use Rattle.pp_cmd_quick.proofs.command.quick.Goals as goal

pub returns-in_ok-text-in-Fault-clause-output : goal.returns-in_ok-text-in-Fault-clause-output
returns-in_ok-text-in-Fault-clause-output g c = λ bytes is.
    let found = subst (Finds quick_judging (g.S.Source.left c.args.source.now) (g.S.Source.left c.examine.new.source)) c.in-Fault.is c.in_ok-line.ensures.found in
    faulty_told bytes c.in-Fault.line c.in-Fault.cause c.in_ok-text-in-Fault.text (found bytes is) c.in_ok-text-in-Fault.ensures

pub returns-in_ok-text-in-Rejected-clause-output : goal.returns-in_ok-text-in-Rejected-clause-output
returns-in_ok-text-in-Rejected-clause-output g c = λ bytes is.
    let old = g.S.Source.left c.args.source.now in
    let new = g.S.Source.left c.examine.new.source in
    let text = c.in_ok-text-in-Rejected.text in
    let found = subst (Finds quick_judging old new) c.in-Rejected.is c.in_ok-line.ensures.found in
    subst (λ (bs : List ℕ). IsQuick bs statuses.Rejected text) (taken_all old new found.0 bytes found.1 found.2 is)
    (rejected_told found.0 c.in-Rejected._tally c.in-Rejected.failed.line text (failed_of (scan found.0) c.in-Rejected._tally c.in-Rejected.failed found.3) c.in_ok-text-in-Rejected.ensures)

pub returns-in_ok-text-in-Accepted-clause-output : goal.returns-in_ok-text-in-Accepted-clause-output
returns-in_ok-text-in-Accepted-clause-output g c = λ bytes is.
    let old = g.S.Source.left c.args.source.now in
    let new = g.S.Source.left c.examine.new.source in
    let text = c.in_ok-text-in-Accepted.text in
    let found = subst (Finds quick_judging old new) c.in-Accepted.is c.in_ok-line.ensures.found in
    subst (λ (bs : List ℕ). IsQuick bs statuses.Accepted text) (taken_all old new found.0 bytes found.1 found.2 is)
    (let good = good_of (scan found.0) c.in-Accepted.tally c.in-Accepted.judge found.3 in
    accepted_told found.0 c.in-Accepted.tally c.in-Accepted.judge.quick text good (c.in_ok-text-in-Accepted.ensures.report (scan found.0) good))

-- ---- what the counter shows

pub returns-in_ok-text-in-Fault-clause-most : goal.returns-in_ok-text-in-Fault-clause-most
returns-in_ok-text-in-Fault-clause-most g c = λ bytes is. no_serial (scan bytes) c.args.ticks.now c.examine.new.ticks (c.examine.ensures.most bytes is)

pub returns-in_err-text-in-Fault-clause-most : goal.returns-in_err-text-in-Fault-clause-most
returns-in_err-text-in-Fault-clause-most g c = λ bytes is. no_serial (scan bytes) c.args.ticks.now c.examine.new.ticks (c.examine.ensures.most bytes is)

pub returns-in_ok-text-in-Rejected-clause-most : goal.returns-in_ok-text-in-Rejected-clause-most
returns-in_ok-text-in-Rejected-clause-most g c = λ bytes is. no_serial (scan bytes) c.args.ticks.now c.examine.new.ticks (c.examine.ensures.most bytes is)

pub returns-in_err-text-in-Rejected-clause-most : goal.returns-in_err-text-in-Rejected-clause-most
returns-in_err-text-in-Rejected-clause-most g c = λ bytes is. no_serial (scan bytes) c.args.ticks.now c.examine.new.ticks (c.examine.ensures.most bytes is)

pub returns-in_err-line-clause-most : goal.returns-in_err-line-clause-most
returns-in_err-line-clause-most g c = λ bytes is. no_serial (scan bytes) c.args.ticks.now c.examine.new.ticks (c.examine.ensures.most bytes is)

pub returns-in_ok-text-in-Accepted-clause-most : goal.returns-in_ok-text-in-Accepted-clause-most
returns-in_ok-text-in-Accepted-clause-most g c = λ bytes is.
    let old = g.S.Source.left c.args.source.now in
    let new = g.S.Source.left c.examine.new.source in
    let tally = c.in-Accepted.tally in
    let quick = c.in-Accepted.judge.quick in
    let found = subst (Finds quick_judging old new) c.in-Accepted.is c.in_ok-line.ensures.found in
    let good = subst (λ (bs : List ℕ). AreGood (scan bs) tally quick) (taken_all old new found.0 bytes found.1 found.2 is) (good_of (scan found.0) tally c.in-Accepted.judge found.3) in
    serial_most (scan bytes) tally quick good c.args.ticks.now c.examine.new.ticks c.report_accepted.new.ticks (c.examine.ensures.most bytes is) c.report_accepted.ensures.bound

pub returns-in_err-text-in-Accepted-clause-most : goal.returns-in_err-text-in-Accepted-clause-most
returns-in_err-text-in-Accepted-clause-most g c = λ bytes is.
    let old = g.S.Source.left c.args.source.now in
    let new = g.S.Source.left c.examine.new.source in
    let tally = c.in-Accepted.tally in
    let quick = c.in-Accepted.judge.quick in
    let found = subst (Finds quick_judging old new) c.in-Accepted.is c.in_ok-line.ensures.found in
    let good = subst (λ (bs : List ℕ). AreGood (scan bs) tally quick) (taken_all old new found.0 bytes found.1 found.2 is) (good_of (scan found.0) tally c.in-Accepted.judge found.3) in
    serial_most (scan bytes) tally quick good c.args.ticks.now c.examine.new.ticks c.report_accepted.new.ticks (c.examine.ensures.most bytes is) c.report_accepted.ensures.bound

pub returns-in_ok-text-in-Rejected-clause-least : goal.returns-in_ok-text-in-Rejected-clause-least
returns-in_ok-text-in-Rejected-clause-least g c = λ decided bytes is.
    subst (λ finding. RisesAtLeast quick_judging (scan bytes) finding c.args.ticks.now c.examine.new.ticks) c.in-Rejected.is (c.in_ok-line.ensures.least bytes is)

pub returns-in_ok-text-in-Accepted-clause-least : goal.returns-in_ok-text-in-Accepted-clause-least
returns-in_ok-text-in-Accepted-clause-least g c = λ decided bytes is.
    let old = g.S.Source.left c.args.source.now in
    let new = g.S.Source.left c.examine.new.source in
    let tally = c.in-Accepted.tally in
    let quick = c.in-Accepted.judge.quick in
    let found = subst (Finds quick_judging old new) c.in-Accepted.is c.in_ok-line.ensures.found in
    let good = subst (λ (bs : List ℕ). AreGood (scan bs) tally quick) (taken_all old new found.0 bytes found.1 found.2 is) (good_of (scan found.0) tally c.in-Accepted.judge found.3) in
    let least = subst (λ finding. RisesAtLeast quick_judging (scan bytes) finding c.args.ticks.now c.examine.new.ticks) c.in-Accepted.is (c.in_ok-line.ensures.least bytes is) in
    serial_least (scan bytes) tally quick good c.args.ticks.now c.examine.new.ticks c.report_accepted.new.ticks least c.in_ok-text-in-Accepted.ensures.cost

pub report_accepted-requires : goal.report_accepted-requires
report_accepted-requires g c =
    let found = subst (Finds quick_judging (g.S.Source.left c.args.source.now) (g.S.Source.left c.examine.new.source)) c.in-Accepted.is c.in_ok-line.ensures.found in
    (scan found.0, good_of (scan found.0) c.in-Accepted.tally c.in-Accepted.judge found.3)
