use Rattle.std.proofs.Common.{ℕ, ◌+◌, List, None, ap, subst, sym, ◌∙◌}
use Rattle.pp_core.specs.declared.step.Step.{Step as StepOf}
use Rattle.pp_objects.specs.declared.act.Op.{Op}
use Rattle.pp_judge.specs.Running.{IsRunning}
use Rattle.pp_format_write.specs.Headers.{rules_header}
use Rattle.pp_styles.specs.Meanings.{meanings}
use Rattle.pp_cmd_drill.specs.Reports.{drill_scan}
use Rattle.pp_cmd_drill.proofs.Driving.{asked, counted_least, counted_most, is_running}
use Rattle.pp_cmd_drill.proofs.command.machine_behind.Goals as goal

pub returns-clause-running : goal.returns-clause-running
returns-clause-running g c =
    let list_is = ap (λ (l : List (StepOf Op)). meanings l) c.deref.ensures.value ∙ c.in_ok-steps.ensures in
    subst (λ m. IsRunning (drill_scan c.args.n) (record { header = rules_header c.in_ok-catalog.catalog None; lines = c.count-count.result + 1; begins = c.args.n }) m) (sym c.into_machine.ensures)
    (is_running c.args.n c.requires.some c.requires.few c.args.ticks.now c.do_steps.new.ticks c.in_ok-machine-2.machine c.in_ok-machine-2._halt c.in_ok-machine.machine (meanings c.deref.result.now) list_is c.in_ok-machine.ensures c.in_ok-machine-2.ensures.drives
    c.in_ok-catalog.catalog (c.count-count.result + 1) c.in_ok-catalog.ensures (ap (λ (k : ℕ). k + 1) c.count-count.ensures.count))

pub returns-clause-least : goal.returns-clause-least
returns-clause-least g c =
    let list_is = ap (λ (l : List (StepOf Op)). meanings l) c.deref.ensures.value ∙ c.in_ok-steps.ensures in
    counted_least c.args.n c.requires.some c.requires.few c.args.ticks.now c.do_steps.new.ticks c.in_ok-machine-2.machine c.in_ok-machine-2._halt c.in_ok-machine.machine (meanings c.deref.result.now) list_is c.in_ok-machine.ensures c.in_ok-machine-2.ensures.drives

pub returns-clause-most : goal.returns-clause-most
returns-clause-most g c =
    let list_is = ap (λ (l : List (StepOf Op)). meanings l) c.deref.ensures.value ∙ c.in_ok-steps.ensures in
    counted_most c.args.n c.requires.some c.requires.few c.args.ticks.now c.do_steps.new.ticks c.in_ok-machine.machine (meanings c.deref.result.now) list_is c.in_ok-machine.ensures c.do_steps.ensures.most

pub returns-in_err-machine-2-clause-most : goal.returns-in_err-machine-2-clause-most
returns-in_err-machine-2-clause-most g c =
    let list_is = ap (λ (l : List (StepOf Op)). meanings l) c.deref.ensures.value ∙ c.in_ok-steps.ensures in
    counted_most c.args.n c.requires.some c.requires.few c.args.ticks.now c.do_steps.new.ticks c.in_ok-machine.machine (meanings c.deref.result.now) list_is c.in_ok-machine.ensures c.do_steps.ensures.most

pub do_steps-requires-clause-asked : goal.do_steps-requires-clause-asked
do_steps-requires-clause-asked g c =
    let list_is = ap (λ (l : List (StepOf Op)). meanings l) c.deref.ensures.value ∙ c.in_ok-steps.ensures in
    asked c.args.n (meanings c.deref.result.now) c.in_ok-machine.machine c.requires.few list_is c.in_ok-machine.ensures
