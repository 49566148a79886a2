use Rattle.std.proofs.Common.{[], subst, sym}
use Rattle.pp_machine.specs.declared.machine.Outcome.TheVariants.{Done}
use Rattle.pp_judge.specs.Running.{HasStarted}
use Rattle.pp_cmd_judge.proofs.DrivenJudging.{begun_bad, begun_good, begun_most, begun_still}
use Rattle.pp_cmd_judge.proofs.RunJudging.{begun_bad_least, begun_good_least}
use Rattle.pp_cmd_judge.proofs.driven.DrivenMachine.begin.Goals as goal

-- ---- a good start

pub returns-in_ok-machine-in-Done-clause-judged : goal.returns-in_ok-machine-in-Done-clause-judged
returns-in_ok-machine-in-Done-clause-judged g c =
    let header = c.args.header.now in
    let done = subst (λ o. HasStarted header o c.in_ok-machine.machine) c.in-Done.is c.in_ok-machine.ensures.starts in
    let started = subst (λ m. HasStarted header Done m) (sym c.in_ok-machine-in-Done.ensures) done in
    begun_good c.args.line header c.requires.style (record { front = c.in_ok-front.front; machine = c.in_ok-machine-in-Done.machine }) c.in_ok-front.ensures started

pub returns-in_ok-machine-in-Done-clause-least : goal.returns-in_ok-machine-in-Done-clause-least
returns-in_ok-machine-in-Done-clause-least g c = let header = c.args.header.now in begun_good_least header.style c.args.line header c.args.ticks.now c.start_machine.new.ticks c.start_machine.ensures.rises

pub returns-in_ok-machine-in-Done-clause-most : goal.returns-in_ok-machine-in-Done-clause-most
returns-in_ok-machine-in-Done-clause-most g c = begun_most c.args.line c.args.header.now c.requires.style c.args.ticks.now c.start_machine.new.ticks c.start_machine.ensures.bound

pub returns-in_err-machine-in-Done-clause-most : goal.returns-in_err-machine-in-Done-clause-most
returns-in_err-machine-in-Done-clause-most g c = begun_most c.args.line c.args.header.now c.requires.style c.args.ticks.now c.start_machine.new.ticks c.start_machine.ensures.bound

-- ---- a bad one

pub returns-in-False-clause-judged : goal.returns-in-False-clause-judged
returns-in-False-clause-judged g c =
    let header = c.args.header.now in
    let started = subst (λ o. HasStarted header o c.in_ok-machine.machine) c.in-False.is c.in_ok-machine.ensures.starts in
    begun_bad c.args.line header c.requires.style c.in-False.criterion c.in-False.detail c.in_ok-machine.machine started

pub returns-in-False-clause-least : goal.returns-in-False-clause-least
returns-in-False-clause-least g c = let header = c.args.header.now in begun_bad_least header.style c.args.line header c.args.ticks.now c.start_machine.new.ticks c.start_machine.ensures.rises

pub returns-in-False-clause-most : goal.returns-in-False-clause-most
returns-in-False-clause-most g c = begun_most c.args.line c.args.header.now c.requires.style c.args.ticks.now c.start_machine.new.ticks c.start_machine.ensures.bound

-- ---- no memory

pub returns-in_err-machine-clause-most : goal.returns-in_err-machine-clause-most
returns-in_err-machine-clause-most g c = begun_most c.args.line c.args.header.now c.requires.style c.args.ticks.now c.start_machine.new.ticks c.start_machine.ensures.bound

pub returns-in_err-front-clause-most : goal.returns-in_err-front-clause-most
returns-in_err-front-clause-most g c = begun_still c.args.line c.args.header.now c.requires.style c.args.ticks.now
