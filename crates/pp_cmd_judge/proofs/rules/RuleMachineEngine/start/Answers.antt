use Rattle.std.proofs.Common.{subst, sym}
use Rattle.pp_cmd_judge.specs.Engines.{Starts}
use Rattle.pp_cmd_judge.specs.Rules.{rules_engine}
use Rattle.pp_cmd_judge.proofs.RuleSteps.{begun_again_most, begun_most, started}
use Rattle.pp_cmd_judge.proofs.rules.RuleMachineEngine.start.Goals as goal

pub returns-clause-starts : goal.returns-clause-starts
returns-clause-starts g c =
    let header = c.args.header.now in
    subst (λ r. Starts rules_engine header r.1 r.0) (sym c.engine_after.ensures) (started header c.in_ok-machine.machine c.in_ok-machine.outcome c.requires.style c.in_ok-machine.ensures.starts)

pub returns-in_err-machine-clause-most : goal.returns-in_err-machine-clause-most
returns-in_err-machine-clause-most g c = λ line. begun_most line c.args.header.now c.args.ticks.now c.start_machine.new.ticks c.start_machine.ensures.bound

pub returns-clause-most : goal.returns-clause-most
returns-clause-most g c = λ line. begun_most line c.args.header.now c.args.ticks.now c.start_machine.new.ticks c.start_machine.ensures.bound

pub returns-clause-again : goal.returns-clause-again
returns-clause-again g c = λ bad line then again. begun_again_most line c.args.header.now c.args.ticks.now c.start_machine.new.ticks then c.start_machine.ensures.bound again
