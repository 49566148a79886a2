use Rattle.std.proofs.Common.{subst, sym}
use Rattle.pp_core.specs.Steps.{meaning}
use Rattle.pp_records.specs.Records.{record_meaning}
use Rattle.pp_cmd_judge.specs.Engines.{CanTake, CostsAtMost, Takes}
use Rattle.pp_cmd_judge.specs.Rules.{engine_after, rules_engine}
use Rattle.pp_cmd_judge.proofs.RuleSteps.{few, step_asked, steps_most, takes}
use Rattle.pp_cmd_judge.proofs.rules.RuleMachineEngine.take_record.Goals as goal

-- ---- what is asked

pub step_of-step-requires : goal.step_of-step-requires
step_of-step-requires g c = c.requires.styled

pub step-requires-clause-asked : goal.step-requires-clause-asked
step-requires-clause-asked g c = step_asked c.args.self (meaning c.step_of-step.result.now) (subst (λ r. CanTake rules_engine c.args.self r) c.step_of-step.ensures c.requires)

pub step-requires-clause-few : goal.step-requires-clause-few
step-requires-clause-few g c = few c.args.self (record_meaning c.args.recorded.now) c.requires

-- ---- what it costs

pub returns-in_err-machine-clause-most : goal.returns-in_err-machine-clause-most
returns-in_err-machine-clause-most g c =
    subst (λ r. CostsAtMost rules_engine c.args.self r c.args.ticks.now c.step.new.ticks) (sym c.step_of-step.ensures)
    (steps_most c.args.self (meaning c.step_of-step.result.now) c.args.ticks.now c.step.new.ticks c.step.ensures.bound)

pub returns-clause-most : goal.returns-clause-most
returns-clause-most g c =
    subst (λ r. CostsAtMost rules_engine c.args.self r c.args.ticks.now c.step.new.ticks) (sym c.step_of-step.ensures)
    (steps_most c.args.self (meaning c.step_of-step.result.now) c.args.ticks.now c.step.new.ticks c.step.ensures.bound)

-- ---- the step

pub returns-clause-takes : goal.returns-clause-takes
returns-clause-takes g c =
    let self = c.args.self in
    let now = c.args.ticks.now in
    let new = c.step.new.ticks in
    let machine = c.in_ok-machine.machine in
    let outcome = c.in_ok-machine.outcome in
    subst (λ r. Takes rules_engine self (record_meaning c.args.recorded.now) r.1 r.0 now new) (sym c.engine_after.ensures)
    (subst (λ r. Takes rules_engine self r (engine_after machine outcome).1 (engine_after machine outcome).0 now new) (sym c.step_of-step.ensures)
    (takes self (meaning c.step_of-step.result.now) now new machine outcome c.in_ok-machine.ensures.effect c.in_ok-machine.ensures.cost c.step.ensures.bound))
