use Rattle.std.proofs.Common.{subst, sym, ◌∙◌, ap}
use Rattle.pp_core.specs.Steps.{meaning}
use Rattle.pp_records.specs.Records.{record_meaning}
use Rattle.pp_violations.specs.Searches.{step_violation}
use Rattle.pp_cmd_judge.specs.Engines.{Finds}
use Rattle.pp_cmd_judge.specs.Rules.{rules_engine}
use Rattle.pp_cmd_judge.proofs.RuleSteps.{finds}
use Rattle.pp_cmd_judge.proofs.rules.RuleMachineEngine.find_step.Goals as goal

pub step_of-requires : goal.step_of-requires
step_of-requires g c = c.requires.may.styled

pub returns-clause-found : goal.returns-clause-found
returns-clause-found g c =
    let self = c.args.self in
    let r = record_meaning c.args.recorded.now in
    let s = meaning c.step_of.result.now in
    subst (λ x. Finds rules_engine self r x) (sym (c.at_step.ensures ∙ ap (λ rule. step_violation 0 rule c.in-Some.broken) c.rule_of-rule.ensures))
    (finds self r s c.in-Some.broken c.requires.refused c.step_of.ensures c.in-Some.is)
