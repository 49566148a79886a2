use Rattle.pp_records.specs.Records.{record_meaning}
use Rattle.pp_cmd_judge.proofs.RuleSteps.{one_step}
use Rattle.pp_cmd_judge.proofs.rules.RuleMachineEngine.count_steps.Goals as goal

pub returns-clause-count : goal.returns-clause-count
returns-clause-count c = one_step c.args.self.now (record_meaning c.args._recorded.now) c.requires.styled
