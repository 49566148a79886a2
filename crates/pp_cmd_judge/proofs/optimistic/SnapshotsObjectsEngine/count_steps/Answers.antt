use Rattle.std.proofs.Common.{arith}
use Rattle.pp_records.specs.Records.{record_meaning}
use Rattle.pp_cmd_judge.proofs.OptimisticJudging.{few, has_steps}
use Rattle.pp_cmd_judge.proofs.optimistic.SnapshotsObjectsEngine.count_steps.Goals as goal

pub steps-requires-clause-few : goal.steps-requires-clause-few
steps-requires-clause-few c = let small = few c.args.self.now (record_meaning c.args.recorded.now) c.requires in omega (arith, small)

pub returns-clause-count : goal.returns-clause-count
returns-clause-count c = has_steps c.args.self.now (record_meaning c.args.recorded.now) c.steps.result c.steps.ensures.count

pub returns-clause-bound : goal.returns-clause-bound
returns-clause-bound c = let small = few c.args.self.now (record_meaning c.args.recorded.now) c.requires in omega (arith, small, c.steps.ensures.bound)
