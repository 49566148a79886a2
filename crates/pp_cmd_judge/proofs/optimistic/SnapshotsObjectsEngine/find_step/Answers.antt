use Rattle.std.proofs.Common.{arith}
use Rattle.std.proofs.lemmas.Result.{IfOk-weaker}
use Rattle.pp_records.specs.Records.{record_meaning}
use Rattle.pp_cmd_judge.proofs.OptimisticJudging.{asked, few, finds}
use Rattle.pp_cmd_judge.proofs.optimistic.SnapshotsObjectsEngine.find_step.Goals as goal

pub find_conflict-requires-clause-asked : goal.find_conflict-requires-clause-asked
find_conflict-requires-clause-asked g c = asked c.args.self (record_meaning c.args.recorded.now) c.requires.may

pub find_conflict-requires-clause-few : goal.find_conflict-requires-clause-few
find_conflict-requires-clause-few g c = let small = few c.args.self (record_meaning c.args.recorded.now) c.requires.may in omega (arith, small)

pub returns-clause-found : goal.returns-clause-found
returns-clause-found g c = IfOk-weaker c.find_conflict.result _ _ (λ x is. finds c.args.self (record_meaning c.args.recorded.now) x is) c.find_conflict.ensures.found
