use Rattle.std.proofs.Common.{arith}
use Rattle.std.proofs.lemmas.Result.{IfOk-weaker}
use Rattle.pp_records.specs.Records.{record_meaning}
use Rattle.pp_cmd_judge.proofs.BoostedJudging.{asked, counts_most, few, takes}
use Rattle.pp_cmd_judge.proofs.RunJudging.{ok_both}
use Rattle.pp_cmd_judge.proofs.boosted.QuickObjectsEngine.take_record.Goals as goal

pub take-requires-clause-asked : goal.take-requires-clause-asked
take-requires-clause-asked g c = asked c.args.self (record_meaning c.args.recorded.now) c.requires

pub take-requires-clause-few : goal.take-requires-clause-few
take-requires-clause-few g c = let small = few c.args.self (record_meaning c.args.recorded.now) c.requires in omega (arith, small)

pub returns-clause-takes : goal.returns-clause-takes
returns-clause-takes g c = IfOk-weaker c.take.result _ _
    (λ r k. takes c.args.self (record_meaning c.args.recorded.now) c.args.ticks.now c.take.new.ticks c.take.ensures.bound r.1 r.0 c.requires k.0.0 k.0.1 k.1 c.take.ensures.rises)
    (ok_both c.take.result _ _ (ok_both c.take.result _ _ c.take.ensures.takes c.take.ensures.shape) c.take.ensures.cost)

pub returns-clause-most : goal.returns-clause-most
returns-clause-most g c = counts_most c.args.self (record_meaning c.args.recorded.now) c.args.ticks.now c.take.new.ticks c.take.ensures.bound
