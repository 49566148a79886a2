use Rattle.std.proofs.lemmas.Result.{IfOk-weaker}
use Rattle.pp_cmd_judge.proofs.BoostedJudging.{begun_again_most, begun_most, started}
use Rattle.pp_cmd_judge.proofs.boosted.QuickObjectsEngine.start.Goals as goal

pub returns-clause-starts : goal.returns-clause-starts
returns-clause-starts g c = IfOk-weaker c.start_quick.result _ _ (λ r s. started c.args.header.now c.requires.style r.1 r.0 s) c.start_quick.ensures.starts

pub returns-clause-most : goal.returns-clause-most
returns-clause-most g c = λ line. begun_most line c.args.header.now c.args.ticks.now c.start_quick.new.ticks c.start_quick.ensures.bound

pub returns-clause-again : goal.returns-clause-again
returns-clause-again g c = IfOk-weaker c.start_quick.result _ _
    (λ r s bad line then again. begun_again_most line c.args.header.now c.args.ticks.now c.start_quick.new.ticks then c.start_quick.ensures.bound again)
    c.start_quick.ensures.starts
