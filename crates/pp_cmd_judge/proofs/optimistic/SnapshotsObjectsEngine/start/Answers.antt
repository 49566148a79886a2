use Rattle.std.proofs.lemmas.Result.{IfOk-weaker}
use Rattle.pp_cmd_judge.specs.Optimistic.{StartsSnapshots}
use Rattle.pp_cmd_judge.proofs.OptimisticJudging.{begun_again_most, begun_most, started}
use Rattle.pp_cmd_judge.proofs.optimistic.SnapshotsObjectsEngine.start.Goals as goal
use Rattle.std.proofs.Common.{subst}

pub returns-clause-starts : goal.returns-clause-starts
returns-clause-starts g c = IfOk-weaker c.start_snapshots.result _ _ (λ r s. started c.args.header.now c.requires.style r.1 r.0 s) c.start_snapshots.ensures.starts

pub returns-clause-most : goal.returns-clause-most
returns-clause-most g c = λ line. begun_most line c.args.header.now c.args.ticks.now c.start_snapshots.new.ticks c.start_snapshots.ensures.bound

pub returns-clause-again : goal.returns-clause-again
returns-clause-again g c =
    let header = c.args.header.now in
    IfOk-weaker c.start_snapshots.result _ _
    (λ r s bad line then again. begun_again_most line header c.args.ticks.now c.start_snapshots.new.ticks r.0 then (subst (λ good. StartsSnapshots header good r.0) bad s) c.requires.readable c.start_snapshots.ensures.bound again)
    c.start_snapshots.ensures.starts
