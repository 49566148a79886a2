use Rattle.std.proofs.Common.{subst, sym}
use Rattle.pp_records.specs.Records.{record_meaning}
use Rattle.pp_snapshots.specs.Steps.{CountsAs}
use Rattle.pp_snapshots.proofs.steps.steps.Goals as goal

pub returns-in-Abort-clause-count : goal.returns-in-Abort-clause-count
returns-in-Abort-clause-count g c = subst (λ r. CountsAs g.S.Placed.place_of c.args.parts.now (record_meaning r) c.back_steps.result) (sym c.in-Abort.is) c.back_steps.ensures.abort

pub returns-in-Retry-clause-count : goal.returns-in-Retry-clause-count
returns-in-Retry-clause-count g c = subst (λ r. CountsAs g.S.Placed.place_of c.args.parts.now (record_meaning r) c.back_steps-in-Retry.result) (sym c.in-Retry.is) c.back_steps-in-Retry.ensures.retry

pub returns-in-Op-clause-count : goal.returns-in-Op-clause-count
returns-in-Op-clause-count g c = subst (λ r. CountsAs g.S.Placed.place_of c.args.parts.now (record_meaning r) c.op_steps.result) (sym c.in-Op.is) (c.op_steps.ensures.count c.in-Op.id)

pub returns-in-Commit-clause-count : goal.returns-in-Commit-clause-count
returns-in-Commit-clause-count g c = subst (λ r. CountsAs g.S.Placed.place_of c.args.parts.now (record_meaning r) c.commit_steps.result) (sym c.in-Commit.is) c.commit_steps.ensures.count
