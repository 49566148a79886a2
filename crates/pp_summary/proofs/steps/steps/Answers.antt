use Rattle.std.proofs.Common.{subst, sym}
use Rattle.pp_records.specs.Records.{record_meaning}
use Rattle.pp_summary.specs.Held.{HasSteps}
use Rattle.pp_summary.specs.Shown.{as_held}
use Rattle.pp_summary.proofs.steps.steps.Goals as goal

pub returns-in-Abort-clause-count : goal.returns-in-Abort-clause-count
returns-in-Abort-clause-count g c =
    subst (λ r. HasSteps g.S.Spec.object g.S.Placed.place_of (as_held g.S.Placed.place_of c.args.parts.now) (record_meaning r) c.back_steps.result) (sym c.in-Abort.is) c.back_steps.ensures.abort

pub returns-in-Retry-clause-count : goal.returns-in-Retry-clause-count
returns-in-Retry-clause-count g c =
    subst (λ r. HasSteps g.S.Spec.object g.S.Placed.place_of (as_held g.S.Placed.place_of c.args.parts.now) (record_meaning r) c.back_steps-in-Retry.result) (sym c.in-Retry.is) c.back_steps-in-Retry.ensures.retry
