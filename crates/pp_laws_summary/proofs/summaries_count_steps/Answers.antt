use Rattle.pp_kind.specs.Object.{rules_of}
use Rattle.pp_laws_summary.proofs.Counts.{counts}
use Rattle.pp_laws_summary.proofs.summaries_count_steps.Goals as goal

pub returns : goal.returns
returns g v = λ shape style has place part tells. counts (rules_of g.S.Spec.object shape) place part tells style has
