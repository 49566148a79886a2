use Rattle.pp_kind.specs.Object.{rules_of}
use Rattle.pp_laws_summary.proofs.FailingRuns.{finds}
use Rattle.pp_laws_summary.proofs.summaries_find_failures.Goals as goal

pub returns : goal.returns
returns g v = λ shape style has place part tells. finds (rules_of g.S.Spec.object shape) place part tells style has
