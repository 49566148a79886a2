use Rattle.pp_kind.specs.Object.{rules_of}
use Rattle.pp_laws_summary.proofs.SummaryRuns.{decided}
use Rattle.pp_laws_summary.proofs.summaries_decide.Goals as goal

pub returns : goal.returns
returns g v = λ shape style has place part tells. decided style has (rules_of g.S.Spec.object shape) place part tells
