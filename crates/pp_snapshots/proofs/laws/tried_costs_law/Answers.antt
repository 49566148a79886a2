use Rattle.pp_kind.specs.Object.{rules_of}
use Rattle.pp_snapshots.proofs.Sums.{costs_of_tried}
use Rattle.pp_snapshots.proofs.laws.tried_costs_law.Goals as goal

pub returns : goal.returns
returns g v = λ shape place part silent. costs_of_tried (rules_of g.S.Spec.object shape) place part silent
