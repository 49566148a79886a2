use Rattle.pp_kind.specs.Object.{rules_of}
use Rattle.pp_laws_summary.proofs.Parts.{swap_apart}
use Rattle.pp_laws_summary.proofs.parts_swap.Goals as goal

pub returns : goal.returns
returns g v = λ shape place part. swap_apart (rules_of g.S.Spec.object shape) place part
