use Rattle.pp_kind.proofs.Lists.{commuting_swap}
use Rattle.pp_kind.proofs.spec.commuting_operations_swap.Goals as goal

pub returns : goal.returns
returns g c = commuting_swap g.S.Spec.object
