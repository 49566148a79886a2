use Rattle.pp_kind.proofs.Places.{unfitting_swap}
use Rattle.pp_kind.proofs.spec.unfitting_operations_swap.Goals as goal

pub returns : goal.returns
returns g c = unfitting_swap g.S.Spec.object g.met.S.Spec.lawful
