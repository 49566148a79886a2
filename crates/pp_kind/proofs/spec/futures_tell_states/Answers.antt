use Rattle.pp_kind.proofs.Places.{tells_states}
use Rattle.pp_kind.proofs.spec.futures_tell_states.Goals as goal

pub returns : goal.returns
returns g c = tells_states g.S.Spec.object g.met.S.Spec.lawful
