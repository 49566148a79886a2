use Rattle.pp_kind.proofs.Places.{undone_behind}
use Rattle.pp_kind.proofs.spec.undone_behind_others.Goals as goal

pub returns : goal.returns
returns g c = undone_behind g.S.Spec.object g.S.Placed.place_of g.S.Placed.SameAt
    g.met.S.Spec.lawful g.met.S.Placed.placed
