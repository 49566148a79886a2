use Rattle.pp_kind.proofs.spec.other_places_swap.Goals as goal

pub returns : goal.returns
returns g c = g.met.S.Placed.placed.apart
