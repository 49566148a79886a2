use Rattle.pp_kind.specs.Object.{rules_of}
use Rattle.pp_kind.proofs.Places.{tells_states}
use Rattle.pp_laws_summary.proofs.Placed.{parts_of}
use Rattle.pp_laws_locality.proofs.RunFailures.{locals}
use Rattle.pp_laws_locality.proofs.placed_runs_are_local.Goals as goal

pub returns : goal.returns
returns g v = λ shape style has.
    locals style has (rules_of g.S.Spec.object shape) g.S.Placed.place_of
    (parts_of g.S.Spec.object g.S.Placed.place_of g.S.Placed.SameAt g.met.S.Spec.lawful g.met.S.Placed.placed shape)
    (tells_states g.S.Spec.object g.met.S.Spec.lawful shape)
