use Rattle.pp_laws_evidence.proofs.Runs.{has_evidence}
use Rattle.pp_laws_evidence.proofs.summaries_have_evidence.Goals as goal

pub returns : goal.returns
returns g v = λ shape style has. has_evidence g.S.Spec.object g.S.Placed.place_of g.S.Placed.SameAt g.met.S.Spec.lawful g.met.S.Placed.placed shape style has
