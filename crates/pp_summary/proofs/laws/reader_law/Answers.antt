use Rattle.pp_summary.proofs.Reading.{reader}
use Rattle.pp_summary.proofs.HeldOf.{apart_of}
use Rattle.pp_summary.proofs.laws.reader_law.Goals as goal

pub returns : goal.returns
returns g c = λ ks h. reader g.S.Spec.object g.S.Placed.place_of (apart_of g.S.Spec.object g.S.Placed.place_of g.S.Placed.SameAt g.met.S.Placed.placed) ks h
