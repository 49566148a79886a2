use Rattle.pp_snapshots.proofs.Runs.{takes_runs}
use Rattle.pp_snapshots.proofs.laws.taken_law.Goals as goal

pub returns : goal.returns
returns g c = λ ks h. takes_runs g.S.Spec.object g.S.Placed.place_of g.S.Placed.SameAt g.met.S.Spec.lawful g.met.S.Placed.placed ks h
