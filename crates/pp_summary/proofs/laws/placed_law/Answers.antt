use Rattle.pp_summary.proofs.laws.placed_law.Goals as goal

pub returns : goal.returns
returns g c = λ shape. record { apart = λ a b n. g.met.S.Placed.placed.apart a b n shape }
