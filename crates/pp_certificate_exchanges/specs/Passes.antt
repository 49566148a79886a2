-- Proof machinery: a route as the work is done: for each entry of the target in turn, how many
-- others it passes.
use Rattle.std.specs.Prelude.{ℕ, suc, ◌==◌, cond, List, [], ◌∷◌, ◌++◌}
use Rattle.pp_model.specs.Object.{Item}
use Rattle.pp_certificate_exchanges.specs.Exchanges.{position, down_to}

-- the list without the entry of this id
abbrev pub without : {Op : Type 0} → ℕ → List (Item Op) → List (Item Op)
without i [] = []
without i (e ∷ x) = cond (e.id == i) x (e ∷ without i x)

-- for each entry of the target, how many of the entries left it passes
abbrev pub passes : {Op : Type 0} → List (Item Op) → List (Item Op) → List ℕ
passes x [] = []
passes x (e ∷ y) = position e.id x ∷ passes (without e.id x) y

-- the exchanges of entries that are drawn to the positions j, j + 1, .. past so many others each
abbrev pub route_passing : ℕ → List ℕ → List ℕ
route_passing j [] = []
route_passing j (n ∷ ns) = down_to j n ++ route_passing (suc j) ns
