-- Proof machinery: counts with the sums of neighbours above them.
use Rattle.std.specs.Prelude.{◌≡◌, ℕ, ◌+◌, ◌-◌, List, [], ◌∷◌, slice_set, slice_index}
use Rattle.pp_certificate_exchanges.specs.declared.tower.Tower.{Tower}
use Rattle.pp_certificate_exchanges.specs.declared.tower.Tower.TheVariants.{Top, Level'}

-- the sums of neighbours
abbrev pub pairs : List ℕ → List ℕ
pairs [] = []
pairs (a ∷ []) = a ∷ []
pairs (a ∷ b ∷ x) = (a + b) ∷ pairs x

-- the counts at the bottom
abbrev pub base : Tower → List ℕ
base (Top n) = n ∷ []
base (Level' counts p above) = counts.items

-- Each level has the sums of the level below.
abbrev pub IsSummed : Tower → Type 0
IsSummed (Top n) = Unit {0}
IsSummed (Level' counts p above) = (base above ≡ pairs counts.items) × IsSummed above

-- one taken from the count at this place of the row
abbrev pub one_less : List ℕ → ℕ → List ℕ
one_less x i = slice_set x i (slice_index x i - 1)
