-- Proof machinery: what the fields of `Lines` keep.
use Rattle.std.specs.Prelude.{◌≡◌, ◌≤◌, ◌+◌, ℕ, List, [], ◌∷◌, length, Bool, false, Option, Some}
use Rattle.std.specs.Prelude.{None}
use Rattle.pp_input.specs.declared.reach.Reach.{Reach}
use Rattle.pp_input.specs.Reaches.{IsReach}

-- an item, if there is one
abbrev pub listed : Option (List ℕ) → List (List ℕ)
listed None = []
listed (Some line) = line ∷ []

-- no line more is held or was handed out than ended, and none above the limit
pub record IsCounted (whole : List (List ℕ)) (last : Option (List ℕ)) (rest : List ℕ)
    (handed : ℕ) (reach : Reach) (closed : Bool) : Type 0 where
  pub reached : IsReach reach
  pub column : length rest ≤ reach.column
  pub ahead : closed ≡ false → (handed + length whole ≤ reach.lines) × (last ≡ None)
  pub room : handed + length whole + length (listed last) ≤ reach.limits.lines
