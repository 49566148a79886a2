-- Meaning: what a sink has sent on.
use Rattle.std.specs.Prelude.{◌≡◌, ℕ, List, Option, None, Some}

-- If the sink says what it sent, that is all it holds.
abbrev pub SendsAll : Option (List ℕ) → Option (List ℕ) → Option (List ℕ) → Type 0
SendsAll None new held = Unit {0}
SendsAll (Some xs) None held = ⊥
SendsAll (Some xs) (Some ys) held = held ≡ Some ys
