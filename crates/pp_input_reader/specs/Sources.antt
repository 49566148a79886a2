-- Meaning: what is said of the bytes of a source if they are known.
use Rattle.std.specs.Prelude.{◌≡◌, ℕ, List, Option, Some}

-- If the bytes are known, P is true of them.
abbrev pub WhereTold : Option (List ℕ) → (List ℕ → Type 0) → Type 0
WhereTold left P = (bytes : List ℕ) → left ≡ Some bytes → P bytes
