-- Meaning: numbers that are kept for objects.
use Rattle.std.specs.Prelude.{ℕ, List, Option, None, Some, nat_eq}
use Rattle.std.specs.Map.{lookup}

-- what is kept, and 0 if nothing is
abbrev pub kept_count : Option ℕ → ℕ
kept_count None = 0
kept_count (Some n) = n

-- the number at an object
abbrev pub count_of : List (ℕ × ℕ) → ℕ → ℕ
count_of counts o = kept_count (lookup (nat_eq o) counts)
