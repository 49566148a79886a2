-- Meaning: the numbers at the addresses of a memory, of which those that are not 0 are kept.
use Rattle.std.specs.Prelude.{◌≢◌, ℤ, pos, if◌then◌else◌, Some, unwrap_or}
use Rattle.std.specs.Ordering.{int_eq, int_cmp}
use Rattle.std.specs.FinMap as map

-- the number at an address, which is 0 if none is kept
abbrev pub value_at : map.FinMap int_cmp ℤ → ℤ → ℤ
value_at m a = unwrap_or (map.get m a) (pos 0)

-- the memory with a number at an address
abbrev pub written : map.FinMap int_cmp ℤ → ℤ → ℤ → map.FinMap int_cmp ℤ
written m a v = if int_eq v (pos 0) then map.remove m a else map.insert m a v

-- no 0 is kept
abbrev pub HasNoZero : map.FinMap int_cmp ℤ → Type 0
HasNoZero m = (a : ℤ) → map.get m a ≢ Some (pos 0)
