-- Meaning: how a count of faults or of refusals rises.
use Rattle.std.specs.Prelude.{◌≡◌, ℕ, List, length, ◌+◌, ◌^◌, ◌<◌, ◌-◌, min}

-- a count that is at the end of 64 bits counts as risen
abbrev pub HasRisen : ℕ → ℕ → Type 0
HasRisen old new = old < 2 ^ 64 - 1 → old < new

-- a write that takes nothing of some bytes is counted
abbrev pub CountsNothing : ℕ → List ℕ → ℕ → ℕ → Type 0
CountsNothing n bytes old new = n ≡ 0 → 0 < length bytes → HasRisen old new

-- a write of some bytes takes at least one of them, or there are none
abbrev pub TakesSome : ℕ → List ℕ → Type 0
TakesSome n bytes = n ≡ 0 → length bytes ≡ 0

-- one more, up to the end of 64 bits
abbrev pub counted : ℕ → ℕ
counted n = min (n + 1) (2 ^ 64 - 1)
