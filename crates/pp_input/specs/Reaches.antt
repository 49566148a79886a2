-- Meaning: how far an input may go.
use Rattle.std.specs.Prelude.{◌≡◌, ℕ, ◌+◌, ◌≤◌, ◌<◌, List, [], ◌∷◌, ◌++◌, take, drop, ◌==◌, ◌&&◌}
use Rattle.std.specs.Prelude.{not, nat_le, is_some, Option, Some, None, if◌then◌else◌}
use Rattle.std.specs.Option.{option_or}
use Rattle.pp_input.specs.declared.limits.Limits.{Limits}
use Rattle.pp_input.specs.declared.reach.Reach.{Reach}
use Rattle.pp_input.specs.declared.fault.LineFault.{LineFault}
use Rattle.pp_input.specs.declared.fault.LineFault.TheVariants.{TooLong, TooManyLines, LineTooLong}
use Rattle.pp_input.specs.Limits.{CanCount}

-- the limit that a byte passes, if the bytes before it reach to here: that of the bytes, of the
-- lines, or of a line's bytes, the first of them if it passes several
abbrev pub passed : Reach → ℕ → Option LineFault
passed at byte =
    if nat_le at.limits.bytes at.bytes then Some (TooLong (at.lines + 1)) else
    (if nat_le at.limits.lines at.lines then Some (TooManyLines (at.lines + 1)) else
    (if not (byte == 10) && nat_le at.limits.line_bytes at.column
    then Some (LineTooLong (at.lines + 1)) else None))

-- the state of the input after a byte
abbrev pub past : Reach → ℕ → Reach
past at byte =
    if byte == 10
    then record at { bytes = at.bytes + 1; lines = at.lines + 1; column = 0 }
    else record at { bytes = at.bytes + 1; column = at.column + 1 }

-- the first limit that is passed by bytes that begin here
abbrev pub overrun_from : Reach → List ℕ → Option LineFault
overrun_from at [] = None
overrun_from at (byte ∷ bytes) = option_or (passed at byte) (overrun_from (past at byte) bytes)

-- the bytes before the one that passes it
abbrev pub within_from : Reach → List ℕ → List ℕ
within_from at [] = []
within_from at (byte ∷ bytes) =
    if is_some (passed at byte) then [] else byte ∷ within_from (past at byte) bytes

-- the state of the input after them
abbrev pub reach_from : Reach → List ℕ → Reach
reach_from at [] = at
reach_from at (byte ∷ bytes) =
    if is_some (passed at byte) then at else reach_from (past at byte) bytes

-- no byte of an input with these limits was read
abbrev pub start : Limits → Reach
start limits = record { limits = limits; bytes = 0; lines = 0; column = 0 }

-- a line of so many bytes, and its end, pass no limit
abbrev pub HasRoom : Reach → ℕ → Type 0
HasRoom at len =
    (at.bytes + len < at.limits.bytes) × (at.lines < at.limits.lines)
    × (at.column + len ≤ at.limits.line_bytes)

-- no byte follows the last line that may be, and the line after it has a number
abbrev pub IsReach : Reach → Type 0
IsReach at = (at.lines ≤ at.limits.lines) × (0 < at.column → at.lines < at.limits.lines)
    × CanCount at.limits

-- so many bytes pass no limit, and reach to there
pub record IsSkipped (at : Reach) (bytes : List ℕ) (n : ℕ) (to : Reach) : Type 0 where
  pub within : within_from at bytes ≡ take n bytes ++ within_from to (drop n bytes)
  pub reach : reach_from at bytes ≡ reach_from to (drop n bytes)
  pub overrun : overrun_from at bytes ≡ overrun_from to (drop n bytes)
