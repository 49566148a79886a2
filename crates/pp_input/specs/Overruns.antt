-- Meaning: the first byte of an input that passes a limit, and the lines before it.
use Rattle.std.specs.Prelude.{ℕ, ◌-◌, List, [], ◌∷◌, ◌++◌, length, take, Option, Some, None, Result}
use Rattle.std.specs.Prelude.{Ok, Err}
use Rattle.std.specs.Option.{option_or}
use Rattle.pp_input.specs.declared.limits.Limits.{Limits}
use Rattle.pp_input.specs.declared.reach.Reach.{Reach}
use Rattle.pp_input.specs.declared.fault.LineFault.{LineFault}
use Rattle.pp_input.specs.declared.fault.LineFault.TheVariants.{TooLong, TooManyLines, LineTooLong}
use Rattle.pp_input.specs.declared.fault.LineFault.TheVariants.{OutOfMemory}
use Rattle.pp_input.specs.Lines.{NumberedLine, ended, rest, ended_lines, numbered_lines}
use Rattle.pp_input.specs.Reaches.{passed, within_from, start}

-- how far bytes reach: how many they are, how many lines they end, and how many bytes follow the
-- last end; and the limits
abbrev pub reach_of : Limits → List ℕ → Reach
reach_of limits bytes = record {
  limits = limits;
  bytes = length bytes;
  lines = length (ended bytes);
  column = length (rest bytes);
}

-- the limit that the first of the bytes to pass one passes, if front is before the bytes
abbrev pub overrun_behind : Limits → List ℕ → List ℕ → Option LineFault
overrun_behind limits front [] = None
overrun_behind limits front (byte ∷ bytes) = option_or (passed (reach_of limits front) byte)
    (overrun_behind limits (front ++ byte ∷ []) bytes)

-- the limit that an input passes first, with the line of the byte that passes it
abbrev pub overrun : Limits → List ℕ → Option LineFault
overrun limits bytes = overrun_behind limits [] bytes

-- the bytes before that byte
abbrev pub within : Limits → List ℕ → List ℕ
within limits bytes = within_from (start limits) bytes

-- the line of a fault; out of memory has none
abbrev pub line_of : LineFault → ℕ
line_of (TooLong line) = line
line_of (TooManyLines line) = line
line_of (LineTooLong line) = line
line_of OutOfMemory = 0

-- the lines, which are numbered from 1, before that of a fault
abbrev pub lines_before : Option LineFault → List NumberedLine → List NumberedLine
lines_before None lines = lines
lines_before (Some fault) lines = take (line_of fault - 1) lines

-- the lines of an input that are examined: those before the line that passes a limit
abbrev pub scanned_lines : Limits → List ℕ → List NumberedLine
scanned_lines limits bytes = lines_before (overrun limits bytes) (numbered_lines bytes)

-- those of them that no further byte can change
abbrev pub early_lines : Limits → List ℕ → List NumberedLine
early_lines limits bytes = lines_before (overrun limits bytes) (ended_lines bytes)

-- the result of a feed, if this is the limit that was passed
abbrev pub answer_of : Option LineFault → Result Unit LineFault
answer_of None = Ok tt
answer_of (Some fault) = Err fault
