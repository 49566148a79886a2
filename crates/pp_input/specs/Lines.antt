-- Meaning: which lines some bytes are.
use Rattle.std.specs.Prelude.{ℕ, ◌+◌, ◌-◌, Bool, ◌==◌, ◌||◌, List, [], ◌∷◌, ◌++◌, length, take, map}
use Rattle.std.specs.Prelude.{slice_index, if◌then◌else◌}
use Rattle.std.specs.List.{list_all}

-- the pieces that a byte 10 ends, if front is before the bytes
abbrev pub ended_behind : List ℕ → List ℕ → List (List ℕ)
ended_behind front [] = []
ended_behind front (byte ∷ bytes) =
    if byte == 10 then front ∷ ended_behind [] bytes else ended_behind (front ++ byte ∷ []) bytes

-- the bytes after the last byte 10, if front is before the bytes
abbrev pub rest_behind : List ℕ → List ℕ → List ℕ
rest_behind front [] = front
rest_behind front (byte ∷ bytes) =
    if byte == 10 then rest_behind [] bytes else rest_behind (front ++ byte ∷ []) bytes

-- the pieces that a byte 10 ends, without it
abbrev pub ended : List ℕ → List (List ℕ)
ended bytes = ended_behind [] bytes

-- the bytes after the last byte 10
abbrev pub rest : List ℕ → List ℕ
rest bytes = rest_behind [] bytes

-- a rest that is not empty is a line
abbrev pub unended : List ℕ → List (List ℕ)
unended [] = []
unended (byte ∷ bytes) = (byte ∷ bytes) ∷ []

-- one byte 13 at the end is dropped
abbrev pub without_return : List ℕ → List ℕ
without_return line =
    if slice_index line (length line - 1) == 13 then take (length line - 1) line else line

-- a line and its number
abbrev pub NumberedLine : Type 0
NumberedLine = ℕ × List ℕ

-- lines with their numbers, from a first number on
abbrev pub numbered_from : ℕ → List (List ℕ) → List NumberedLine
numbered_from number [] = []
numbered_from number (line ∷ lines) = (number, line) ∷ numbered_from (number + 1) lines

-- lines with their numbers from 1, without a byte 13 at their end
abbrev pub numbered : List (List ℕ) → List NumberedLine
numbered lines = numbered_from 1 (map without_return lines)

-- the lines that a byte 10 ends, numbered
abbrev pub ended_lines : List ℕ → List NumberedLine
ended_lines bytes = numbered (ended bytes)

-- the lines of an input, numbered: those that a byte 10 ends, and then the rest, if it is not empty
abbrev pub numbered_lines : List ℕ → List NumberedLine
numbered_lines bytes = numbered (ended bytes ++ unended (rest bytes))

-- a line of spaces and tabs alone
abbrev pub blank : List ℕ → Bool
blank text = list_all (λ byte. byte == 32 || byte == 9) text
