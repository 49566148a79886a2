-- Meaning: lines that are written one after another.
use Rattle.std.specs.Prelude.{◌≡◌, ◌≤◌, ℕ, ◌==◌, not, IsTrue, List, [], ◌∷◌, ◌++◌, length}
use Rattle.std.specs.List.{list_all}
use Rattle.pp_input.specs.declared.limits.Limits.{Limits}
use Rattle.pp_input.specs.Lines.{without_return}

-- the lines, each with a byte 10 after it
abbrev pub joined_lines : List (List ℕ) → List ℕ
joined_lines [] = []
joined_lines (line ∷ lines) = line ++ 10 ∷ joined_lines lines

-- Some bytes can be a line: none of them is a byte 10, and no byte 13 at their end is dropped.
pub record IsLine (line : List ℕ) : Type 0 where
  pub unbroken : IsTrue (list_all (λ byte. not (byte == 10)) line)
  pub kept : without_return line ≡ line

-- each of them can
abbrev pub AreLines : List (List ℕ) → Type 0
AreLines [] = Unit {0}
AreLines (line ∷ lines) = IsLine line × AreLines lines

-- none of them is too long
abbrev pub AreShort : Limits → List (List ℕ) → Type 0
AreShort limits [] = Unit {0}
AreShort limits (line ∷ lines) = (length line ≤ limits.line_bytes) × AreShort limits lines

-- The lines keep to the limits: they are not too many, none is too long, and with their ends they
-- have not too many bytes.
pub record AreAllowed (limits : Limits) (lines : List (List ℕ)) : Type 0 where
  pub few : length lines ≤ limits.lines
  pub short : AreShort limits lines
  pub bytes : length (joined_lines lines) ≤ limits.bytes
