-- Meaning: what one line does to a certificate that is read, and where all lines lead.
use Rattle.std.specs.Prelude.{◌≡◌, ◌+◌, ℕ, true, false, if◌then◌else◌, List, [], ◌∷◌, ◌++◌, length}
use Rattle.std.specs.Prelude.{Option, None, Some, Result, Ok, Err}
use Rattle.pp_core.specs.Catalogs.{Objects}
use Rattle.pp_core.specs.declared.call.Kind.{Kind}
use Rattle.pp_input.specs.Lines.{blank}
use Rattle.pp_objects.specs.Objects.{objects, kinds_of}
use Rattle.pp_objects.specs.declared.act.Op.{Op}
use Rattle.pp_objects.specs.declared.states.ObjectState.{ObjectState}
use Rattle.pp_certificate_checker.specs.declared.line.Line.{Line}
use Rattle.pp_certificate_checker.specs.declared.line.Line.TheVariants.{Blank}
use Rattle.pp_certificate_checker.specs.declared.refusal.Refusal.{Refusal}
use Rattle.pp_certificate_checker.specs.declared.refusal.Refusal.TheVariants.{NotCertificate}
use Rattle.pp_certificate_checker.specs.declared.shown.Shown.{Shown}
use Rattle.pp_certificate_checker.specs.Certificates.{Fresh, Holds, Refused, IsVerdictOf}
use Rattle.pp_certificate_checker.specs.Checking.{ReadSoFar, Takes}
use Rattle.pp_certificate_checker.specs.Laws.{IsOver, Leads, ShowsAllowed}
use Rattle.pp_text.specs.Texts.{AreStatesOf, EachNamed}
use Rattle.pp_certificate_lines.specs.Reading.{first_line, later_line, objects_on, objects_in}
use Rattle.pp_certificate_lines.specs.Reading.{reader, reader_of}
use Rattle.pp_certificate_lines.specs.declared.checking.Checking.{Checking}
use Rattle.pp_certificate_lines.specs.declared.checking.Checking.TheVariants.{Before, Within}

-- What was read so far.
abbrev pub read_in : Checking → ReadSoFar (List Kind) Op
read_in (Before checker) = checker
read_in (Within catalog checker) = checker

-- What a line says at its place.
abbrev pub line_in : Checking → List ℕ → Line (List Kind) Op
line_in (Before checker) line = if blank line then Blank else first_line line
line_in (Within catalog checker) line = if blank line then Blank else later_line catalog line

-- The first line that is not blank names the objects, and no other line does.
abbrev pub NamesObjects : Checking → List ℕ → Checking → Type 0
NamesObjects (Before checker) line (Before next) = blank line ≡ true
NamesObjects (Before checker) line (Within catalog next) =
    (blank line ≡ false) × (objects_on line ≡ Some catalog)
NamesObjects (Within catalog checker) line (Before next) = ⊥
NamesObjects (Within catalog checker) line (Within names next) = names ≡ catalog

-- A line is taken, or refused.
abbrev pub TakesLine : Checking → List ℕ → Result Checking Refusal → Type 0
TakesLine v line (Ok w) =
    Takes objects (read_in v) (line_in v line) (Ok (read_in w)) × NamesObjects v line w
TakesLine v line (Err why) = Takes objects (read_in v) (line_in v line) (Err why)

-- ---- all lines

-- These lines are blank, and lead to here.
pub record CoversBlank (lines : List (List ℕ)) (now : ReadSoFar (List Kind) Op) : Type 0 where
  pub unnamed : (more : List (List ℕ)) → objects_in (lines ++ more) ≡ objects_in more
  pub leads : (catalog : Objects) → Leads objects (reader catalog) Fresh lines now.stage
  pub fresh : now.stage ≡ Fresh
  pub count : now.lines ≡ length lines

-- These lines name these objects and lead to here, whatever lines come after them.
pub record CoversNamed (lines : List (List ℕ)) (catalog : Objects)
    (now : ReadSoFar (List Kind) Op) : Type 0 where
  pub named : (more : List (List ℕ)) → objects_in (lines ++ more) ≡ catalog
  pub leads : Leads objects (reader catalog) Fresh lines now.stage
  pub over : IsOver (kinds_of catalog) now.stage
  pub count : now.lines ≡ length lines

-- These lines are all taken, and lead to here.
abbrev pub Covers : List (List ℕ) → Checking → Type 0
Covers lines (Before checker) = CoversBlank lines checker
Covers lines (Within catalog checker) = CoversNamed lines catalog checker

-- After these lines the line is taken, or it is the first that is refused, whatever lines come
-- after it.
abbrev pub LeadsOn : List (List ℕ) → List ℕ → Result Checking Refusal → Type 0
LeadsOn lines line (Ok next) = Covers (lines ++ line ∷ []) next
LeadsOn lines line (Err why) = (more : List (List ℕ)) →
    IsVerdictOf objects (reader_of (lines ++ line ∷ more)) (lines ++ line ∷ more)
    (Refused (length lines + 1) why)

-- The operations and the states that are shown are those of these objects.
abbrev pub IsShownOf : Objects → Shown (List Kind) (List ObjectState) Op → Type 0
IsShownOf catalog h =
    EachNamed catalog h.serial × AreStatesOf catalog h.state

-- What these lines show, with their objects, if all of them are taken. Without a serial number
-- they end too early.
abbrev pub Closes : List (List ℕ)
    → Option (Objects × Shown (List Kind) (List ObjectState) Op) → Type 0
Closes lines None =
    IsVerdictOf objects (reader_of lines) lines (Refused (length lines + 1) NotCertificate)
Closes lines (Some found) =
    IsVerdictOf objects (reader_of lines) lines (Holds found.1) × (objects_in lines ≡ found.0)
    × IsShownOf found.0 found.1 × ShowsAllowed objects found.1
