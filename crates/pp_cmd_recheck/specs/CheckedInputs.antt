-- Proof machinery: the result of checking the lines of an input as those of a certificate.
use Rattle.std.specs.Prelude.{◌≡◌, ℕ, List, Option, Some}
use Rattle.std.specs.Io.KnownBytes.{IsAtEnd}
use Rattle.pp_core.specs.Catalogs.{Objects}
use Rattle.pp_core.specs.declared.status.Status.{Status}
use Rattle.pp_objects.specs.Objects.{objects}
use Rattle.pp_input_reader.specs.Sources.{WhereTold}
use Rattle.pp_certificate_checker.specs.Certificates.{Refused, IsVerdictOf}
use Rattle.pp_certificate_lines.specs.Checkings.{Closes, IsShownOf}
use Rattle.pp_certificate_lines.specs.Reading.{objects_in, reader_of}
use Rattle.pp_certificate_lines.specs.Rechecked.{texts, Checked, Faulty, Shows, refused_at, IsChecked}
use Rattle.pp_certificate_lines.specs.Rechecked.{IsCheckedTold}
use Rattle.pp_certificate_lines.specs.declared.taker.CheckFault.{CheckFault}
use Rattle.pp_certificate_lines.specs.declared.taker.CheckFault.TheVariants as faults
use Rattle.pp_cmd_recheck.specs.Costs.{ShownCostsAtLeast}
use Rattle.pp_cmd_recheck.specs.declared.check_input.CheckedInput.{CheckedInput}
use Rattle.pp_cmd_recheck.specs.declared.check_input.CheckedInput.TheVariants as inputs

-- The result of an input if all its lines are taken.
abbrev pub ChecksLines : List (List ℕ) → CheckedInput → Type 0
ChecksLines lines (inputs.Fault at (faults.Cause cause)) = ⊥
ChecksLines lines (inputs.Fault at (faults.Refusal why)) =
    IsVerdictOf objects (reader_of lines) lines (Refused at why)
ChecksLines lines (inputs.Shows catalog h) = Closes lines (Some (catalog, h))

-- The result of an input whose first refused or faulty line is this one.
abbrev pub faulty_at : ℕ → CheckFault → Checked
faulty_at at (faults.Cause cause) = Faulty at cause
faulty_at at (faults.Refusal why) = refused_at at why

-- The result of an input that is read from old to new.
abbrev pub ChecksInput : Option (List ℕ) → Option (List ℕ) → CheckedInput → Type 0
ChecksInput old new (inputs.Fault at fault) =
    WhereTold old λ bytes. IsChecked bytes (faulty_at at fault)
ChecksInput old new (inputs.Shows catalog h) =
    IsAtEnd new × IsShownOf catalog h
    × (WhereTold old λ bytes. IsChecked bytes (Shows h) × (objects_in (texts bytes) ≡ catalog))

-- What is shown costs at least this much, from what the counter showed before the first line.
abbrev pub ShownCounted : CheckedInput → (old new : ℕ) → Type 0
ShownCounted (inputs.Fault at fault) old new = Unit {0}
ShownCounted (inputs.Shows catalog h) old new = ShownCostsAtLeast h old new

-- The operations and the states in the report are of these objects.
abbrev pub CanReport : CheckedInput → Type 0
CanReport (inputs.Fault at fault) = Unit {0}
CanReport (inputs.Shows catalog h) = IsShownOf catalog h

-- the status and the text of a checked input
abbrev pub IsCheckedInputTold : CheckedInput → Status → List ℕ → Type 0
IsCheckedInputTold (inputs.Fault at fault) status text =
    (catalog : Objects) → IsCheckedTold catalog (faulty_at at fault) status text
IsCheckedInputTold (inputs.Shows catalog h) status text =
    IsCheckedTold catalog (Shows h) status text
