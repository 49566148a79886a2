-- Meaning: what `focus` prints of an input.
use Rattle.std.specs.Prelude.{◌≡◌, ◌⊎◌, ℕ, List, Option, None, Some}
use Rattle.std.specs.Io.KnownBytes.{Consumes}
use Rattle.std.specs.Option.{option_or}
use Rattle.pp_core.specs.Catalogs.{place_of as place_named}
use Rattle.pp_core.specs.declared.status.Status.{Status}
use Rattle.pp_core.specs.declared.status.Status.TheVariants as statuses
use Rattle.pp_records.specs.Runs.{Lined}
use Rattle.pp_format_read.specs.declared.header.Header.{Header}
use Rattle.pp_input_reader.specs.FaultTexts.{fault_text}
use Rattle.pp_input_reader.specs.declared.cause.Cause.{Cause}
use Rattle.pp_input_reader.specs.declared.cause.Cause.TheVariants.{UnknownObject}
use Rattle.pp_judge.specs.Scans.{InputScan}
use Rattle.pp_cmd_judge.specs.Inputs.{early_judge_scan, judge_scan}
use Rattle.pp_cmd_focus.specs.Restrictions.{restriction}

-- the fault of a header on this line, if an object has this place in it, or none
abbrev pub missing_object : ℕ → Option ℕ → Option (ℕ × Cause)
missing_object line None = Some (line, UnknownObject)
missing_object line (Some o) = None

-- the fault of a header that has no object of this name
abbrev pub unknown_object : List ℕ → Option (Lined Header) → Option (ℕ × Cause)
unknown_object name None = None
unknown_object name (Some header) =
    missing_object header.line (place_named name header.what.catalog)

-- The fault of an input for this name: that of its scan, or else that its header has no object of
-- this name.
abbrev pub focus_fault : List ℕ → InputScan → Option (ℕ × Cause)
focus_fault name sc = option_or sc.fault (unknown_object name sc.header)

-- what was read has no fault that no further byte can change
abbrev pub FocusReadsNoFault : Option (List ℕ) → Option (List ℕ) → Type 0
FocusReadsNoFault old new =
    (bytes : List ℕ) × Consumes old new bytes × ((early_judge_scan bytes).fault ≡ None)

-- the status and the text: the fault, or else the restriction
abbrev pub fault_or_restriction : List ℕ → List ℕ → Option (ℕ × Cause) → Status × List ℕ
fault_or_restriction name bytes None = (statuses.Accepted, restriction name bytes)
fault_or_restriction name bytes (Some (line, cause)) =
    (statuses.InputFault, fault_text line cause)

-- what is printed of an input
abbrev pub focused : List ℕ → List ℕ → Status × List ℕ
focused name bytes = fault_or_restriction name bytes (focus_fault name (judge_scan bytes))

-- the status and the text are what is printed
abbrev pub IsFocused : List ℕ → List ℕ → Status → List ℕ → Type 0
IsFocused name bytes status text = (status, text) ≡ focused name bytes

-- accepted, or a fault of the input
abbrev pub IsFocusStatus : Status → Type 0
IsFocusStatus status = (status ≡ statuses.Accepted) ⊎ (status ≡ statuses.InputFault)
