-- Meaning: what an input is, from its bytes.
use Rattle.std.specs.Prelude.{ℕ, ◌+◌, List, length, Option, None, Some}
use Rattle.std.specs.Io.KnownBytes.{Consumes}
use Rattle.std.specs.Option.{option_or}
use Rattle.pp_records.specs.Inputs.{IsFault}
use Rattle.pp_records.specs.Runs.{Lined}
use Rattle.pp_input.specs.declared.limits.Limits.{Limits}
use Rattle.pp_input.specs.Limits.{usual_limits}
use Rattle.pp_input.specs.Lines.{numbered_lines}
use Rattle.pp_input.specs.Overruns.{early_lines, overrun, scanned_lines}
use Rattle.pp_format_read.specs.declared.header.Header.{Header}
use Rattle.pp_input_reader.specs.declared.cause.Cause.{Cause}
use Rattle.pp_input_reader.specs.declared.cause.Cause.TheVariants.{NoHeader, TooManySteps}
use Rattle.pp_input_reader.specs.Limits.{limit_fault}
use Rattle.pp_judge.specs.Objects.{setting_of}
use Rattle.pp_judge.specs.Scans.{InputScan, scan_lines}

-- an input without a header has this fault after its last line
abbrev pub no_header : List ℕ → Option (Lined Header) → Option (ℕ × Cause)
no_header bytes (Some header) = None
no_header bytes None = Some (length (numbered_lines bytes) + 1, NoHeader)

-- if no line has a fault, this is the fault
abbrev pub or_fault : InputScan → Option (ℕ × Cause) → InputScan
or_fault sc fault = record sc { fault = option_or sc.fault fault }

-- What an input with these limits is: the lines before the line that passes a limit, in turn. If
-- no line has a fault, the passed limit is the fault, and else that there is no header.
abbrev pub scan_within : Limits → List ℕ → InputScan
scan_within limits bytes =
    let sc = scan_lines limits.transactions (scanned_lines limits bytes) in
    or_fault sc (option_or (limit_fault (overrun limits bytes)) (no_header bytes sc.header))

-- what no further byte can change of it: the lines that a byte 10 ends, and a passed limit
abbrev pub early_scan_within : Limits → List ℕ → InputScan
early_scan_within limits bytes =
    let sc = scan_lines limits.transactions (early_lines limits bytes) in
    or_fault sc (limit_fault (overrun limits bytes))

-- what an input with the usual limits is
abbrev pub scan : List ℕ → InputScan
scan bytes = scan_within usual_limits bytes

-- what no further byte can change of it
abbrev pub early_scan : List ℕ → InputScan
early_scan bytes = early_scan_within usual_limits bytes

-- the fault of an input: that its records have too many steps, or the fault of its scan
abbrev pub IsFaultOf : InputScan → Option (ℕ × Cause) → Type 0
IsFaultOf sc fault = IsFault setting_of TooManySteps sc fault

-- what was read has no fault that no further byte can change
abbrev pub ReadsNoFault : Option (List ℕ) → Option (List ℕ) → Type 0
ReadsNoFault old new = (bytes : List ℕ) × Consumes old new bytes × IsFaultOf (early_scan bytes) None
