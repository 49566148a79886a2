-- Meaning: what the lines of an input are: a header, records, or the first fault.
use Rattle.std.specs.Prelude.{ℕ, ◌==◌, ◌&&◌, ◌||◌, Bool, false, List, [], ◌∷◌, ◌++◌, length}
use Rattle.std.specs.Prelude.{filter, fold, is_some, if◌then◌else◌, Option, None, Some, Result, Ok}
use Rattle.std.specs.Prelude.{Err}
use Rattle.pp_core.specs.declared.answer.OutOfMemory.{OutOfMemory}
use Rattle.pp_records.specs.Inputs.{Scan}
use Rattle.pp_records.specs.Records.{RunRecord, Plain}
use Rattle.pp_records.specs.Records as records
use Rattle.pp_records.specs.Runs.{Lined, Records}
use Rattle.pp_objects.specs.declared.act.Op.{Op}
use Rattle.pp_input.specs.Lines.{NumberedLine, blank}
use Rattle.pp_format_read.specs.declared.header.Header.{Header}
use Rattle.pp_format_read.specs.declared.fault.RecordFault.{RecordFault}
use Rattle.pp_format_read.specs.Headers.{header_of}
use Rattle.pp_format_read.specs.Records.{record_of}
use Rattle.pp_format_write.specs.Statable.{is_begin}
use Rattle.pp_input_reader.specs.declared.cause.Cause.{Cause}
use Rattle.pp_input_reader.specs.declared.cause.Cause.TheVariants.{TooManyTransactions}
use Rattle.pp_judge.specs.Causes.{cause_of}

-- the header and the records up to the first fault, and this fault, each with its line
abbrev pub InputScan : Type 0
InputScan = Scan (Lined Header) (RunRecord Op) Cause

abbrev pub nothing : InputScan
nothing = record { header = None; records = []; fault = None }

-- the record begins a transaction
abbrev pub is_begin_record : RunRecord Op → Bool
is_begin_record (Plain step) = is_begin step
is_begin_record (records.Op tx id op) = false
is_begin_record (records.Commit tx) = false
is_begin_record (records.Abort tx) = false
is_begin_record (records.Retry tx) = false
is_begin_record (records.Refresh tx object) = false
is_begin_record (records.XBegin tx) = false
is_begin_record (records.XEnd tx) = false
is_begin_record (records.XAbort tx) = false
is_begin_record (records.Depend tx source) = false
is_begin_record (records.Publish tx) = false
is_begin_record (records.DropSource tx source) = false

-- how many of the records begin a transaction
abbrev pub begins : Records (RunRecord Op) → ℕ
begins records = length (filter (λ r. is_begin_record r.what) records)

-- The scan with a fault at this line. Out of memory is no fault of the input, and changes nothing.
abbrev pub with_fault : InputScan → ℕ → Result Cause OutOfMemory → InputScan
with_fault sc line (Ok cause) = record sc { fault = Some (line, cause) }
with_fault sc line (Err refused) = sc

-- the first line that is not blank
abbrev pub with_header : InputScan → ℕ → Result Header RecordFault → InputScan
with_header sc line (Ok header) =
    record sc { header = Some (record { line = line; what = header }) }
with_header sc line (Err fault) = with_fault sc line (cause_of fault)

-- one record more
abbrev pub with_next : InputScan → ℕ → RunRecord Op → InputScan
with_next sc line r = record sc { records = sc.records ++ record { line = line; what = r } ∷ [] }

-- a line after the header. At most so many of these lines may begin a transaction.
abbrev pub with_record : ℕ → InputScan → ℕ → Result (RunRecord Op) RecordFault → InputScan
with_record most sc line (Ok r) =
    if is_begin_record r && begins sc.records == most
    then with_fault sc line (Ok TooManyTransactions) else with_next sc line r
with_record most sc line (Err fault) = with_fault sc line (cause_of fault)

abbrev pub read_line : ℕ → InputScan → Option (Lined Header) → NumberedLine → InputScan
read_line most sc None line = with_header sc line.0 (header_of line.1)
read_line most sc (Some header) line = with_record most sc line.0 (record_of header.what line.1)

-- one line more: blank lines are skipped, and nothing is read after a fault
abbrev pub scan_line : ℕ → InputScan → NumberedLine → InputScan
scan_line most sc line =
    if is_some sc.fault || blank line.1 then sc else read_line most sc sc.header line

abbrev pub scan_lines : ℕ → List NumberedLine → InputScan
scan_lines most lines = fold (scan_line most) nothing lines
