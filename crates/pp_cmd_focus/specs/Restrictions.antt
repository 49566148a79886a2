-- Meaning: the restriction of an input to an object, line for line. Below, o is the place of the
-- object in the header of the input.
use Rattle.std.specs.Prelude.{ℕ, ◌-◌, ◌==◌, List, [], ◌∷◌, ◌++◌, length, map, slice_index}
use Rattle.std.specs.Prelude.{if◌then◌else◌, Option, None, Some}
use Rattle.pp_core.specs.Catalogs.{place_of as place_named}
use Rattle.pp_records.specs.Records.{RunRecord}
use Rattle.pp_records.specs.Runs.{Lined, Records}
use Rattle.pp_objects.specs.declared.act.Op.{Op}
use Rattle.pp_input.specs.Joined.{joined_lines}
use Rattle.pp_input.specs.Lines.{NumberedLine, blank}
use Rattle.pp_input.specs.Overruns.{scanned_lines}
use Rattle.pp_format_read.specs.declared.header.Header.{Header}
use Rattle.pp_judge.specs.Scans.{InputScan, nothing, scan_line}
use Rattle.pp_cmd_judge.specs.Inputs.{judge_limits}
use Rattle.pp_cmd_focus.specs.Headers.{header_bytes}
use Rattle.pp_cmd_focus.specs.Records.{known, record_written, restricted_record}
use Rattle.pp_cmd_focus.specs.Records.{split_last}

-- the line of the last record, or of the header before the first one
abbrev pub last_written : ℕ → Header → Option (Records (RunRecord Op) × Lined (RunRecord Op)) →
    List ℕ → List ℕ
last_written o header None bytes = header_bytes o header
last_written o header (Some (before, last)) bytes =
    record_written (restricted_record (known header before) o last.what) bytes

-- without an object of the name nothing is written
abbrev pub written_on : Option ℕ → Header → Records (RunRecord Op) → List ℕ → List ℕ
written_on None header records bytes = []
written_on (Some o) header records bytes = last_written o header (split_last records) bytes

-- a line that is not blank, which is the last of a scan
abbrev pub written_in : List ℕ → Option (Lined Header) → Records (RunRecord Op) → List ℕ → List ℕ
written_in name None records bytes = []
written_in name (Some header) records bytes =
    written_on (place_named name header.what.catalog) header.what records bytes

-- The restriction of a line, which is the last that was scanned. A blank line stays as it is.
abbrev pub restricted_line : List ℕ → InputScan → List ℕ → List ℕ
restricted_line name sc bytes =
    if blank bytes then bytes else written_in name sc.header sc.records bytes

-- the restriction of lines that come after a scan, of which so many may begin a transaction
abbrev pub lines_from : ℕ → List ℕ → InputScan → List NumberedLine → List (List ℕ)
lines_from most name sc [] = []
lines_from most name sc (line ∷ lines) =
    restricted_line name (scan_line most sc line) line.1
    ∷ lines_from most name (scan_line most sc line) lines

-- the restriction of lines
abbrev pub restricted_lines : List ℕ → List NumberedLine → List (List ℕ)
restricted_lines name lines = lines_from judge_limits.transactions name nothing lines

-- A byte 13 at the end of a line is written twice, since whoever reads the line drops one.
abbrev pub with_return : List ℕ → List ℕ
with_return line =
    if slice_index line (length line - 1) == 13 then line ++ 13 ∷ [] else line

-- the text of the restriction of lines
abbrev pub restricted_text : List ℕ → List NumberedLine → List ℕ
restricted_text name lines = joined_lines (map with_return (restricted_lines name lines))

-- the restriction of an input to the object of this name
abbrev pub restriction : List ℕ → List ℕ → List ℕ
restriction name bytes = restricted_text name (scanned_lines judge_limits bytes)
