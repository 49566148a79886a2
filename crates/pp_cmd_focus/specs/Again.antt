-- Meaning: what is read of the lines that `focus` prints. Below, o is the place of the object in
-- the header of the input.
use Rattle.std.specs.Prelude.{◌≡◌, ℕ, List, [], ◌∷◌, ◌++◌, length, Option, None, Some, Ok}
use Rattle.pp_core.specs.Catalogs.{place_of as place_named}
use Rattle.pp_records.specs.Records.{RunRecord}
use Rattle.pp_records.specs.Runs.{Lined, Records}
use Rattle.pp_objects.specs.declared.act.Op.{Op}
use Rattle.pp_input.specs.Overruns.{scanned_lines}
use Rattle.pp_format_read.specs.declared.header.Header.{Header}
use Rattle.pp_format_read.specs.Headers.{header_of}
use Rattle.pp_format_read.specs.Records.{record_of}
use Rattle.pp_judge.specs.Scans.{InputScan}
use Rattle.pp_cmd_judge.specs.Inputs.{judge_limits, judge_scan}
use Rattle.pp_cmd_focus.specs.Headers.{header_bytes}
use Rattle.pp_cmd_focus.specs.Moved.{moved_header, moved_record}
use Rattle.pp_cmd_focus.specs.Records.{known, record_written, restricted_record}
use Rattle.pp_cmd_focus.specs.Restrictions.{restriction}

-- Each line that `focus` prints of a record or of the header is read without a fault.
pub record LinesReadAgain : Type 0 where
  -- The line of the header is read as the header over this object alone.
  pub first : (line name : List ℕ) (header : Header) (o : ℕ) → header_of line ≡ Ok header →
      place_named name header.catalog ≡ Some o →
      header_of (header_bytes o header) ≡ Ok (moved_header o header)
  -- After that header, the line of what is left of a record is read as what is left of it.
  pub other : (line : List ℕ) (header : Header) (objects : ℕ → Option ℕ) (o : ℕ)
      (r left : RunRecord Op) → record_of header line ≡ Ok r →
      restricted_record objects o r ≡ Some left →
      record_of (moved_header o header) (record_written (Some left) line)
      ≡ Ok (moved_record left)

-- what is left of the record of a line
abbrev pub left_of : ℕ → Option (RunRecord Op) → Records (RunRecord Op)
left_of line None = []
left_of line (Some left) = record { line = line; what = moved_record left } ∷ []

-- what is left of records that come after others, each on its line
abbrev pub left_after : ℕ → Header → Records (RunRecord Op) → Records (RunRecord Op) →
    Records (RunRecord Op)
left_after o header before [] = []
left_after o header before (r ∷ rs) =
    left_of r.line (restricted_record (known header before) o r.what)
    ++ left_after o header (before ++ r ∷ []) rs

-- A header over one object alone, and what is left of records, each on the line that it had. There
-- is no fault.
abbrev pub left_scan : ℕ → Lined Header → Records (RunRecord Op) → InputScan
left_scan o header rs = record {
  header = Some (record { line = header.line; what = moved_header o header.what });
  records = left_after o header.what [] rs;
  fault = None;
}

-- What `focus` prints of an input without a fault is an input without a fault, of the same style
-- and with as many lines. Its header is over the object alone, and its records are what is left.
abbrev pub TextReadAgain : Type 0
TextReadAgain = (name bytes : List ℕ) (header : Lined Header) (o : ℕ) →
    (judge_scan bytes).fault ≡ None → (judge_scan bytes).header ≡ Some header →
    place_named name header.what.catalog ≡ Some o →
    (judge_scan (restriction name bytes) ≡ left_scan o header (judge_scan bytes).records)
    × (length (scanned_lines judge_limits (restriction name bytes))
    ≡ length (scanned_lines judge_limits bytes))
