-- Proof machinery: the header and the counts of the lines that were taken.
use Rattle.std.specs.Prelude.{◌≡◌, ℕ, ◌+◌, ◌<◌, ◌==◌, ◌&&◌, Bool, true, [], ◌∷◌, ◌++◌, length}
use Rattle.std.specs.Prelude.{if◌then◌else◌, None, Some, Result, Ok, Err}
use Rattle.pp_records.specs.Records.{RunRecord}
use Rattle.pp_records.specs.Runs.{Lined, Records}
use Rattle.pp_objects.specs.declared.act.Op.{Op}
use Rattle.pp_format_read.specs.declared.fault.RecordFault.{RecordFault}
use Rattle.pp_format_read.specs.declared.header.Header.{Header}
use Rattle.pp_input_reader.specs.declared.cause.Cause.{Cause}
use Rattle.pp_input_reader.specs.declared.cause.Cause.TheVariants.{TooManyTransactions}
use Rattle.pp_judge.specs.Causes.{cause_of}
use Rattle.pp_judge.specs.Scans.{InputScan, begins, is_begin_record}
use Rattle.pp_judge.specs.declared.progress.Tally.{Tally}

-- a header on its line
abbrev pub headed : ℕ → Header → Lined Header
headed line header = record { line = line; what = header }

-- records, and one more on its line
abbrev pub one_more : Records (RunRecord Op) → ℕ → RunRecord Op → Records (RunRecord Op)
one_more records line r = records ++ record { line = line; what = r } ∷ []

-- a header and the records after it, without a fault
abbrev pub scan_of : Lined Header → Records (RunRecord Op) → InputScan
scan_of header records = record { header = Some header; records = records; fault = None }

-- one line more
abbrev pub with_line : Tally → Tally
with_line tally = record tally { lines = tally.lines + 1 }

-- one record more
abbrev pub with_record : Tally → RunRecord Op → Tally
with_record tally r = record tally {
  lines = tally.lines + 1;
  begins = if is_begin_record r then tally.begins + 1 else tally.begins;
}

-- the lines are a header and records, with no fault, and these are their counts
pub record IsTallied (sc : InputScan) (tally : Tally) : Type 0 where
  -- the line of the header
  pub at : ℕ
  pub header : sc.header ≡ Some (record { line = at; what = tally.header })
  pub sound : sc.fault ≡ None
  pub begun : tally.begins ≡ begins sc.records
  pub fewer : length sc.records < tally.lines

-- a record that may not begin another transaction, if at most so many may
abbrev pub is_too_many : ℕ → Tally → RunRecord Op → Bool
is_too_many most tally r = is_begin_record r && tally.begins == most

-- why a record is not taken: it can not be read, or it begins too many transactions
abbrev pub IsRecordFault : ℕ → Tally → Result (RunRecord Op) RecordFault → Cause → Type 0
IsRecordFault most tally (Err fault) cause = cause_of fault ≡ Ok cause
IsRecordFault most tally (Ok r) cause =
    (is_too_many most tally r ≡ true) × (cause ≡ TooManyTransactions)
