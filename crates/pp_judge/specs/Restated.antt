-- Meaning: the steps of an input's run, written down, are an input of style rules.
use Rattle.std.specs.Prelude.{◌≡◌, ◌≤◌, ◌<◌, List, length, ℕ, Option, None, Some}
use Rattle.std.specs.Io.KnownBytes.{Appends}
use Rattle.pp_core.specs.declared.limits.TheConstants.{MOST_LINES}
use Rattle.pp_core.specs.declared.status.Status.TheVariants as statuses
use Rattle.pp_records.specs.Inputs.{IsReport}
use Rattle.pp_records.specs.Reprints.{relined}
use Rattle.pp_records.specs.Runs.{IsRun, Lined, LinedSteps, bare}
use Rattle.pp_records.specs.Styles.{plain, restated}
use Rattle.pp_input.specs.Limits.{usual_limits}
use Rattle.pp_input.specs.Lines.{numbered_lines}
use Rattle.pp_input.specs.Overruns.{overrun}
use Rattle.pp_format_read.specs.declared.header.Header.{Header}
use Rattle.pp_format_write.specs.Headers.{rules_header}
use Rattle.pp_format_write.specs.RunTexts.{run_text}
use Rattle.pp_format_write.specs.Statable.{IsStatableRun}
use Rattle.pp_objects.specs.declared.act.Op.{Op}
use Rattle.pp_input_reader.specs.declared.cause.Cause.TheVariants.{TooManySteps}
use Rattle.pp_judge.specs.Accepted.{HasRun}
use Rattle.pp_judge.specs.Inputs.{IsFaultOf, scan}
use Rattle.pp_judge.specs.Objects.{object_of, setting_of, start_of, translation_of}
use Rattle.pp_judge.specs.Reports.{IsCertified, RunReport}
use Rattle.pp_judge.specs.Scans.{InputScan}

-- The input has no fault, this is its header, and this is the run of its records.
pub record IsRunOf (bytes : List ℕ) (header : Lined Header) (run : LinedSteps Op) : Type 0 where
  pub sound : IsFaultOf (scan bytes) None
  pub headed : (scan bytes).header ≡ Some header
  pub is : IsRun (object_of header.what) (translation_of header.what) (start_of header.what)
      (scan bytes).records run

-- a header of style rules with the same objects and start, on line 1
abbrev pub rules_header_of : Header → Lined Header
rules_header_of header =
    record { line = 1; what = rules_header header.catalog header.start }

-- the scan of the steps of a run after that header: step i, from 1, is the record on line i + 1
abbrev pub restated_scan : Header → LinedSteps Op → InputScan
restated_scan header run =
    record {
      header = Some (rules_header_of header);
      records = plain (restated run);
      fault = None;
    }

-- the text of the run of an input with this header
abbrev pub restated_text : Header → LinedSteps Op → List ℕ
restated_text header run = run_text header.catalog header.start (bare run)

-- The run can be stated. Its text is an input within all limits, whose records are the steps of the
-- run. So it has the same steps as its run, and the same report but for the lines; if it is
-- accepted, the same text is printed of it.
pub record IsRestated (bytes : List ℕ) (header : Header) (run : LinedSteps Op) : Type 0 where
  pub statable : IsStatableRun header.catalog header.start (bare run)
  pub scanned : scan (restated_text header run) ≡ restated_scan header run
  pub again : IsRunOf (restated_text header run) (rules_header_of header) (restated run)
  pub steps : bare (restated run) ≡ bare run
  pub report : (r : RunReport) → IsReport setting_of TooManySteps (scan bytes) r →
      IsReport setting_of TooManySteps (scan (restated_text header run)) (relined 1 r)
  pub accepted : (text : List ℕ) → IsCertified bytes statuses.Accepted text →
      IsCertified (restated_text header run) statuses.Accepted text
  pub within : overrun usual_limits (restated_text header run) ≡ None
  pub lines : length (numbered_lines (restated_text header run)) ≤ MOST_LINES
  pub short : length (restated_text header run) < 200_000_000

-- What was printed is the text of the run of the input, and that is an input again.
abbrev pub PrintsAgain : List ℕ → Option (List ℕ) → Option (List ℕ) → Type 0
PrintsAgain bytes old new = (r : HasRun (scan bytes))
    × Appends old new (restated_text r.header.what r.run) × IsRestated bytes r.header.what r.run
