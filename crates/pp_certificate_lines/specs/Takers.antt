-- Proof machinery: reading the lines of an input as those of a certificate.
use Rattle.std.specs.Prelude.{◌≤◌, ◌+◌, ℕ, List, length, map}
use Rattle.pp_core.specs.declared.call.Kind.{Kind}
use Rattle.pp_input.specs.Limits.{usual_limits}
use Rattle.pp_input.specs.Lines.{NumberedLine}
use Rattle.pp_objects.specs.Objects.{objects}
use Rattle.pp_objects.specs.declared.act.Op.{Op}
use Rattle.pp_input_reader.specs.Takers.{Reading}
use Rattle.pp_certificate_checker.specs.Certificates.{Stage, Fresh, Entered, Exchanged, Ended, Refused}
use Rattle.pp_certificate_checker.specs.Certificates.{IsVerdictOf}
use Rattle.pp_certificate_lines.specs.Checkings.{read_in, Covers}
use Rattle.pp_certificate_lines.specs.Reading.{reader_of}
use Rattle.pp_certificate_lines.specs.declared.checking.Checking.{Checking}
use Rattle.pp_certificate_lines.specs.declared.taker.CheckFault.{CheckFault}
use Rattle.pp_certificate_lines.specs.declared.taker.CheckFault.TheVariants as faults

-- Lines without their numbers.
abbrev pub bare : List NumberedLine → List (List ℕ)
bare lines = map (λ numbered. numbered.1) lines

-- The first of these lines that is refused.
abbrev pub HasCheckFault : List (List ℕ) → ℕ → CheckFault → Type 0
HasCheckFault lines at (faults.Cause cause) = ⊥
HasCheckFault lines at (faults.Refusal why) =
    (at ≤ length lines) × IsVerdictOf objects (reader_of lines) lines (Refused at why)

-- How many entries a stage has.
abbrev pub entries_at : Stage (List Kind) Op → ℕ
entries_at Fresh = 0
entries_at (Entered shape list) = length list
entries_at (Exchanged shape list count) = length list
entries_at (Ended shape list count n) = length list

-- How many entries were read.
abbrev pub entries_in : Checking → ℕ
entries_in checking = entries_at (read_in checking).stage

-- The usual limits, with three facts about lines: where they lead and what the counter then shows,
-- which of them is refused, and what they cost from what the counter showed before the first.
abbrev pub check_reading : ℕ → Reading (Checking × ℕ) CheckFault
check_reading first = record {
  limits = usual_limits;
  Leads = λ lines at. Covers (bare lines) at.0 × (at.1 ≤ first + length lines)
      × (first + entries_in at.0 ≤ at.1);
  HasFault = λ lines at fault. HasCheckFault (bare lines) at fault;
  Stops = λ lines new. new ≤ first + length lines;
  at_limit = λ cause. faults.Cause cause;
}
