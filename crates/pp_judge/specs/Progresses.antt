-- Proof machinery: where the judging of a run is after some of its lines.
use Rattle.std.specs.Prelude.{◌≡◌, ℕ, ◌+◌, ◌≤◌, List, length, Some}
use Rattle.pp_input.specs.Limits.{HasNext}
use Rattle.pp_input.specs.Lines.{NumberedLine}
use Rattle.pp_input_reader.specs.declared.cause.Cause.{Cause}
use Rattle.pp_input_reader.specs.Takers.{Reading}
use Rattle.pp_judge.specs.Judging.{Judging}
use Rattle.pp_judge.specs.Scans.{InputScan, nothing, scan_line, scan_lines}
use Rattle.pp_judge.specs.Tallies.{IsTallied, headed, with_line}
use Rattle.pp_judge.specs.declared.judge.Judged.{Judged}
use Rattle.pp_judge.specs.declared.judge.Judged.TheVariants.{Good}
use Rattle.pp_judge.specs.declared.judge.Judged.TheVariants as judged
use Rattle.pp_judge.specs.declared.progress.Progress.{Progress}
use Rattle.pp_judge.specs.declared.progress.Progress.TheVariants.{Waiting, Running, Rejected}
use Rattle.pp_judge.specs.declared.progress.Tally.{Tally}

-- how many lines were taken
abbrev pub lines_of : {J R : Type 0} → Progress J R → ℕ
lines_of (Waiting lines) = lines
lines_of (Running tally judge) = tally.lines
lines_of (Rejected tally rejection) = tally.lines

-- one blank line more
abbrev pub with_blank : {J R : Type 0} → Progress J R → Progress J R
with_blank (Waiting lines) = Waiting (lines + 1)
with_blank (Running tally judge) = Running (with_line tally) judge
with_blank (Rejected tally rejection) = Rejected (with_line tally) rejection

-- a run that is judged so
abbrev pub progress_of : {J R : Type 0} → Tally → Judged J R → Progress J R
progress_of tally (Good judge) = Running tally judge
progress_of tally (judged.Rejected rejection) = Rejected tally rejection

-- the start and each record so far are good, and raised the counter
pub record GoodAt {J R : Type 0} (M : Judging J R) (sc : InputScan) (tally : Tally) (judge : J)
    (old new : ℕ) : Type 0 where
  pub follows : IsTallied sc tally
  pub good : M.IsGood (headed follows.at tally.header) sc.records judge
  pub most : M.AtMost sc old new
  pub least : M.GoodAtLeast sc old new

-- the start or a record so far is rejected, whatever follows
pub record RejectedAt {J R : Type 0} (M : Judging J R) (sc : InputScan) (tally : Tally)
    (rejection : R) (old new : ℕ) : Type 0 where
  pub follows : IsTallied sc tally
  pub bad : M.IsRejectedBy (headed follows.at tally.header) sc.records rejection
  pub most : M.AtMost sc old new
  pub least : M.RejectedAtLeast sc old new

-- the lines so far, which are scanned so, lead to here, and raised the counter
abbrev pub Covers : {J R : Type 0} → Judging J R → InputScan → Progress J R → (old new : ℕ) →
    Type 0
Covers M sc (Waiting lines) old new = (sc ≡ nothing) × (new ≡ old)
Covers M sc (Running tally judge) old new = GoodAt M sc tally judge old new
Covers M sc (Rejected tally rejection) old new = RejectedAt M sc tally rejection old new

-- ---- a line

-- some lines led to here, and this line is the next one
pub record IsNextLine {J R : Type 0} (M : Judging J R) (from : Progress J R) (line : NumberedLine)
    (now : ℕ) : Type 0 where
  pub sc : InputScan
  pub old : ℕ
  pub covers : Covers M sc from old now
  pub number : line.0 ≡ lines_of from + 1
  pub few : line.0 ≤ M.limits.lines
  pub next : HasNext line.0

-- a line leads from here to there
pub record LeadsTo {J R : Type 0} (M : Judging J R) (from : Progress J R) (line : NumberedLine)
    (now : ℕ) (to : Progress J R) (new : ℕ) : Type 0 where
  pub covers : (sc : InputScan) (old : ℕ) → Covers M sc from old now →
      Covers M (scan_line M.limits.transactions sc line) to old new
  pub lines : lines_of to ≡ lines_of from + 1

-- a line has this fault
abbrev pub HasFaultOn : {J R : Type 0} → Judging J R → Progress J R → NumberedLine → (now : ℕ) →
    Cause → Type 0
HasFaultOn M from line now cause = (sc : InputScan) (old : ℕ) → Covers M sc from old now →
    M.IsFault (scan_line M.limits.transactions sc line) (Some (line.0, cause))

-- a line, taken or not, raised the counter at most so
abbrev pub CostsOn : {J R : Type 0} → Judging J R → Progress J R → NumberedLine →
    (now new : ℕ) → Type 0
CostsOn M from line now new = (sc : InputScan) (old : ℕ) → Covers M sc from old now →
    M.AtMost (scan_line M.limits.transactions sc line) old new

-- ---- all lines

-- these lines led to here, and raised the counter
pub record Leads {J R : Type 0} (M : Judging J R) (lines : List NumberedLine) (at : Progress J R)
    (old new : ℕ) : Type 0 where
  pub covers : Covers M (scan_lines M.limits.transactions lines) at old new
  pub count : lines_of at ≡ length lines
  pub next : HasNext (lines_of at)

-- the limits of an input; and where the lines of a run lead to, with what the counter then shows,
-- which fault they have, and what they cost, by what the counter shows before the first
abbrev pub judged_reading : {J R : Type 0} → Judging J R → ℕ → Reading (Progress J R × ℕ) Cause
judged_reading M old = record {
  limits = M.limits;
  Leads = λ lines at. Leads M lines at.0 old at.1;
  HasFault = λ lines at cause. M.IsFault (scan_lines M.limits.transactions lines)
      (Some (at, cause));
  Stops = λ lines new. M.AtMost (scan_lines M.limits.transactions lines) old new;
  at_limit = λ cause. cause;
}
