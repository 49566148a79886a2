-- Proof machinery: what the examination of an input finds.
use Rattle.std.specs.Prelude.{ℕ, ◌+◌, List, Option, None, Some}
use Rattle.std.specs.Io.KnownBytes.{Consumes, IsAtEnd}
use Rattle.pp_input.specs.declared.limits.Limits.{Limits}
use Rattle.pp_input_reader.specs.declared.cause.Cause.TheVariants.{NoHeader}
use Rattle.pp_input_reader.specs.Sources.{WhereTold}
use Rattle.pp_judge.specs.Inputs.{early_scan_within, scan_within}
use Rattle.pp_judge.specs.Judging.{Judging}
use Rattle.pp_judge.specs.Scans.{InputScan}
use Rattle.pp_judge.specs.Tallies.{IsTallied, headed}
use Rattle.pp_judge.specs.declared.finding.Finding.{Finding}
use Rattle.pp_judge.specs.declared.finding.Finding.TheVariants as findings
use Rattle.pp_judge.specs.declared.progress.Progress.{Progress}
use Rattle.pp_judge.specs.declared.progress.Progress.TheVariants as progresses
use Rattle.pp_judge.specs.declared.progress.Tally.{Tally}

-- what is found if all lines lead to here: without a header there is a fault after them
abbrev pub finding_of : {J R : Type 0} → Progress J R → Finding J R
finding_of (progresses.Waiting lines) = findings.Fault (lines + 1) NoHeader
finding_of (progresses.Running tally judge) = findings.Accepted tally judge
finding_of (progresses.Rejected tally rejection) = findings.Rejected tally rejection

-- the whole input was read within these limits, and P is true of its scan
abbrev pub ReadsWhole : Limits → Option (List ℕ) → Option (List ℕ) → (InputScan → Type 0) → Type 0
ReadsWhole limits old new P =
    (bytes : List ℕ) × Consumes old new bytes × IsAtEnd new × P (scan_within limits bytes)

-- the start and the records of a scan are good
pub record AreGood {J R : Type 0} (M : Judging J R) (sc : InputScan) (tally : Tally) (judge : J) :
    Type 0 where
  pub follows : IsTallied sc tally
  pub good : M.IsGood (headed follows.at tally.header) sc.records judge

-- the start or a record of a scan is rejected
pub record AreRejected {J R : Type 0} (M : Judging J R) (sc : InputScan) (tally : Tally)
    (rejection : R) : Type 0 where
  pub follows : IsTallied sc tally
  pub bad : M.IsRejectedBy (headed follows.at tally.header) sc.records rejection

-- the finding is that of the input
abbrev pub Finds : {J R : Type 0} → Judging J R → Option (List ℕ) → Option (List ℕ) →
    Finding J R → Type 0
Finds M old new (findings.Fault line cause) =
    WhereTold old λ bytes. M.IsFault (scan_within M.limits bytes) (Some (line, cause))
Finds M old new (findings.Rejected tally rejection) =
    ReadsWhole M.limits old new λ sc. AreRejected M sc tally rejection
Finds M old new (findings.Accepted tally judge) =
    ReadsWhole M.limits old new λ sc. AreGood M sc tally judge

-- what was read has no fault that no further byte can change
abbrev pub ReadsSound : {J R : Type 0} → Judging J R → Option (List ℕ) → Option (List ℕ) → Type 0
ReadsSound M old new =
    (bytes : List ℕ) × Consumes old new bytes
    × M.IsFault (early_scan_within M.limits bytes) None

-- the counter rose at least so, if there is a verdict
abbrev pub RisesAtLeast : {J R : Type 0} → Judging J R → InputScan → Finding J R →
    (old new : ℕ) → Type 0
RisesAtLeast M sc (findings.Fault line cause) old new = Unit {0}
RisesAtLeast M sc (findings.Rejected tally rejection) old new = M.RejectedAtLeast sc old new
RisesAtLeast M sc (findings.Accepted tally judge) old new = M.GoodAtLeast sc old new
