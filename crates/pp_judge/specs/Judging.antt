-- Proof machinery: what a judge says of a header and the records after it.
use Rattle.std.specs.Prelude.{◌≡◌, ℕ, ◌+◌, ◌<◌, ◌++◌, length, Option, Some}
use Rattle.pp_records.specs.Inputs.{Widens}
use Rattle.pp_records.specs.Records.{RunRecord}
use Rattle.pp_records.specs.Runs.{Lined, Records}
use Rattle.pp_objects.specs.declared.act.Op.{Op}
use Rattle.pp_input.specs.declared.limits.Limits.{Limits}
use Rattle.pp_format_read.specs.declared.header.Header.{Header}
use Rattle.pp_input_reader.specs.declared.cause.Cause.{Cause}
use Rattle.pp_judge.specs.Scans.{InputScan, nothing}
use Rattle.pp_judge.specs.Tallies.{headed, one_more, scan_of}
use Rattle.pp_judge.specs.declared.judge.Judged.{Judged}
use Rattle.pp_judge.specs.declared.judge.Judged.TheVariants.{Good, Rejected}

-- What a judge says of runs. J is the judge and R what it rejects a run by.
pub record Judging (J R : Type 0) : Type 1 where
  -- the limits of an input
  pub limits : Limits
  -- the start and these records are good, and this is the judge that took them
  pub IsGood : Lined Header → Records (RunRecord Op) → J → Type 0
  -- the start or one of these records is rejected so
  pub IsRejectedBy : Lined Header → Records (RunRecord Op) → R → Type 0
  -- the fault of an input
  pub IsFault : InputScan → Option (ℕ × Cause) → Type 0
  -- judging an input raises the counter at most from one number to another
  pub AtMost : InputScan → (old new : ℕ) → Type 0
  -- it raises the counter at least so if all records are good
  pub GoodAtLeast : InputScan → (old new : ℕ) → Type 0
  -- and if the start or one of them is rejected
  pub RejectedAtLeast : InputScan → (old new : ℕ) → Type 0

-- The laws of every judge.
pub record JudgingLaws {J R : Type 0} (M : Judging J R) : Type 0 where
  -- no records are both good and rejected
  pub not_both : (header : Lined Header) (records : Records (RunRecord Op)) (judge : J)
      (rejection : R) → M.IsGood header records judge → M.IsRejectedBy header records rejection → ⊥
  -- an input has one fault at most
  pub one_fault : (sc : InputScan) (f g : Option (ℕ × Cause)) → M.IsFault sc f → M.IsFault sc g →
      f ≡ g
  -- a fault before the header, or after records that are good or rejected, is that of the input
  pub first_fault : (fault : Option (ℕ × Cause)) → M.IsFault (record nothing { fault = fault })
      fault
  pub good_fault : (header : Lined Header) (records : Records (RunRecord Op)) (judge : J)
      (fault : Option (ℕ × Cause)) → M.IsGood header records judge →
      M.IsFault (record (scan_of header records) { fault = fault }) fault
  pub rejected_fault : (header : Lined Header) (records : Records (RunRecord Op)) (rejection : R)
      (fault : Option (ℕ × Cause)) → M.IsRejectedBy header records rejection →
      M.IsFault (record (scan_of header records) { fault = fault }) fault
  -- later lines change no fault, and no rejection
  pub fault_stays : (sc wider : InputScan) (fault : ℕ × Cause) → Widens sc wider →
      M.IsFault sc (Some fault) → M.IsFault wider (Some fault)
  pub rejection_stays : (header : Lined Header) (records more : Records (RunRecord Op))
      (rejection : R) →
      M.IsRejectedBy header records rejection → M.IsRejectedBy header (records ++ more) rejection
  -- before the header nothing costs, and later lines cost no less
  pub first_most : (old : ℕ) → M.AtMost nothing old old
  pub most_widens : (sc wider : InputScan) (old new : ℕ) → Widens sc wider → M.AtMost sc old new →
      M.AtMost wider old new
  -- records after a rejection are only read
  pub rejected_least_stays : (header : Lined Header) (records more : Records (RunRecord Op))
      (rejection : R) (old new : ℕ) → M.IsRejectedBy header records rejection →
      M.RejectedAtLeast (scan_of header records) old new →
      M.RejectedAtLeast (scan_of header (records ++ more)) old new

-- ---- what a judge promises

-- the start and the records are judged so
abbrev pub IsJudged : {J R : Type 0} → Judging J R → Lined Header → Records (RunRecord Op) →
    Judged J R → Type 0
IsJudged M header records (Good judge) = M.IsGood header records judge
IsJudged M header records (Rejected rejection) = M.IsRejectedBy header records rejection

-- the counter rises at least so, by how the run is judged
abbrev pub JudgedAtLeast : {J R : Type 0} → Judging J R → InputScan → Judged J R →
    (old new : ℕ) → Type 0
JudgedAtLeast M sc (Good judge) old new = M.GoodAtLeast sc old new
JudgedAtLeast M sc (Rejected rejection) old new = M.RejectedAtLeast sc old new

-- the judge took some records, of which a run may have one more
abbrev pub MayTake : {J R : Type 0} → Judging J R → Header → J → Type 0
MayTake M header judge = (at : ℕ) × (before : Records (RunRecord Op))
    × M.IsGood (headed at header) before judge × (length before + 1 < M.limits.lines)

-- P is true of every header, on its line, and all records that the judge may have taken.
abbrev pub OfTaken : {J R : Type 0} → Judging J R → Header → J →
    (Lined Header → Records (RunRecord Op) → Type 0) → Type 0
OfTaken M header judge P = (at : ℕ) (before : Records (RunRecord Op)) →
    M.IsGood (headed at header) before judge → P (headed at header) before

-- a record more, on this line, is judged so, and the counter rises at least so
pub record Judges {J R : Type 0} (M : Judging J R) (header : Header) (judge : J)
    (r : RunRecord Op) (line : ℕ) (judged : Judged J R) (now new : ℕ) : Type 0 where
  pub is : OfTaken M header judge λ h before. IsJudged M h (one_more before line r) judged
  pub least : OfTaken M header judge λ h before. (old : ℕ) →
      M.GoodAtLeast (scan_of h before) old now →
      JudgedAtLeast M (scan_of h (one_more before line r)) judged old new

-- with a record more, on this line, the input has this fault on it
abbrev pub HasFaultThere : {J R : Type 0} → Judging J R → Header → J → RunRecord Op → ℕ → Cause →
    Type 0
HasFaultThere M header judge r line cause =
    OfTaken M header judge λ h before. M.IsFault (scan_of h (one_more before line r))
    (Some (line, cause))

-- a record more, on this line, raises the counter at most so
abbrev pub CostsAtMostThere : {J R : Type 0} → Judging J R → Header → J → RunRecord Op →
    (line now new : ℕ) → Type 0
CostsAtMostThere M header judge r line now new =
    OfTaken M header judge λ h before. (old : ℕ) → M.AtMost (scan_of h before) old now →
    M.AtMost (scan_of h (one_more before line r)) old new
