-- Meaning: what an input comes to: its fault, and else the report of its run.
use Rattle.std.specs.Prelude.{◌≡◌, ◌⊎◌, ◌↔◌, ℕ, zero, suc, List, ◌++◌, length, slice_get, take}
use Rattle.std.specs.Prelude.{Option, None, Some}
use Rattle.pp_model.specs.Object.{Object, state}
use Rattle.pp_model.specs.Config.{Config, Start, Step, after}
use Rattle.pp_model.specs.Rules.{Accepted, IsVerdict, Rejected, Verdict}
use Rattle.pp_model.specs.Serial.{Attempt, attempts, serial}
use Rattle.pp_records.specs.Runs.{HasTooManySteps, IsRun, Lined, LinedSteps, Records, Translation}
use Rattle.pp_records.specs.Runs.{bare, joined_steps, outset}

-- The header and the records up to the first fault, and this fault with the number of its line.
pub record Scan (H R Cause : Type 0) : Type 0 where
  pub header : Option H
  pub records : Records R
  pub fault : Option (ℕ × Cause)

-- The setting of a run, from its header: the header's line, the object, the start, and how records
-- become steps.
pub record Setting (F R Op State : Type 0) : Type 1 where
  pub line : ℕ
  pub object : Object Op State
  pub start : Option (Start Op)
  pub translation : Translation F R Op

-- Step 200,001 of the records is in the record on this line.
abbrev pub OverrunsAt : {H F R Op State : Type 0} → (H → Setting F R Op State) → Option H →
    Records R → ℕ → Type 0
OverrunsAt setting None rs line = ⊥
OverrunsAt setting (Some h) rs line =
    HasTooManySteps (setting h).object (setting h).translation (setting h).start rs line

-- The fault of an input: TooManySteps if it occurs, and otherwise the fault of the scan. For the
-- early scan it is the early fault.
abbrev pub IsFault : {H F R Op State Cause : Type 0} → (H → Setting F R Op State) → Cause →
    Scan H R Cause → Option (ℕ × Cause) → Type 0
IsFault setting too_many sc fault =
    ((line : ℕ) × OverrunsAt setting sc.header sc.records line × (fault ≡ Some (line, too_many)))
    ⊎ (((line : ℕ) → OverrunsAt setting sc.header sc.records line → ⊥) × (fault ≡ sc.fault))

-- The report of a run. For a rejected step, the configuration before it determines the evidence.
-- Step 0 is the start.
pub data Report (Op State Cause : Type 0) : Type 0 where
  Faulty : (line : ℕ) (cause : Cause) → Report Op State Cause
  Accepts : (steps : ℕ) (committed : List (Attempt Op)) (final : State) → Report Op State Cause
  StartRejected : (line criterion : ℕ) → Report Op State Cause
  StepRejected : (number line criterion : ℕ) (before : Config Op) (step : Step Op) →
      Report Op State Cause

-- the report of a run and its verdict
abbrev pub IsReportOf : {F R Op State Cause : Type 0} → Setting F R Op State → LinedSteps Op →
    Verdict → Report Op State Cause → Type 0
IsReportOf s run Accepted r =
    let committed = attempts s.start (bare run) in
    r ≡ Accepts (length run) committed (state s.object (serial committed))
IsReportOf s run (Rejected zero n) r = r ≡ StartRejected s.line n
IsReportOf {Op = Op} s run (Rejected (suc i) n) r =
    (step : Lined (Step Op)) × (slice_get run i ≡ Some step)
    × (r ≡ StepRejected (suc i) step.line n (after s.start (bare (take i run))) step.what)

-- the report of records without a fault
abbrev pub IsRunReport : {H F R Op State Cause : Type 0} → (H → Setting F R Op State) → Option H →
    Records R → Report Op State Cause → Type 0
IsRunReport setting None rs r = ⊥
IsRunReport {Op = Op} setting (Some h) rs r =
    (run : LinedSteps Op) × (v : Verdict)
    × IsRun (setting h).object (setting h).translation (setting h).start rs run
    × IsVerdict (setting h).object (setting h).start (bare run) v × IsReportOf (setting h) run v r

-- the report is the fault, if there is one, and else that of the run
abbrev pub IsReportBehind : {H F R Op State Cause : Type 0} → (H → Setting F R Op State) →
    Option (ℕ × Cause) → Scan H R Cause → Report Op State Cause → Type 0
IsReportBehind setting (Some fault) sc r = r ≡ Faulty fault.0 fault.1
IsReportBehind setting None sc r = IsRunReport setting sc.header sc.records r

-- The report of an input: its fault if it has one, and else that of its run.
abbrev pub IsReport : {H F R Op State Cause : Type 0} → (H → Setting F R Op State) → Cause →
    Scan H R Cause → Report Op State Cause → Type 0
IsReport {Cause = Cause} setting too_many sc r =
    (fault : Option (ℕ × Cause)) × IsFault setting too_many sc fault
    × IsReportBehind setting fault sc r

-- The wider scan is of the same lines and of some after them.
pub record Widens {H R Cause : Type 0} (sc wider : Scan H R Cause) : Type 0 where
  pub header : (h : H) → sc.header ≡ Some h → wider.header ≡ Some h
  pub records : (more : Records R) × (wider.records ≡ sc.records ++ more)
  pub fault : (f : ℕ × Cause) → sc.fault ≡ Some f → wider ≡ sc

-- all steps of the records, also after one that fails
abbrev pub steps_of : {F R Op State : Type 0} → Setting F R Op State → Records R → LinedSteps Op
steps_of s rs = joined_steps s.translation (outset s.translation s.start) rs

-- An input has one fault and one report at most. A fault stays, whatever lines come after. The
-- report is that of the verdict of all steps of its records.
pub record InputLaw {H F R Op State Cause : Type 0}
    (setting : H → Setting F R Op State) (too_many : Cause) : Type 0 where
  pub one_fault : (sc : Scan H R Cause) (f g : Option (ℕ × Cause)) → IsFault setting too_many sc f →
      IsFault setting too_many sc g → f ≡ g
  pub one_report : (sc : Scan H R Cause) (r q : Report Op State Cause) →
      IsReport setting too_many sc r → IsReport setting too_many sc q → r ≡ q
  pub stays : (sc wider : Scan H R Cause) (f : ℕ × Cause) → Widens sc wider →
      IsFault setting too_many sc (Some f) → IsFault setting too_many wider (Some f)
  pub unfolded : (h : H) (rs : Records R) (r : Report Op State Cause) →
      IsRunReport setting (Some h) rs r
      ↔ ((v : Verdict)
      × IsVerdict (setting h).object (setting h).start (bare (steps_of (setting h) rs)) v
      × IsReportOf (setting h) (steps_of (setting h) rs) v r)
