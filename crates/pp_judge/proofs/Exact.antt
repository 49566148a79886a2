-- Accepted means that each step meets its criteria.
use Rattle.std.specs.Prelude.{◌≡◌, ℕ, zero, suc, List, length, Option, None, Some}
use Rattle.std.proofs.Common.{refl, sym, subst}
use Rattle.pp_core.specs.declared.status.Status.{Status}
use Rattle.pp_core.specs.declared.status.Status.TheVariants as statuses
use Rattle.pp_records.proofs.Reporting.{input_law}
use Rattle.pp_records.proofs.Whole.{one_run_law}
use Rattle.pp_records.specs.Inputs.{Accepts, IsReport, IsReportBehind, IsReportOf, IsRunReport}
use Rattle.pp_records.specs.Records.{RunRecord}
use Rattle.pp_records.specs.Runs.{Lined, LinedSteps, Records, bare, joined_steps, outset}
use Rattle.pp_format_read.specs.declared.header.Header.{Header}
use Rattle.pp_model.proofs.Verdict.{accepted_iff}
use Rattle.pp_model.specs.Config.{first}
use Rattle.pp_model.specs.Object.{state}
use Rattle.pp_model.specs.Rules.{Accepted, IsVerdict, Rejected, RunsFrom, StartMeets, Verdict}
use Rattle.pp_model.specs.Serial.{attempts, serial}
use Rattle.pp_objects.specs.declared.act.Op.{Op}
use Rattle.pp_input_reader.specs.declared.cause.Cause.{Cause}
use Rattle.pp_input_reader.specs.declared.cause.Cause.TheVariants.{TooManySteps}
use Rattle.pp_judge.specs.Accepted.{EachStepMeets, IsAloneAccepted, IsExact, IsSimulated}
use Rattle.pp_judge.specs.Inputs.{IsFaultOf, scan}
use Rattle.pp_judge.specs.Objects.{object_of, setting_of, start_of, translation_of}
use Rattle.pp_judge.specs.Reports.{IsCertified, IsTold, RunReport}
use Rattle.pp_judge.specs.Scans.{InputScan}
use Rattle.pp_judge.proofs.Concluding.{AcceptedRun, faulty_by, run_alone, run_simulated}

-- all steps behind a header, in its style
abbrev pub steps_behind : Lined Header → Records (RunRecord Op) → LinedSteps Op
steps_behind h rs = joined_steps (translation_of h.what) (outset (translation_of h.what) (start_of h.what)) rs

-- `EachStepMeets`, of a header that may be missing
pub record Meeting (o : Option (Lined Header)) (rs : Records (RunRecord Op)) : Type 0 where
  pub header : Lined Header
  pub first_line : o ≡ Some header
  pub start : StartMeets (object_of header.what) (start_of header.what)
  pub steps : RunsFrom (object_of header.what) (first (start_of header.what)) (bare (steps_behind header rs))

verdict_meets : (h : Lined Header) (rs : Records (RunRecord Op)) (report : RunReport) (text : List ℕ) (v : Verdict) → IsVerdict (object_of h.what) (start_of h.what) (bare (steps_behind h rs)) v
    → IsReportOf (setting_of h) (steps_behind h rs) v report → IsTold (Some h) report statuses.Accepted text → Meeting (Some h) rs
verdict_meets h rs report text Accepted v r t =
    let both = (accepted_iff (object_of h.what) (start_of h.what) (bare (steps_behind h rs))).0 v in
    record { header = h; first_line = refl; start = both.0; steps = both.1 }
verdict_meets h rs report text (Rejected zero n) v r t =
    absurd (let told = subst (λ (w : RunReport). IsTold (Some h) w statuses.Accepted text) r t in let e : statuses.Accepted ≡ statuses.Rejected = told.0 in cc)
verdict_meets h rs report text (Rejected (suc i) n) v r t =
    absurd (let told = subst (λ (w : RunReport). IsTold (Some h) w statuses.Accepted text) r.2 t in let e : statuses.Accepted ≡ statuses.Rejected = told.0 in cc)

report_meets : (o : Option (Lined Header)) (rs : Records (RunRecord Op)) (report : RunReport) (text : List ℕ) → IsRunReport setting_of o rs report → IsTold o report statuses.Accepted text → Meeting o rs
report_meets None rs report text r t = absurd r
report_meets (Some h) rs report text r t =
    let k = ((input_law setting_of TooManySteps).unfolded h rs report).0 r in
    verdict_meets h rs report text k.0 k.1 k.2 t

-- an input that is accepted has no fault, and its steps meet their criteria
pub behind_meets : (fault : Option (ℕ × Cause)) (sc : InputScan) (report : RunReport) (text : List ℕ) → IsReportBehind setting_of fault sc report → IsTold sc.header report statuses.Accepted text
    → (fault ≡ None) × Meeting sc.header sc.records
behind_meets (Some f) sc report text r t = absurd (faulty_by sc.header f.0 f.1 text (subst (λ (w : RunReport). IsTold sc.header w statuses.Accepted text) r t))
behind_meets None sc report text r t = (refl, report_meets sc.header sc.records report text r t)

accepted_meets : (bytes text : List ℕ) → IsCertified bytes statuses.Accepted text → IsFaultOf (scan bytes) None × EachStepMeets (scan bytes)
accepted_meets bytes text r =
    let k = behind_meets r.1.0 (scan bytes) r.0 text r.1.2 r.2 in
    let m = k.1 in (
      subst (λ (fault : Option (ℕ × Cause)). IsFaultOf (scan bytes) fault) k.0 r.1.1,
      record { header = m.header; first_line = m.first_line; start = m.start; steps = m.steps },
    )

-- the report of a run whose steps meet their criteria
pub meets_run_report : (sc : InputScan) (m : EachStepMeets sc) → (report : RunReport) × IsRunReport setting_of sc.header sc.records report
    × ((status : Status) (text : List ℕ) → IsTold sc.header report status text → status ≡ statuses.Accepted)
meets_run_report sc m =
    let h = m.header in
    let ss = steps_behind h sc.records in
    let as' = attempts (start_of h.what) (bare ss) in
    let report : RunReport = Accepts (length ss) as' (state (object_of h.what) (serial as')) in
    let accepted = (accepted_iff (object_of h.what) (start_of h.what) (bare ss)).1 (m.start, m.steps) in
    let behind : IsRunReport setting_of (Some h) sc.records report = ((input_law setting_of TooManySteps).unfolded h sc.records report).1 (Accepted, accepted, refl) in (
      report,
      subst (λ (o : Option (Lined Header)). IsRunReport setting_of o sc.records report) (sym m.first_line) behind,
      λ status text t. let told = subst (λ (o : Option (Lined Header)). IsTold o report status text) m.first_line t in told.0,
    )

-- the report of an input whose steps meet their criteria
meets_report : (sc : InputScan) → IsFaultOf sc None → (m : EachStepMeets sc) → (report : RunReport) × IsReport setting_of TooManySteps sc report
    × ((status : Status) (text : List ℕ) → IsTold sc.header report status text → status ≡ statuses.Accepted)
meets_report sc none m = let k = meets_run_report sc m in (k.0, (None, none, k.1), k.2)

meets_accepted : (bytes : List ℕ) (status : Status) (text : List ℕ) → IsCertified bytes status text → IsFaultOf (scan bytes) None → EachStepMeets (scan bytes) → status ≡ statuses.Accepted
meets_accepted bytes status text r none m =
    let k = meets_report (scan bytes) none m in
    let same : r.0 ≡ k.0 = (input_law setting_of TooManySteps).one_report (scan bytes) r.0 k.0 r.1 k.1 in
    k.2 status text (subst (λ (w : RunReport). IsTold (scan bytes).header w status text) same r.2)

-- An input is certified as accepted exactly if it has no fault and each step meets its criteria.
pub certified_exact : (bytes : List ℕ) (status : Status) (text : List ℕ) → IsCertified bytes status text → IsExact bytes status
certified_exact bytes status text r = (
  λ accepted. accepted_meets bytes text (subst (λ (s : Status). IsCertified bytes s text) accepted r),
  λ both. meets_accepted bytes status text r both.0 both.1,
)

-- ---- what follows for the committed transactions

-- the run of steps that all meet their criteria is all of them
meets_run : (sc : InputScan) → EachStepMeets sc → AcceptedRun sc.header sc.records
meets_run sc m =
    let h = m.header in
    let ss = steps_behind h sc.records in
    let accepted = (accepted_iff (object_of h.what) (start_of h.what) (bare ss)).1 (m.start, m.steps) in
    record {
      header = h;
      run = ss;
      first_line = m.first_line;
      steps = (one_run_law (object_of h.what) (translation_of h.what)).told (start_of h.what) sc.records Accepted accepted;
      begun = m.start;
      hold = m.steps;
    }

-- If each step meets its criteria, the committed transactions in commit order simulate the run.
pub meets_simulated : (sc : InputScan) → EachStepMeets sc → IsSimulated sc
meets_simulated sc m = run_simulated sc (meets_run sc m)

-- If each step meets its criteria, the committed transactions run alone too.
pub meets_alone : (sc : InputScan) → EachStepMeets sc → IsAloneAccepted sc
meets_alone sc m = run_alone sc (meets_run sc m)
