-- Proof machinery: an accepted input: its run, and its report.
use Rattle.std.proofs.Common.{◌≡◌, ℕ, zero, suc, List, map, length, Option, None, Some, refl, subst}
use Rattle.pp_core.specs.declared.status.Status.TheVariants as statuses
use Rattle.pp_records.specs.Inputs.{IsRunReport}
use Rattle.pp_records.specs.Runs.{Lined, bare}
use Rattle.pp_format_read.specs.declared.header.Header.{Header}
use Rattle.pp_model.specs.Config.{first}
use Rattle.pp_model.specs.Object.{state}
use Rattle.pp_model.specs.Rules.{Accepted, Rejected, RunsFrom, StartMeets}
use Rattle.pp_model.specs.Serial.{attempts, committed_tx, serial}
use Rattle.pp_model.proofs.Verdict.{accepted_iff}
use Rattle.pp_report.specs.Reports.{accepted_text}
use Rattle.pp_judge.specs.Accepted.{HasRun}
use Rattle.pp_judge.specs.Inputs.{IsFaultOf, scan}
use Rattle.pp_judge.specs.Objects.{object_of, setting_of, start_of}
use Rattle.pp_judge.specs.Reports.{IsCertified, IsTold, RunReport}
use Rattle.pp_judge.specs.Scans.{InputScan}
use Rattle.pp_judge.proofs.Concluding.{faulty_by}

-- Each step of the run meets its criteria, and this is the report.
pub record IsAcceptedRun {sc : InputScan} (own : HasRun sc) (text : List ℕ) : Type 0 where
  pub begun : StartMeets (object_of own.header.what) (start_of own.header.what)
  pub hold : RunsFrom (object_of own.header.what) (first (start_of own.header.what)) (bare own.run)
  pub text_is : text ≡ accepted_text own.header.what.catalog (length own.run)
      (map committed_tx (attempts (start_of own.header.what) (bare own.run)))
      (state (object_of own.header.what) (serial (attempts (start_of own.header.what) (bare own.run))))

ran : (sc : InputScan) (o : Option (Lined Header)) (text : List ℕ) (report : RunReport) → sc.header ≡ o → IsRunReport setting_of o sc.records report → IsTold o report statuses.Accepted text
    → (own : HasRun sc) × IsAcceptedRun own text
ran sc None text report e r t = absurd r
ran sc (Some h) text report e (run, Accepted, is, v, r) t =
    let both = (accepted_iff (object_of h.what) (start_of h.what) (bare run)).0 v in
    let told = subst (λ (w : RunReport). IsTold (Some h) w statuses.Accepted text) r t in
    (record { header = h; run = run; first_line = e; steps = is }, record { begun = both.0; hold = both.1; text_is = told.1 })
ran sc (Some h) text report e (run, Rejected zero n, is, v, r) t =
    absurd (let told = subst (λ (w : RunReport). IsTold (Some h) w statuses.Accepted text) r t in let e : statuses.Accepted ≡ statuses.Rejected = told.0 in cc)
ran sc (Some h) text report e (run, Rejected (suc i) n, is, v, r) t =
    absurd (let told = subst (λ (w : RunReport). IsTold (Some h) w statuses.Accepted text) r.2 t in let e : statuses.Accepted ≡ statuses.Rejected = told.0 in cc)

-- An accepted input has no fault, and has such a run.
pub accepted_run : (bytes text : List ℕ) → IsCertified bytes statuses.Accepted text → IsFaultOf (scan bytes) None × ((own : HasRun (scan bytes)) × IsAcceptedRun own text)
accepted_run bytes text (report, (None, none, r), t) = (none, ran (scan bytes) (scan bytes).header text report refl r t)
accepted_run bytes text (report, (Some f, is, r), t) =
    absurd (faulty_by (scan bytes).header f.0 f.1 text (subst (λ (w : RunReport). IsTold (scan bytes).header w statuses.Accepted text) r t))
