-- Every input has a report, so `certify` and `expand` have an output for it.
use Rattle.std.specs.Prelude.{◌≡◌, ℕ, zero, suc, List, length, map, take, Option, None, Some}
use Rattle.std.proofs.Common.{refl, sym, subst}
use mathlib.Core.Logic.{inl, inr}
use Rattle.pp_core.specs.declared.status.Status.{Status}
use Rattle.pp_core.specs.declared.status.Status.TheVariants as statuses
use Rattle.pp_core.specs.declared.step.Rule.TheVariants as rules
use Rattle.pp_core.specs.Steps.{rule_of}
use Rattle.pp_cmd_quick.proofs.Verdicts.{some_verdict}
use Rattle.pp_records.proofs.Reporting.{input_law}
use Rattle.pp_records.proofs.Whole.{one_run_law}
use Rattle.pp_records.specs.Inputs.{Accepts, IsReportOf, IsRunReport, OverrunsAt, StartRejected, StepRejected, steps_of}
use Rattle.pp_records.specs.Laws.{up_to}
use Rattle.pp_records.specs.Runs.{Lined, LinedSteps, bare}
use Rattle.pp_format_read.specs.declared.header.Header.{Header}
use Rattle.pp_format_write.specs.RunTexts.{run_text}
use Rattle.pp_model.specs.Config.{after}
use Rattle.pp_model.specs.Object.{state}
use Rattle.pp_model.specs.Rules.{Accepted, IsVerdict, Rejected, Verdict}
use Rattle.pp_model.specs.Serial.{attempts, committed_tx, serial}
use Rattle.pp_objects.specs.Objects.{kinds_of, objects}
use Rattle.pp_objects.specs.declared.act.Op.{Op}
use Rattle.pp_report.specs.Reports.{accepted_text, rejected_text}
use Rattle.pp_machine.specs.Evidence.{evidence}
use Rattle.pp_input.specs.Limits.{usual_limits}
use Rattle.pp_input_reader.specs.FaultTexts.{fault_text}
use Rattle.pp_input_reader.specs.declared.cause.Cause.{Cause}
use Rattle.pp_input_reader.specs.declared.cause.Cause.TheVariants.{TooManySteps}
use Rattle.pp_judge.proofs.Concluding.{fault_report, run_report}
use Rattle.pp_judge.specs.Accepted.{HasRun}
use Rattle.pp_judge.specs.Inputs.{IsFaultOf, scan}
use Rattle.pp_judge.specs.Objects.{object_of, setting_of, start_of, translation_of}
use Rattle.pp_judge.specs.Reports.{IsCertified, IsExpanded, IsTold, RunReport, detail_of_start}
use Rattle.pp_laws_reports.proofs.Scanned.{header_of_sound, rejected_step}
use Rattle.pp_laws_reports.specs.Defined.{IsDefined}

-- An input is certified with a fault, or it has a run and is certified as accepted or as rejected.
module _ (bytes : List ℕ)
    (faulty : (text : List ℕ) → IsCertified bytes statuses.InputFault text → ⊥)
    (accepted : HasRun (scan bytes) → (text : List ℕ) → IsCertified bytes statuses.Accepted text → ⊥)
    (rejected : HasRun (scan bytes) → (text : List ℕ) → IsCertified bytes statuses.Rejected text → ⊥) where
  no_fault : (f : ℕ × Cause) → IsFaultOf (scan bytes) (Some f) → ⊥
  no_fault f is = faulty (fault_text f.0 f.1) (fault_report bytes f.0 f.1 (fault_text f.0 f.1) is refl)

  module _ (header : Lined Header) (here : (scan bytes).header ≡ Some header) (sound : IsFaultOf (scan bytes) None) where
    abbrev all_steps : LinedSteps Op
    all_steps = steps_of (setting_of header) (scan bytes).records

    abbrev IsVerdictOf : Verdict → Type 0
    IsVerdictOf v = IsVerdict (object_of header.what) (start_of header.what) (bare all_steps) v

    run_by : (v : Verdict) → IsVerdictOf v → HasRun (scan bytes)
    run_by v verdict =
        record {
          header = header;
          run = up_to v all_steps;
          first_line = here;
          steps = (one_run_law (object_of header.what) (translation_of header.what)).told (start_of header.what) (scan bytes).records v verdict;
        }

    abbrev Reported : Status → List ℕ → Option (Lined Header) → Type 0
    Reported status text o = (report : RunReport) × IsRunReport setting_of o (scan bytes).records report × IsTold o report status text

    certified_by : (v : Verdict) (report : RunReport) (status : Status) (text : List ℕ) → IsVerdictOf v →
        IsReportOf (setting_of header) all_steps v report → IsTold (Some header) report status text → IsCertified bytes status text
    certified_by v report status text verdict is printed =
        let reported : Reported status text (Some header) =
        (report, ((input_law setting_of TooManySteps).unfolded header (scan bytes).records report).1 (v, verdict, is), printed) in
        run_report bytes status text sound (subst (Reported status text) (sym here) reported)

    no_verdict : (v : Verdict) → IsVerdictOf v → ⊥
    no_verdict Accepted verdict =
        let committed = attempts (start_of header.what) (bare all_steps) in
        let final = state (object_of header.what) (serial committed) in
        let text = accepted_text header.what.catalog (length all_steps) (map committed_tx committed) final in
        accepted (run_by Accepted verdict) text (certified_by Accepted (Accepts (length all_steps) committed final) statuses.Accepted text verdict refl (refl, refl))
    no_verdict (Rejected zero n) verdict =
        let text = rejected_text header.what.catalog 0 header.line rules.Start n (detail_of_start (kinds_of header.what.catalog) (start_of header.what) n) in
        rejected (run_by (Rejected zero n) verdict) text (certified_by (Rejected zero n) (StartRejected header.line n) statuses.Rejected text verdict refl (refl, refl))
    no_verdict (Rejected (suc i) n) verdict =
        let at = rejected_step (object_of header.what) (start_of header.what) all_steps i n verdict in
        let before = after (start_of header.what) (bare (take i all_steps)) in
        let text = rejected_text header.what.catalog (suc i) at.0.line (rule_of at.0.what) n (evidence objects (kinds_of header.what.catalog) before at.0.what n) in
        rejected (run_by (Rejected (suc i) n) verdict) text
        (certified_by (Rejected (suc i) n) (StepRejected (suc i) at.0.line n before at.0.what) statuses.Rejected text verdict (at.0, at.1, refl) (refl, refl))

    no_run : ⊥
    no_run = some_verdict (object_of header.what) (start_of header.what) (bare all_steps) no_verdict

  -- It is impossible that an input without a fault has no report.
  pub some_report : ⊥
  some_report = within (λ line over. no_fault (line, TooManySteps) (inl (line, over, refl)))
    where
      within : ((line : ℕ) → OverrunsAt setting_of (scan bytes).header (scan bytes).records line → ⊥) → ⊥
      within few = by (scan bytes).fault refl
        where
          by : (o : Option (ℕ × Cause)) → (scan bytes).fault ≡ o → ⊥
          by (Some f) is = no_fault f (inr (few, sym is))
          by None is = let h = header_of_sound usual_limits bytes is in no_run h.0 h.1 (inr (few, sym is))

-- Every input has an output of `certify`.
pub certify_is_defined : (bytes : List ℕ) → IsDefined (IsCertified bytes)
certify_is_defined bytes none = some_report bytes (none statuses.InputFault) (λ run. none statuses.Accepted) (λ run. none statuses.Rejected)

abbrev printed_run : (bytes : List ℕ) → HasRun (scan bytes) → List ℕ
printed_run bytes r = run_text r.header.what.catalog r.header.what.start (bare r.run)

-- Every input has an output of `expand`.
pub expand_is_defined : (bytes : List ℕ) → IsDefined (IsExpanded bytes)
expand_is_defined bytes none =
    some_report bytes (λ report is. none statuses.InputFault report (report, is, refl))
    (λ run report is. none statuses.Accepted (printed_run bytes run) (report, is, (run, refl)))
    (λ run report is. none statuses.Rejected (printed_run bytes run) (report, is, (run, refl)))
