-- Every input has a report, however many steps it has, so `judge` has an output for it.
use Rattle.std.specs.Prelude.{◌≡◌, ℕ, zero, suc, List, length, map, take, Option, None, Some}
use Rattle.std.proofs.Common.{refl, sym, subst}
use mathlib.Core.Logic.{inl, inr}
use Rattle.pp_core.specs.declared.call.Kind.{Kind}
use Rattle.pp_core.specs.declared.status.Status.{Status}
use Rattle.pp_core.specs.declared.status.Status.TheVariants as statuses
use Rattle.pp_core.specs.declared.step.Rule.TheVariants as rules
use Rattle.pp_core.specs.Steps.{rule_of}
use Rattle.pp_records.proofs.Reporting.{input_law}
use Rattle.pp_records.specs.Inputs.{Accepts, IsRunReport, StartRejected, StepRejected, steps_of}
use Rattle.pp_records.specs.Records.{RunRecord}
use Rattle.pp_records.specs.Runs.{Lined, LinedSteps, Records, bare}
use Rattle.pp_format_read.specs.declared.header.Header.{Header}
use Rattle.pp_model.specs.Config.{after}
use Rattle.pp_model.specs.Object.{state}
use Rattle.pp_model.specs.Rules.{Accepted, IsVerdict, Rejected, Verdict}
use Rattle.pp_model.specs.Serial.{attempts, committed_tx, serial}
use Rattle.pp_objects.specs.Objects.{kinds_of, objects}
use Rattle.pp_objects.specs.declared.act.Op.{Op}
use Rattle.pp_report.specs.Reports.{accepted_text, rejected_text}
use Rattle.pp_machine.specs.Evidence.{evidence}
use Rattle.pp_input_reader.specs.FaultTexts.{fault_text}
use Rattle.pp_input_reader.specs.declared.cause.Cause.{Cause}
use Rattle.pp_input_reader.specs.declared.cause.Cause.TheVariants.{TooManySteps}
use Rattle.pp_judge.specs.Objects.{object_of, setting_of, start_of}
use Rattle.pp_judge.specs.Reports.{IsTold, RunReport, detail_of_start}
use Rattle.pp_cmd_quick.proofs.Verdicts.{some_verdict}
use Rattle.pp_cmd_judge.proofs.Reporting.{fault_reported, run_reported}
use Rattle.pp_cmd_judge.specs.Inputs.{judge_limits, judge_scan}
use Rattle.pp_cmd_judge.specs.Judgements.{IsJudgeFault, IsJudgeOutput, PassesStepsOn}
use Rattle.pp_laws_reports.proofs.Scanned.{header_of_sound, rejected_step}
use Rattle.pp_laws_reports.specs.Defined.{IsDefined}

-- records after a header have a report, with a status and a text
module _ (header : Lined Header) (rs : Records (RunRecord Op)) where
  abbrev all : LinedSteps Op
  all = steps_of (setting_of header) rs

  abbrev kinds : List Kind
  kinds = kinds_of header.what.catalog

  abbrev Nowhere : Type 0
  Nowhere = (report : RunReport) (status : Status) (text : List ℕ) → IsRunReport setting_of (Some header) rs report → IsTold (Some header) report status text → ⊥

  no_verdict : Nowhere → (v : Verdict) → IsVerdict (object_of header.what) (start_of header.what) (bare all) v → ⊥
  no_verdict none Accepted verdict =
      let committed = attempts (start_of header.what) (bare all) in
      let final = state (object_of header.what) (serial committed) in
      let report : RunReport = Accepts (length all) committed final in
      none report statuses.Accepted (accepted_text header.what.catalog (length all) (map committed_tx committed) final)
      (((input_law setting_of TooManySteps).unfolded header rs report).1 (Accepted, verdict, refl)) (refl, refl)
  no_verdict none (Rejected zero n) verdict =
      let report : RunReport = StartRejected header.line n in
      none report statuses.Rejected (rejected_text header.what.catalog 0 header.line rules.Start n (detail_of_start kinds (start_of header.what) n))
      (((input_law setting_of TooManySteps).unfolded header rs report).1 (Rejected 0 n, verdict, refl)) (refl, refl)
  no_verdict none (Rejected (suc i) n) verdict =
      let at = rejected_step (object_of header.what) (start_of header.what) all i n verdict in
      let before = after (start_of header.what) (bare (take i all)) in
      let report : RunReport = StepRejected (suc i) at.0.line n before at.0.what in
      none report statuses.Rejected (rejected_text header.what.catalog (suc i) at.0.line (rule_of at.0.what) n (evidence objects kinds before at.0.what n))
      (((input_law setting_of TooManySteps).unfolded header rs report).1 (Rejected (suc i) n, verdict, (at.0, at.1, refl))) (refl, refl)

  some_told : Nowhere → ⊥
  some_told none = some_verdict (object_of header.what) (start_of header.what) (bare all) (no_verdict none)

-- the records of an input have this status and text
abbrev Told : List ℕ → Status → List ℕ → Option (Lined Header) → Type 0
Told bytes status text o = (report : RunReport) × IsRunReport setting_of o (judge_scan bytes).records report × IsTold o report status text

-- It is impossible that `judge` has no status and no text for an input.
pub judge_is_defined : (bytes : List ℕ) → IsDefined (IsJudgeOutput bytes)
judge_is_defined bytes none = within (λ line over. faulty (line, TooManySteps) (inl (line, over, refl)))
  where
    faulty : (f : ℕ × Cause) → IsJudgeFault (judge_scan bytes) (Some f) → ⊥
    faulty f is = none statuses.InputFault (fault_text f.0 f.1) (fault_reported bytes f.0 f.1 (fault_text f.0 f.1) is refl)

    within : ((line : ℕ) → PassesStepsOn (judge_scan bytes).header (judge_scan bytes).records line → ⊥) → ⊥
    within few = by (judge_scan bytes).fault refl
      where
        by : (fault : Option (ℕ × Cause)) → (judge_scan bytes).fault ≡ fault → ⊥
        by (Some f) is = faulty f (inr (few, sym is))
        by None is =
            let h = header_of_sound judge_limits bytes is in
            some_told h.0 (judge_scan bytes).records (λ report status text reported printed.
            none status text (run_reported bytes status text (inr (few, sym is)) (subst (Told bytes status text) (sym h.1) (report, reported, printed))))
