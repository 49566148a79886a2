-- Every input has a decision, so `quick` has an output for it.
use Rattle.std.specs.Prelude.{◌≡◌, ℕ, List, map, Option, None, Some}
use Rattle.std.proofs.Common.{refl, sym, subst}
use Rattle.pp_core.specs.declared.status.Status.{Status}
use Rattle.pp_core.specs.declared.status.Status.TheVariants as statuses
use Rattle.pp_records.specs.Runs.{Lined}
use Rattle.pp_format_read.specs.declared.header.Header.{Header}
use Rattle.pp_model.specs.Serial.{committed_tx}
use Rattle.pp_input.specs.Limits.{usual_limits}
use Rattle.pp_input_reader.specs.FaultTexts.{fault_text}
use Rattle.pp_input_reader.specs.declared.cause.Cause.{Cause}
use Rattle.pp_input_reader.specs.declared.cause.Cause.TheVariants.{NotBoosted}
use Rattle.pp_judge.specs.Inputs.{scan}
use Rattle.pp_cmd_quick.proofs.Decided.{decided}
use Rattle.pp_cmd_quick.specs.Decisions.{Accepts, Decision, Faulty, IsDecisionBehind, IsDecisionTold, IsQuick, Rejects, is_boosted, quick_fault, style_fault}
use Rattle.pp_cmd_quick.specs.Reports.{quick_accepted_text, quick_rejected_text}
use Rattle.pp_laws_reports.proofs.Scanned.{header_of_sound}
use Rattle.pp_laws_reports.specs.Defined.{IsDefined}

-- a decision after a header has a status and a text
printed : (header : Option (Lined Header)) (h : Lined Header) → header ≡ Some h → (d : Decision) → (status : Status) × (text : List ℕ) × IsDecisionTold header d status text
printed header h here (Faulty line cause) = (statuses.InputFault, fault_text line cause, (refl, refl))
printed header h here (Accepts records committed final) =
    (statuses.Accepted, quick_accepted_text h.what.catalog records (map committed_tx committed) final, (refl, (h, here, refl)))
printed header h here (Rejects line) = (statuses.Rejected, quick_rejected_text line, (refl, refl))

-- An input without a fault for `quick` has a header.
header_of_quick : (bytes : List ℕ) → quick_fault (scan bytes) ≡ None → (header : Lined Header) × ((scan bytes).header ≡ Some header)
header_of_quick bytes sound = by (scan bytes).header refl
  where
    by : (o : Option (Lined Header)) → (scan bytes).header ≡ o → (header : Lined Header) × ((scan bytes).header ≡ Some header)
    by (Some h) is = (h, is)
    by None is = header_of_sound usual_limits bytes (subst (λ (o : Option (Lined Header)). style_fault is_boosted NotBoosted o (scan bytes).fault ≡ None) is sound)

-- Every input has an output of `quick`.
pub quick_is_defined : (bytes : List ℕ) → IsDefined (IsQuick bytes)
quick_is_defined bytes none = by (quick_fault (scan bytes)) refl
  where
    by : (fault : Option (ℕ × Cause)) → quick_fault (scan bytes) ≡ fault → ⊥
    by (Some f) is =
        let decision : Decision = Faulty f.0 f.1 in
        none statuses.InputFault (fault_text f.0 f.1) (decision, subst (λ (o : Option (ℕ × Cause)). IsDecisionBehind o (scan bytes) decision) (sym is) refl, (refl, refl))
    by None is =
        let h = header_of_quick bytes is in
        decided.some h.0 (scan bytes).records (λ decision v of verdict.
        let p = printed (scan bytes).header h.0 h.1 decision in
        none p.0 p.1 (decision, subst (λ (o : Option (ℕ × Cause)). IsDecisionBehind o (scan bytes) decision) (sym is) (h.0, h.1, of), p.2))
