-- An input is decided in one way at most, which is the verdict of all its steps.
use Rattle.std.specs.Prelude.{◌≡◌, ℕ, zero, suc, List, length, map, Option, None, Some}
use Rattle.std.proofs.Common.{refl, sym, ap, ◌∙◌, subst}
use Rattle.std.proofs.lemmas.Option.{same_Some}
use mathlib.Core.Logic.{inl, inr}
use Rattle.pp_core.specs.declared.call.Style.TheVariants.{Boosted}
use Rattle.pp_core.specs.declared.status.Status.{Status}
use Rattle.pp_records.specs.Inputs.{IsFault, IsReport, IsReportBehind, IsReportOf, IsRunReport}
use Rattle.pp_records.specs.Records.{RunRecord}
use Rattle.pp_records.specs.Runs.{Lined, Records, bare}
use Rattle.pp_records.proofs.Reporting.{input_law}
use Rattle.pp_format_read.specs.declared.header.Header.{Header}
use Rattle.pp_model.specs.Config.{Step}
use Rattle.pp_model.specs.Rules.{Accepted, Rejected, StartMeets, Verdict}
use Rattle.pp_model.specs.Serial.{committed_tx}
use Rattle.pp_model.proofs.Verdict.{accepted_iff, one_verdict}
use Rattle.pp_objects.specs.declared.act.Op.{Op}
use Rattle.pp_summary.specs.Failures.{FailureLaw}
use Rattle.pp_summary.proofs.Failures.{failure_law}
use Rattle.pp_input_reader.specs.declared.cause.Cause.{Cause}
use Rattle.pp_input_reader.specs.declared.cause.Cause.TheVariants.{TooManySteps}
use Rattle.pp_judge.specs.Inputs.{scan}
use Rattle.pp_judge.specs.Objects.{object_of, setting_of, start_of, translation_of}
use Rattle.pp_judge.specs.Reports.{RunReport}
use Rattle.pp_judge.specs.Scans.{InputScan}
use Rattle.pp_cmd_quick.specs.Decisions.{Accepts, Decision, FailsOn, Faulty, IsDecision, IsDecisionBehind, IsDecisionOf, IsDecisionTold, IsQuick, IsVerdictBehind, Rejects, acceptance, quick_fault, steps_behind}
use Rattle.pp_cmd_quick.specs.Reports.{quick_accepted_text}
use Rattle.pp_cmd_quick.specs.Laws.{DecisionLaw, IsSameDecision, TellsVerdict}
use Rattle.pp_cmd_quick.specs.DeciderLaws.{boosted_fault, none_fails}
use Rattle.pp_cmd_quick.proofs.Verdicts.{some_verdict}

module _ (header : Lined Header) (rs : Records (RunRecord Op)) where
  abbrev O_law : FailureLaw (object_of header.what) (translation_of header.what)
  O_law = failure_law (object_of header.what) (translation_of header.what)

  -- ---- at most one decision

  one_line : (m n : ℕ) → FailsOn header rs m → FailsOn header rs n → m ≡ n
  one_line m n (inl a) (inl b) = a.1 ∙ sym b.1
  one_line m n (inl a) (inr b) = absurd (a.0 b.1.begun)
  one_line m n (inr a) (inl b) = absurd (b.0 a.1.begun)
  one_line m n (inr a) (inr b) =
      a.2 ∙ ap (λ (r : Lined (RunRecord Op)). r.line) (O_law.one (start_of header.what) rs a.0 b.0 a.1 b.1).0 ∙ sym b.2

  one_of : (d e : Decision) → IsDecisionOf header rs d → IsDecisionOf header rs e → d ≡ e
  one_of d e (inl a) (inl b) = a.1 ∙ sym b.1
  one_of d e (inl a) (inr b) = absurd (none_fails header rs b.0 a.0 b.1)
  one_of d e (inr a) (inl b) = absurd (none_fails header rs a.0 b.0 a.1)
  one_of d e (inr a) (inr b) = a.2 ∙ ap (λ (n : ℕ). Rejects n) (one_line a.0 b.0 a.1 b.1) ∙ sym b.2

  -- ---- at least one decision

  some_decision : ((d : Decision) → IsDecisionOf header rs d → ⊥) → ⊥
  some_decision nowhere =
      let unmet : StartMeets (object_of header.what) (start_of header.what) → ⊥ = λ m.
      O_law.some (start_of header.what) rs m (λ hold. nowhere (acceptance header.what rs) (inl ((m, hold), refl)))
      (λ r f. nowhere (Rejects r.line) (inr (r.line, inr (r, f, refl), refl))) in
      nowhere (Rejects header.line) (inr (header.line, inl (unmet, refl), refl))

  some_of : ((d : Decision) (v : Verdict) → IsDecisionOf header rs d → IsVerdictBehind header.what rs v → ⊥) → ⊥
  some_of nowhere =
      some_decision (λ d is. some_verdict (object_of header.what) (start_of header.what) (bare (steps_behind header.what rs)) (λ v verdict. nowhere d v is verdict))

  -- ---- the decision is the verdict of all steps

  told_failing : (line : ℕ) (d : Decision) (v : Verdict) → FailsOn header rs line → d ≡ Rejects line → IsVerdictBehind header.what rs v → TellsVerdict header rs v d
  told_failing line d v (inl k) is verdict =
      let n = O_law.unbegun (start_of header.what) rs v k.0 verdict in
      subst (λ (w : Verdict). TellsVerdict header rs w d) (sym n.1) (is ∙ ap (λ (m : ℕ). Rejects m) k.1)
  told_failing line d v (inr k) is verdict =
      let n = O_law.verdict (start_of header.what) rs k.0 v k.1 verdict in
      subst (λ (w : Verdict). TellsVerdict header rs w d) (sym n.2) (n.3.0, n.3.1, is ∙ ap (λ (m : ℕ). Rejects m) (k.2 ∙ sym n.3.2))

  told_verdict : (d : Decision) (v : Verdict) → IsDecisionOf header rs d → IsVerdictBehind header.what rs v → TellsVerdict header rs v d
  told_verdict d v (inl a) verdict =
      let accepted = (accepted_iff (object_of header.what) (start_of header.what) (bare (steps_behind header.what rs))).1 a.0 in
      let same : Accepted ≡ v = one_verdict (object_of header.what) (start_of header.what) (bare (steps_behind header.what rs)) Accepted v accepted verdict in
      subst (λ (w : Verdict). TellsVerdict header rs w d) same a.1
  told_verdict d v (inr a) verdict = told_failing a.0 d v a.1 a.2 verdict

  -- ---- the decision is what `certify` reports

  same_of : (v : Verdict) (report : RunReport) (d : Decision) → IsReportOf (setting_of header) (steps_behind header.what rs) v report → TellsVerdict header rs v d → IsSameDecision report d
  same_of Accepted report d k t = subst (λ (w : RunReport). IsSameDecision w d) (sym k) (length rs, t)
  same_of (Rejected zero n) report d k t = subst (λ (w : RunReport). IsSameDecision w d) (sym k) t
  same_of (Rejected (suc i) n) report d k t =
      subst (λ (w : RunReport). IsSameDecision w d) (sym k.2)
      (t.2 ∙ ap (λ (s : Lined (Step Op)). Rejects s.line) (same_Some t.0 k.0 (sym t.1 ∙ k.1)))

-- ---- the decision about an input

one_decision : (sc : InputScan) (d e : Decision) → IsDecision sc d → IsDecision sc e → d ≡ e
one_decision sc d e x y = by (quick_fault sc) x y
  where
    by : (o : Option (ℕ × Cause)) → IsDecisionBehind o sc d → IsDecisionBehind o sc e → d ≡ e
    by (Some fault) a b = a ∙ sym b
    by None a b =
        let same : a.0 ≡ b.0 = same_Some a.0 b.0 (sym a.1 ∙ b.1) in
        one_of b.0 sc.records d e (subst (λ (h : Lined Header). IsDecisionOf h sc.records d) same a.2) b.2

one_told : (header : Option (Lined Header)) (d : Decision) (s s' : Status) (t t' : List ℕ) → IsDecisionTold header d s t → IsDecisionTold header d s' t' → (s ≡ s') × (t ≡ t')
one_told header (Faulty line cause) s s' t t' a b = (a.0 ∙ sym b.0, a.1 ∙ sym b.1)
one_told header (Accepts records committed final) s s' t t' a b =
    let same : a.1.0 ≡ b.1.0 = same_Some a.1.0 b.1.0 (sym a.1.1 ∙ b.1.1) in
    (a.0 ∙ sym b.0, a.1.2 ∙ ap (λ (h : Lined Header). quick_accepted_text h.what.catalog records (map committed_tx committed) final) same ∙ sym b.1.2)
one_told header (Rejects line) s s' t t' a b = (a.0 ∙ sym b.0, a.1 ∙ sym b.1)

-- An input has one status and one text at most.
pub one_quick : (bytes : List ℕ) (s s' : Status) (t t' : List ℕ) → IsQuick bytes s t → IsQuick bytes s' t' → (s ≡ s') × (t ≡ t')
one_quick bytes s s' t t' x y =
    let same : x.0 ≡ y.0 = one_decision (scan bytes) x.0 y.0 x.1 y.1 in
    one_told (scan bytes).header y.0 s s' t t' (subst (λ (d : Decision). IsDecisionTold (scan bytes).header d s t) same x.2) y.2

agrees : (sc : InputScan) (header : Lined Header) (report : RunReport) (d : Decision) → sc.header ≡ Some header → header.what.style ≡ Boosted → IsReport setting_of TooManySteps sc report → IsDecision sc d → IsSameDecision report d
agrees sc header report d there style (fault, is, told) decision = by fault is told
  where
    without : sc.fault ≡ None → IsReportBehind setting_of None sc report → IsSameDecision report d
    without none told =
        let no_fault : quick_fault sc ≡ None = boosted_fault sc header there style ∙ none in
        let decided = subst (λ (o : Option (ℕ × Cause)). IsDecisionBehind o sc d) no_fault decision in
        let same : decided.0 ≡ header = same_Some decided.0 header (sym decided.1 ∙ there) in
        let here = subst (λ (h : Lined Header). IsDecisionOf h sc.records d) same decided.2 in
        let run = subst (λ (o : Option (Lined Header)). IsRunReport setting_of o sc.records report) there told in
        let all = ((input_law setting_of TooManySteps).unfolded header sc.records report).0 run in
        same_of header sc.records all.0 report d all.2 (told_verdict header sc.records d all.0 here all.1)

    by : (o : Option (ℕ × Cause)) → IsFault setting_of TooManySteps sc o → IsReportBehind setting_of o sc report → IsSameDecision report d
    by (Some f) (inl k) t =
        let many : f ≡ (k.0, TooManySteps) = same_Some f (k.0, TooManySteps) k.2 in
        subst (λ (w : RunReport). IsSameDecision w d) (sym t) (λ other. absurd (other (ap (λ (g : ℕ × Cause). g.1) many)))
    by (Some f) (inr k) t =
        let same : quick_fault sc ≡ Some f = boosted_fault sc header there style ∙ sym k.1 in
        let decided : d ≡ Faulty f.0 f.1 = subst (λ (o : Option (ℕ × Cause)). IsDecisionBehind o sc d) same decision in
        subst (λ (w : RunReport). IsSameDecision w d) (sym t) (λ other. decided)
    by None (inl k) t = absurd (let e : None ≡ Some (k.0, TooManySteps) = k.2 in cc)
    by None (inr k) t = without (sym k.1) t

-- An input has at most one output, and its decision is the verdict of all its steps. For a boosted run it is what `certify` reports.
pub decided : DecisionLaw
decided =
    record {
      one = one_quick;
      some = some_of;
      verdict = told_verdict;
      agrees = agrees;
    }
