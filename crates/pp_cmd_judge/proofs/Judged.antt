-- An input is judged in one way at most, and as `certify` reports it.
use Rattle.std.specs.Prelude.{◌≡◌, ◌<◌, ◌↔◌, ℕ, zero, suc, List, ◌∷◌, ◌++◌, length, take, Option, None, Some}
use Rattle.std.proofs.Common.{refl, sym, ap, ◌∙◌, subst, lit≤, arith, append_assoc}
use Rattle.std.proofs.lemmas.Option.{same_Some}
use mathlib.Core.Logic.{inl, inr}
use Rattle.pp_core.specs.declared.status.Status.{Status}
use Rattle.pp_core.specs.declared.status.Status.TheVariants as statuses
use Rattle.pp_records.specs.Inputs.{IsFault, IsReport, IsReportBehind, IsReportOf, IsRunReport}
use Rattle.pp_records.specs.Inputs.{OverrunsAt, StepRejected}
use Rattle.pp_records.specs.Records.{RunRecord}
use Rattle.pp_records.specs.Runs.{HasOneMore, Lined, LinedSteps, Records, bare}
use Rattle.pp_records.proofs.Ends.{bare_append, runs_front}
use Rattle.pp_records.proofs.Reporting.{input_law}
use Rattle.pp_format_read.specs.declared.header.Header.{Header}
use Rattle.pp_model.specs.Config.{Step, after, first}
use Rattle.pp_model.specs.Rules.{Accepted, Rejected, RunsFrom, Verdict}
use Rattle.pp_model.proofs.Verdict.{one_verdict}
use Rattle.pp_objects.specs.declared.act.Op.{Op}
use Rattle.pp_input.specs.Limits.{usual_limits}
use Rattle.pp_input_reader.specs.declared.cause.Cause.{Cause}
use Rattle.pp_input_reader.specs.declared.cause.Cause.TheVariants.{TooManySteps, TooManyTransactions}
use Rattle.pp_judge.proofs.Concluding.{told_once}
use Rattle.pp_judge.proofs.Exact.{behind_meets, meets_run_report}
use Rattle.pp_judge.proofs.WiderLimits.{same_under_wider}
use Rattle.pp_judge.specs.Accepted.{EachStepMeets}
use Rattle.pp_judge.specs.Inputs.{scan}
use Rattle.pp_judge.specs.Objects.{object_of, setting_of, start_of}
use Rattle.pp_judge.specs.Reports.{IsCertified, IsTold, RunReport}
use Rattle.pp_judge.specs.Scans.{InputScan}
use Rattle.pp_judge.specs.WiderLimits.{AreWider, HasAllowedSize}
use Rattle.pp_cmd_quick.specs.Decisions.{steps_behind}
use Rattle.pp_cmd_judge.proofs.AnyBegins.{any_begins}
use Rattle.pp_cmd_judge.proofs.AnyLength.{any_length}
use Rattle.pp_cmd_judge.proofs.AnySteps.{any_steps, many_steps}
use Rattle.pp_cmd_judge.specs.Inputs.{judge_limits, judge_scan}
use Rattle.pp_cmd_judge.specs.Judgements.{IsJudgeFault, IsJudgeOutput, IsJudgedExactly, IsJudgement, PassesStepsOn}
use Rattle.pp_cmd_judge.specs.Laws.{IsWithinCertify, JudgementLaw}
use Rattle.pp_cmd_judge.specs.StyleLaws.{one_fault}
use Rattle.pp_cmd_judge.proofs.Ending.{parted_at}

-- ---- one report at most

one_of : (h : Lined Header) (all : LinedSteps Op) (v : Verdict) (r q : RunReport) → IsReportOf (setting_of h) all v r → IsReportOf (setting_of h) all v q → r ≡ q
one_of h all Accepted r q a b = a ∙ sym b
one_of h all (Rejected zero n) r q a b = a ∙ sym b
one_of h all (Rejected (suc i) n) r q a b =
    a.2 ∙ ap (λ (w : Lined (Step Op)). let x : RunReport = StepRejected (suc i) w.line n (after (start_of h.what) (bare (take i all))) w.what in x) (same_Some a.0 b.0 (sym a.1 ∙ b.1)) ∙ sym b.2

one_run_report : (o : Option (Lined Header)) (rs : Records (RunRecord Op)) (r q : RunReport) → IsRunReport setting_of o rs r → IsRunReport setting_of o rs q → r ≡ q
one_run_report None rs r q a b = absurd a
one_run_report (Some h) rs r q a b =
    let all : LinedSteps Op = steps_behind h.what rs in
    let x = ((input_law setting_of TooManySteps).unfolded h rs r).0 a in
    let y = ((input_law setting_of TooManySteps).unfolded h rs q).0 b in
    let same : x.0 ≡ y.0 = one_verdict (object_of h.what) (start_of h.what) (bare all) x.0 y.0 x.1 y.1 in
    one_of h all y.0 r q (subst (λ (w : Verdict). IsReportOf (setting_of h) all w r) same x.2) y.2

one_behind : (f : Option (ℕ × Cause)) (sc : InputScan) (r q : RunReport) → IsReportBehind setting_of f sc r → IsReportBehind setting_of f sc q → r ≡ q
one_behind (Some f) sc r q a b = a ∙ sym b
one_behind None sc r q a b = one_run_report sc.header sc.records r q a b

-- a scan has at most one report
pub one_judgement : (sc : InputScan) (r q : RunReport) → IsJudgement sc r → IsJudgement sc q → r ≡ q
one_judgement sc r q a b = one_behind b.0 sc r q (subst (λ (o : Option (ℕ × Cause)). IsReportBehind setting_of o sc r) (one_fault sc a.0 b.0 a.1 b.1) a.2) b.2

-- an input has at most one status and one text
pub one_judged : (bytes : List ℕ) (s s' : Status) (t t' : List ℕ) → IsJudgeOutput bytes s t → IsJudgeOutput bytes s' t' → (s ≡ s') × (t ≡ t')
one_judged bytes s s' t t' a b =
    let same : a.0 ≡ b.0 = one_judgement (judge_scan bytes) a.0 b.0 a.1 b.1 in
    told_once (judge_scan bytes).header b.0 s s' t t' (subst (λ (w : RunReport). IsTold (judge_scan bytes).header w s t) same a.2) b.2

-- ---- the same as `certify`

-- if steps are more than a number, they are more than a smaller one
fewer_more : (h : Lined Header) (most less : ℕ) (ss : LinedSteps Op) (line : ℕ) → less < most → HasOneMore (object_of h.what) most (first (start_of h.what)) ss line
    → (at : ℕ) × HasOneMore (object_of h.what) less (first (start_of h.what)) ss at
fewer_more h most less ss line short m =
    let within : less < length m.before = omega (arith, m.count, short) in
    let p = parted_at m.before less within in
    let front : LinedSteps Op = p.0 in
    let whole : m.before ≡ front ++ p.1 ∷ p.2 = p.3 in (
      p.1.line,
      record {
        before = front;
        next = p.1;
        behind = p.2 ++ m.next ∷ m.behind;
        parts = m.parts ∙ ap (λ (w : LinedSteps Op). w ++ m.next ∷ m.behind) whole ∙ append_assoc front (p.1 ∷ p.2) (m.next ∷ m.behind);
        count = p.4;
        hold = runs_front (object_of h.what) (first (start_of h.what)) (bare front) (bare (p.1 ∷ p.2))
            (subst (λ (w : List (Step Op)). RunsFrom (object_of h.what) (first (start_of h.what)) w) (ap (λ (w : LinedSteps Op). bare w) whole ∙ bare_append front (p.1 ∷ p.2)) m.hold);
        place = refl;
      },
    )

-- an input that passes the limit of `judge` on steps passes that of `certify`
passes_both : (o : Option (Lined Header)) (rs : Records (RunRecord Op)) (line : ℕ) → PassesStepsOn o rs line → (at : ℕ) × OverrunsAt setting_of o rs at
passes_both None rs line over = absurd over
passes_both (Some h) rs line over =
    let k = fewer_more h 4_294_967_295 200_000 (steps_behind h.what rs) line (lit≤ tt) over.2 in
    (k.0, (over.1, k.1))

few_overruns : (sc : InputScan) → IsWithinCertify sc → (line : ℕ) → OverrunsAt setting_of sc.header sc.records line → ⊥
few_overruns sc fits line over = fits line TooManySteps (inl refl) (Some (line, TooManySteps), inl (line, over, refl), refl)

-- the status and the text of the report of a scan
abbrev IsJudgedScan : InputScan → Status → List ℕ → Type 0
IsJudgedScan sc s t = (report : RunReport) × IsJudgement sc report × IsTold sc.header report s t

abbrev IsCertifiedScan : InputScan → Status → List ℕ → Type 0
IsCertifiedScan sc s t = (report : RunReport) × IsReport setting_of TooManySteps sc report × IsTold sc.header report s t

-- an input that `certify` finds short enough does not pass the limit of `judge` on steps
few_passes : (sc : InputScan) → IsWithinCertify sc → (line : ℕ) → PassesStepsOn sc.header sc.records line → ⊥
few_passes sc fits line over = let k = passes_both sc.header sc.records line over in few_overruns sc fits k.0 k.1

module _ (sc : InputScan) (s : Status) (t : List ℕ) (fits : IsWithinCertify sc) where
  judged_certified : IsJudgedScan sc s t → IsCertifiedScan sc s t
  judged_certified (report, (fault, is, told), printed) = by is
    where
      by : IsJudgeFault sc fault → IsCertifiedScan sc s t
      by (inl k) = absurd (few_passes sc fits k.0 k.1)
      by (inr k) = (report, (fault, inr (few_overruns sc fits, k.1), told), printed)

  certified_judged : IsCertifiedScan sc s t → IsJudgedScan sc s t
  certified_judged (report, (fault, is, told), printed) = by is
    where
      by : IsFault setting_of TooManySteps sc fault → IsJudgedScan sc s t
      by (inl k) = absurd (few_overruns sc fits k.0 k.1)
      by (inr k) = (report, (fault, inr (few_passes sc fits, k.1), told), printed)

-- `judge` allows at least what `certify` allows
pub judge_allows_more : AreWider usual_limits judge_limits
judge_allows_more = record { bytes = lit≤ tt; lines = lit≤ tt; line_bytes = refl; transactions = lit≤ tt }

-- the fault is no limit on the lines or the bytes, since `certify` reports the fault of the scan
allowed_size : (sc : InputScan) → IsWithinCertify sc → HasAllowedSize sc
allowed_size sc fits line cause size faulty = fits line cause (inr (inr size)) (Some (line, cause), inr (few_overruns sc fits, sym faulty), refl)

-- nor is it the limit on the transactions
allowed_begins : (sc : InputScan) → IsWithinCertify sc → (line : ℕ) → sc.fault ≡ Some (line, TooManyTransactions) → ⊥
allowed_begins sc fits line faulty = fits line TooManyTransactions (inr (inl refl)) (Some (line, TooManyTransactions), inr (few_overruns sc fits, sym faulty), refl)

-- an input that is within the limits of `certify` is the same within those of `judge`
pub same_input : (bytes : List ℕ) → IsWithinCertify (scan bytes) → judge_scan bytes ≡ scan bytes
same_input bytes fits = same_under_wider usual_limits judge_limits bytes judge_allows_more (allowed_size (scan bytes) fits) (inr (allowed_begins (scan bytes) fits))

-- `judge` and `certify` print the same, unless `certify` reports a limit that `judge` raises
pub same_judged : (bytes : List ℕ) (s : Status) (t : List ℕ) → IsWithinCertify (scan bytes) → IsJudgeOutput bytes s t ↔ IsCertified bytes s t
same_judged bytes s t fits =
    let same : judge_scan bytes ≡ scan bytes = same_input bytes fits in (
      λ judged. judged_certified (scan bytes) s t fits (subst (λ (sc : InputScan). IsJudgedScan sc s t) same judged),
      λ certified. subst (λ (sc : InputScan). IsJudgedScan sc s t) (sym same) (certified_judged (scan bytes) s t fits certified),
    )

-- ---- accepted

accepted_meets : (bytes text : List ℕ) → IsJudgeOutput bytes statuses.Accepted text → IsJudgeFault (judge_scan bytes) None × EachStepMeets (judge_scan bytes)
accepted_meets bytes text r =
    let k = behind_meets r.1.0 (judge_scan bytes) r.0 text r.1.2 r.2 in
    let m = k.1 in (
      subst (λ (fault : Option (ℕ × Cause)). IsJudgeFault (judge_scan bytes) fault) k.0 r.1.1,
      record { header = m.header; first_line = m.first_line; start = m.start; steps = m.steps },
    )

meets_accepted : (bytes : List ℕ) (status : Status) (text : List ℕ) → IsJudgeOutput bytes status text → IsJudgeFault (judge_scan bytes) None → EachStepMeets (judge_scan bytes) → status ≡ statuses.Accepted
meets_accepted bytes status text r none m =
    let k = meets_run_report (judge_scan bytes) m in
    let own : IsJudgement (judge_scan bytes) k.0 = (None, none, k.1) in
    let same : r.0 ≡ k.0 = one_judgement (judge_scan bytes) r.0 k.0 r.1 own in
    k.2 status text (subst (λ (w : RunReport). IsTold (judge_scan bytes).header w status text) same r.2)

-- an input is judged as accepted exactly if it has no fault and each step meets its criteria
pub judged_exact : (bytes : List ℕ) (status : Status) (text : List ℕ) → IsJudgeOutput bytes status text → IsJudgedExactly bytes status
judged_exact bytes status text r = (
  λ accepted. accepted_meets bytes text (subst (λ (s : Status). IsJudgeOutput bytes s text) accepted r),
  λ both. meets_accepted bytes status text r both.0 both.1,
)

-- the laws of how `judge` reports an input: on limits, on one report at most, and on `certify`
pub judgements : JudgementLaw
judgements = record { many_steps = many_steps; any_steps = any_steps; any_length = any_length; any_begins = any_begins; one = one_judged; same = same_judged }
