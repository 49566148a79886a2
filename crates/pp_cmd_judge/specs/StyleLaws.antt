-- Proof machinery: the laws of the judges of all styles as one judge.
use Rattle.std.specs.Prelude.{◌≡◌, ◌≤◌, ◌+◌, ℕ, [], ◌++◌, length, true, false, Option, None, Some}
use Rattle.std.proofs.Common.{refl, sym, ap, ◌∙◌, subst, append_assoc}
use Rattle.std.proofs.lemmas.List.{append-nil}
use mathlib.Core.Logic.{inl, inr}
use Rattle.pp_core.specs.declared.call.Style.{Style}
use Rattle.pp_core.specs.declared.call.Style.TheVariants as styles
use Rattle.pp_records.specs.Inputs.{Widens}
use Rattle.pp_records.specs.Records.{RunRecord}
use Rattle.pp_records.specs.Runs.{HasOneMore, Lined, LinedSteps, Records, outset}
use Rattle.pp_records.proofs.Ends.{few_steps, more_behind, one_line}
use Rattle.pp_records.proofs.Whole.{extends_law}
use Rattle.pp_format_read.specs.declared.header.Header.{Header}
use Rattle.pp_model.specs.Config.{but_last, first}
use Rattle.pp_objects.specs.declared.act.Op.{Op}
use Rattle.pp_styles.specs.Costs.{singles}
use Rattle.pp_input_reader.specs.declared.cause.Cause.{Cause}
use Rattle.pp_input_reader.specs.declared.cause.Cause.TheVariants.{TooManySteps}
use Rattle.pp_judge.specs.Judging.{JudgingLaws}
use Rattle.pp_judge.specs.Objects.{object_of, start_of, translation_of}
use Rattle.pp_judge.specs.Scans.{InputScan, nothing}
use Rattle.pp_judge.specs.Tallies.{scan_of}
use Rattle.pp_judge.specs.declared.driven.Rejection.{Rejection}
use Rattle.pp_cmd_quick.specs.DeciderLaws.{fails_stay, none_fails, passed_least}
use Rattle.pp_cmd_quick.specs.Decisions.{AllHold, steps_behind}
use Rattle.pp_cmd_judge.specs.Boosted.{boosted_engine}
use Rattle.pp_cmd_judge.specs.BoostedLaws.{boosted_first, boosted_laws, boosted_widens}
use Rattle.pp_cmd_judge.specs.Costs.{JudgedCostAtMost, OfItsStyle, StyleCostAtMost}
use Rattle.pp_cmd_judge.specs.Costs.{StyleRejectedCostAtLeast}
use Rattle.pp_cmd_judge.specs.Driven.{AreDrivenBehind}
use Rattle.pp_cmd_judge.specs.EngineLaws.{EngineLaws}
use Rattle.pp_cmd_judge.specs.Engines.{AreCounted, EngineOf}
use Rattle.pp_cmd_judge.specs.Judgements.{IsJudgeFault, PassesStepsOn, is_driven}
use Rattle.pp_cmd_judge.specs.Optimistic.{optimistic_engine}
use Rattle.pp_cmd_judge.specs.OptimisticLaws.{optimistic_first, optimistic_laws}
use Rattle.pp_cmd_judge.specs.OptimisticLaws.{optimistic_widens}
use Rattle.pp_cmd_judge.specs.Rejections.{rejected_stays}
use Rattle.pp_cmd_judge.specs.Rules.{rules_engine}
use Rattle.pp_cmd_judge.specs.RulesLaws.{all_widens, nothing_all, rejected_behind, rules_laws}
use Rattle.pp_cmd_judge.specs.StyleJudging.{IsGoodBy, IsRejectedBy, style_judging}
use Rattle.pp_cmd_judge.specs.declared.run_judge.RunJudge.{RunJudge}
use Rattle.pp_cmd_judge.specs.declared.style_judge.StyleJudge.{StyleJudge}
use Rattle.pp_cmd_judge.specs.declared.style_judge.StyleJudge.TheVariants.{Boosted, Driven}
use Rattle.pp_cmd_judge.specs.declared.style_judge.StyleJudge.TheVariants.{Optimistic, Rules}

-- ---- the fault

-- in a style without a limit on steps no record passes one
pub any_few : (h : Lined Header) → is_driven h.what.style ≡ false → (rs : Records (RunRecord Op))
    (line : ℕ) → PassesStepsOn (Some h) rs line → ⊥
any_few h any rs line over = absurd (let no : true ≡ false = sym over.0 ∙ any in cc)

-- the style of records that an engine took has no limit on steps
pub any_style_of : {E : Type 0} (W : EngineOf E) → EngineLaws W → (h : Header)
    (rs : Records (RunRecord Op)) (judge : RunJudge E) → AreCounted W h rs judge →
    is_driven h.style ≡ false
any_style_of W laws h rs judge c =
    ap (λ (s : Style). is_driven s) (laws.style h rs judge.engine c.good) ∙ laws.any_steps

-- nor does a record pass it if all their steps are few
driven_few : (h : Lined Header) (rs : Records (RunRecord Op)) →
    length (steps_behind h.what rs) ≤ 4_294_967_295 → (line : ℕ) →
    PassesStepsOn (Some h) rs line → ⊥
driven_few h rs few line over =
    few_steps (object_of h.what) 4_294_967_295 (first (start_of h.what)) (steps_behind h.what rs)
    line few over.2

-- no record of those that are good passes a limit on steps
pub good_few : (h : Lined Header) (rs : Records (RunRecord Op)) (judge : StyleJudge) →
    IsGoodBy h rs judge → (line : ℕ) → PassesStepsOn (Some h) rs line → ⊥
good_few h rs (Rules judge) c =
    any_few h (any_style_of rules_engine rules_laws h.what rs judge c) rs
good_few h rs (Boosted judge) c =
    any_few h (any_style_of boosted_engine boosted_laws h.what rs judge c) rs
good_few h rs (Optimistic judge) c =
    any_few h (any_style_of optimistic_engine optimistic_laws h.what rs judge c) rs
good_few h rs (Driven judge) c =
    driven_few h rs (subst (λ (n : ℕ). n ≤ 4_294_967_295) c.count c.few)

-- nor one of those that are rejected
pub rejected_few : (h : Lined Header) (rs : Records (RunRecord Op)) (rejection : Rejection) →
    IsRejectedBy h rs rejection → (line : ℕ) → PassesStepsOn (Some h) rs line → ⊥
rejected_few h rs rejection bad line over =
    bad.few [] line (subst (λ (w : Records (RunRecord Op)). PassesStepsOn (Some h) w line)
    (sym (append-nil rs)) over)

-- an input passes the limit on one line at most
one_pass : (o : Option (Lined Header)) (rs : Records (RunRecord Op)) (m n : ℕ) →
    PassesStepsOn o rs m → PassesStepsOn o rs n → m ≡ n
one_pass None rs m n a b = absurd a
one_pass (Some h) rs m n a b =
    one_line (object_of h.what) 4_294_967_295 (first (start_of h.what)) (steps_behind h.what rs)
    m n a.2 b.2

-- an input has one fault at most
pub one_fault : (sc : InputScan) (f g : Option (ℕ × Cause)) → IsJudgeFault sc f →
    IsJudgeFault sc g → f ≡ g
one_fault sc f g (inl a) (inl b) =
    a.2 ∙ ap (λ (n : ℕ). let w : Option (ℕ × Cause) = Some (n, TooManySteps) in w)
    (one_pass sc.header sc.records a.0 b.0 a.1 b.1) ∙ sym b.2
one_fault sc f g (inl a) (inr b) = absurd (b.0 a.0 a.1)
one_fault sc f g (inr a) (inl b) = absurd (a.0 b.0 b.1)
one_fault sc f g (inr a) (inr b) = a.1 ∙ sym b.1

-- with more records the limit is passed on the same line
pass_stays : (h : Lined Header) (rs more : Records (RunRecord Op)) (line : ℕ) →
    PassesStepsOn (Some h) rs line → PassesStepsOn (Some h) (rs ++ more) line
pass_stays h rs more line over = (
  over.0,
  over.1,
  subst (λ (w : LinedSteps Op). HasOneMore (object_of h.what) 4_294_967_295
      (first (start_of h.what)) w line)
      (sym ((extends_law (object_of h.what) (translation_of h.what)).steps
      (outset (translation_of h.what) (start_of h.what)) rs more))
      (more_behind (object_of h.what) 4_294_967_295 (first (start_of h.what))
      (steps_behind h.what rs) _ line over.2),
)

wider_passes : (sc wider : InputScan) (line : ℕ) → Widens sc wider →
    PassesStepsOn sc.header sc.records line → PassesStepsOn wider.header wider.records line
wider_passes sc wider line w over = by sc.header refl over
  where
    by : (o : Option (Lined Header)) → sc.header ≡ o → PassesStepsOn o sc.records line →
        PassesStepsOn wider.header wider.records line
    by None there k = absurd k
    by (Some h) there k =
        subst (λ (o : Option (Lined Header)). PassesStepsOn o wider.records line)
        (sym (w.header h there))
        (subst (λ (z : Records (RunRecord Op)). PassesStepsOn (Some h) z line)
        (sym w.records.1) (pass_stays h sc.records w.records.0 line k))

-- a fault stays, whatever lines come after
fault_stays : (sc wider : InputScan) (x : ℕ × Cause) → Widens sc wider →
    IsJudgeFault sc (Some x) → IsJudgeFault wider (Some x)
fault_stays sc wider x w (inl k) = inl (k.0, wider_passes sc wider k.0 w k.1, k.2)
fault_stays sc wider x w (inr k) =
    subst (λ (s : InputScan). IsJudgeFault s (Some x)) (sym (w.fault x (sym k.1))) (inr k)

-- ---- good and rejected

-- all steps of records that are good meet their criteria
pub all_hold : (h : Lined Header) (rs : Records (RunRecord Op)) (judge : StyleJudge) →
    IsGoodBy h rs judge → AllHold h.what rs
all_hold h rs (Rules judge) c = rules_laws.hold h.what rs judge.engine c.good
all_hold h rs (Boosted judge) c = boosted_laws.hold h.what rs judge.engine c.good
all_hold h rs (Optimistic judge) c = optimistic_laws.hold h.what rs judge.engine c.good
all_hold h rs (Driven judge) c = c.hold

rejected_least_stays : (s : Style) (h : Lined Header) (rs more : Records (RunRecord Op))
    (rejection : Rejection) (old new : ℕ) → IsRejectedBy h rs rejection →
    StyleRejectedCostAtLeast s (scan_of h rs) old new →
    StyleRejectedCostAtLeast s (scan_of h (rs ++ more)) old new
rejected_least_stays styles.Rules h rs more rejection old new bad least =
    rejected_behind h rs rejection bad.rejected (λ steps. old + singles (but_last steps) ≤ new) more
    least
rejected_least_stays styles.Boosted h rs more rejection old new bad least =
    passed_least h rs more rejection.line old new bad.fails least
rejected_least_stays styles.Optimistic h rs more rejection old new bad least =
    passed_least h rs more rejection.line old new bad.fails least
rejected_least_stays styles.Hardware h rs more rejection old new bad least =
    rejected_behind h rs rejection bad.rejected (λ steps. old + singles (but_last steps) ≤ new) more
    least
rejected_least_stays styles.Dependent h rs more rejection old new bad least =
    rejected_behind h rs rejection bad.rejected (λ steps. old + singles (but_last steps) ≤ new) more
    least

-- ---- the cost

first_most : (s : Style) (old : ℕ) → StyleCostAtMost s nothing old old
first_most styles.Rules old = nothing_all old
first_most styles.Boosted old = boosted_first old
first_most styles.Optimistic old = optimistic_first old
first_most styles.Hardware old = nothing_all old
first_most styles.Dependent old = nothing_all old

style_widens : (s : Style) (sc wider : InputScan) (old new : ℕ) → Widens sc wider →
    StyleCostAtMost s sc old new → StyleCostAtMost s wider old new
style_widens styles.Rules sc wider old new w cost =
    all_widens sc wider old new w cost
style_widens styles.Boosted sc wider old new w cost =
    boosted_widens sc wider old new w cost
style_widens styles.Optimistic sc wider old new w cost =
    optimistic_widens sc wider old new w cost
style_widens styles.Hardware sc wider old new w cost =
    all_widens sc wider old new w cost
style_widens styles.Dependent sc wider old new w cost =
    all_widens sc wider old new w cost

-- every scan is a wider one than nothing
from_nothing : (wider : InputScan) → Widens nothing wider
from_nothing wider = record {
  header = λ h e. absurd (let no : None ≡ Some h = e in cc);
  records = (wider.records, refl);
  fault = λ x e. absurd (let no : None ≡ Some x = e in cc);
}

-- the bound of a style, in an input whose header is of it
abbrev Most : InputScan → (old new : ℕ) → Style → Type 0
Most sc old new s = StyleCostAtMost s sc old new

costs_nothing : (sc : InputScan) (old new : ℕ) → new ≡ old → JudgedCostAtMost sc old new
costs_nothing sc old new is =
    subst (λ (n : ℕ). JudgedCostAtMost sc old n) (sym is) (by sc.header)
  where
    by : (o : Option (Lined Header)) → OfItsStyle o old old (Most sc old old)
    by None = refl
    by (Some h) = style_widens h.what.style nothing sc old old (from_nothing sc)
        (first_most h.what.style old)

most_widens : (sc wider : InputScan) (old new : ℕ) → Widens sc wider →
    JudgedCostAtMost sc old new → JudgedCostAtMost wider old new
most_widens sc wider old new w cost = by sc.header refl cost
  where
    by : (o : Option (Lined Header)) → sc.header ≡ o → OfItsStyle o old new (Most sc old new) →
        JudgedCostAtMost wider old new
    by None there is = costs_nothing wider old new is
    by (Some h) there most =
        subst (λ (o : Option (Lined Header)). OfItsStyle o old new (Most wider old new))
        (sym (w.header h there)) (style_widens h.what.style sc wider old new w most)

-- ---- the laws

pub style_laws : JudgingLaws style_judging
style_laws = record {
  not_both = λ h rs judge rejection good bad. none_fails h rs rejection.line
      (all_hold h rs judge good) bad.fails;
  one_fault = one_fault;
  first_fault = λ fault. inr (λ line over. over, refl);
  good_fault = λ h rs judge fault good. inr (good_few h rs judge good, refl);
  rejected_fault = λ h rs rejection fault bad. inr (rejected_few h rs rejection bad, refl);
  fault_stays = fault_stays;
  rejection_stays = λ h rs more rejection bad. record {
    fails = fails_stay h rs more rejection.line bad.fails;
    rejected = rejected_stays h rs more rejection bad.rejected;
    few = λ others line over. bad.few (more ++ others) line
        (subst (λ (w : Records (RunRecord Op)). PassesStepsOn (Some h) w line)
        (append_assoc rs more others) over);
  };
  first_most = λ old. refl;
  most_widens = most_widens;
  rejected_least_stays = λ h rs more rejection old new bad least. rejected_least_stays h.what.style
      h rs more rejection old new bad least;
}
