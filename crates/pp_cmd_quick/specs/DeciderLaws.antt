-- Proof machinery: the laws of the summary as a judge.
use Rattle.std.specs.Prelude.{◌≡◌, ◌≤◌, ◌+◌, ℕ, Bool, true, false, cond, List, [], ◌∷◌, ◌++◌, Option, None, Some}
use Rattle.std.proofs.Common.{refl, sym, ap, ◌∙◌, subst, arith, append_assoc}
use mathlib.Core.Logic.{inl, inr}
use Rattle.pp_core.specs.declared.call.Kind.{Kind}
use Rattle.pp_core.specs.declared.call.Style.{Style}
use Rattle.pp_core.specs.declared.call.Style.TheVariants as styles
use Rattle.pp_records.specs.Inputs.{Widens}
use Rattle.pp_records.specs.Records.{RunRecord}
use Rattle.pp_records.specs.Runs.{Lined, Records, bare}
use Rattle.pp_records.specs.Styles.{translation}
use Rattle.pp_records.proofs.Ends.{bare_append}
use Rattle.pp_format_read.specs.declared.header.Header.{Header}
use Rattle.pp_model.specs.Config.{first}
use Rattle.pp_model.specs.Object.{Object}
use Rattle.pp_model.specs.Rules.{RunsFrom, StartMeets}
use Rattle.pp_objects.specs.declared.act.Op.{Op}
use Rattle.pp_objects.specs.Objects.{kinds_of, objects, place_of}
use Rattle.pp_summary.specs.Brief.{Brief, brief_then}
use Rattle.pp_summary.specs.Held.{Held, take_most}
use Rattle.pp_summary.specs.Failures.{FailsIn, all_steps}
use Rattle.pp_summary.specs.Runs.{boosting}
use Rattle.pp_summary.specs.Sums.{AreTried, count_ops, records_most}
use Rattle.pp_summary.proofs.Failures.{failure_law}
use Rattle.pp_kind.specs.Object.{rules_of}
use Rattle.pp_input_reader.specs.declared.cause.Cause.{Cause}
use Rattle.pp_input_reader.specs.declared.cause.Cause.TheVariants.{NotBoosted}
use Rattle.pp_judge.specs.Costs.{start_at_most}
use Rattle.pp_judge.specs.Judging.{JudgingLaws}
use Rattle.pp_judge.specs.Objects.{object_of, start_of, translation_of}
use Rattle.pp_judge.specs.Scans.{InputScan, nothing}
use Rattle.pp_judge.specs.Tallies.{scan_of}
use Rattle.pp_judge.specs.laws.Driven.{add_le, up_more}
use Rattle.pp_cmd_quick.specs.Costs.{OfTaken, OfTried, RecordsCostAtMost, first_brief, tried_most}
use Rattle.pp_cmd_quick.specs.Decisions.{AllHold, FailsOn, is_boosted, quick_fault, style_fault}
use Rattle.pp_cmd_quick.specs.Taking.{AreGoodBehind, quick_judging}

-- ---- the fault

-- The only style that `is_boosted` takes is the boosted one.
pub boosted_is : (s : Style) → is_boosted s ≡ true → s ≡ styles.Boosted
boosted_is styles.Rules h = absurd (cc)
boosted_is styles.Boosted h = refl
boosted_is styles.Optimistic h = absurd (cc)
boosted_is styles.Hardware h = absurd (cc)
boosted_is styles.Dependent h = absurd (cc)

module _ (is_taken : Style → Bool) (cause : Cause) where
  -- the fault of a scan
  abbrev pub fault_of : InputScan → Option (ℕ × Cause)
  fault_of sc = style_fault is_taken cause sc.header sc.fault

  -- In a style that is taken, the fault is that of the scan.
  pub taken_fault : (sc : InputScan) (h : Lined Header) → sc.header ≡ Some h →
      is_taken h.what.style ≡ true → fault_of sc ≡ sc.fault
  taken_fault sc h there is =
      ap (λ (o : Option (Lined Header)). style_fault is_taken cause o sc.fault) there
      ∙ ap (λ (b : Bool). cond b sc.fault (Some (h.line, cause))) is

  -- The fault of a style stays, whatever comes after.
  pub style_fault_stays : (sc wider : InputScan) (x : ℕ × Cause) → Widens sc wider →
      fault_of sc ≡ Some x → fault_of wider ≡ Some x
  style_fault_stays sc wider x w is = by sc.header refl is
    where
      styled : (b : Bool) (h : Lined Header) → cond b sc.fault (Some (h.line, cause)) ≡ Some x →
          cond b wider.fault (Some (h.line, cause)) ≡ Some x
      styled true h k = ap (λ (s : InputScan). s.fault) (w.fault x k) ∙ k
      styled false h k = k

      by : (o : Option (Lined Header)) → sc.header ≡ o →
          style_fault is_taken cause o sc.fault ≡ Some x → fault_of wider ≡ Some x
      by None none k = ap (λ (s : InputScan). fault_of s) (w.fault x k) ∙ is
      by (Some h) there k =
          ap (λ (o : Option (Lined Header)). style_fault is_taken cause o wider.fault)
          (w.header h there)
          ∙ styled (is_taken h.what.style) h k

-- The fault of a boosted run is that of the scan.
pub boosted_fault : (sc : InputScan) (h : Lined Header) → sc.header ≡ Some h →
    h.what.style ≡ styles.Boosted → quick_fault sc ≡ sc.fault
boosted_fault sc h there is =
    taken_fault is_boosted NotBoosted sc h there (ap (λ (s : Style). is_boosted s) is)

from_none : (old new a : ℕ) → new ≤ old + 0 → new ≤ old + a
from_none old new a x = omega (arith, x)

-- ---- of more records more are tried

module _ {A State : Type 0} (O : Object A State) (place : A → ℕ) where
  tried_front : (rs : List (RunRecord A)) (B : Brief A) (more tried : List (RunRecord A)) →
      AreTried O place B (rs ++ more) tried
      → (front : List (RunRecord A)) × AreTried O place B rs front ×
      (records_most place B front ≤ records_most place B tried)
  tried_front [] B more tried k = ([], refl, omega arith)
  tried_front (r ∷ rs) B more tried (inl k) =
      let e : records_most place B tried ≡ take_most B r + 0 =
      ap (λ (z : List (RunRecord A)). records_most place B z) k.1 in
      (r ∷ [], inl (k.0, refl), omega (arith, e))
  tried_front (r ∷ rs) B more tried (inr k) =
      let f = tried_front rs (brief_then place B r) more k.1.0 k.1.1 in
      let e : records_most place B tried ≡ take_most B r + records_most place
      (brief_then place B r) k.1.0 = ap (λ (z : List (RunRecord A)). records_most place B z)
      k.1.2 in
      (r ∷ f.0, inr (k.0, (f.0, f.1, refl)), omega (arith, e, f.2))

-- the counter rises at most by this
abbrev Most : ℕ → ℕ → ℕ → Type 0
Most old new most = new ≤ old + most

any_tried : (o : Option (Lined Header)) (rs : Records (RunRecord Op)) (old new : ℕ) →
    new ≤ old + 0 → OfTried o rs (Most old new)
any_tried None rs old new x = x
any_tried (Some header) rs old new x = λ tried k. from_none old new (tried_most header.what tried) x

wider_most : (header : Lined Header) (rs more : Records (RunRecord Op)) (old new : ℕ) →
    OfTried (Some header) rs (Most old new) → OfTried (Some header) (rs ++ more) (Most old new)
wider_most header rs more old new most tried k =
    let B = first_brief header.what in
    let f = tried_front (object_of header.what) place_of (bare rs) B (bare more) tried
    (subst (λ (l : List (RunRecord Op)). AreTried (object_of header.what) place_of B l tried)
    (bare_append rs more) k) in
    up_more old new (tried_most header.what f.0) (tried_most header.what tried) (most f.0 f.1)
    (add_le (start_at_most (start_of header.what)) (records_most place_of B f.0)
    (records_most place_of B tried) f.2)

-- A bound on the cost of a scan is one on the cost of a wider scan.
pub most_widens : (sc wider : InputScan) (old new : ℕ) → Widens sc wider → RecordsCostAtMost sc old
    new → RecordsCostAtMost wider old new
most_widens sc wider old new w most = by sc.header refl most
  where
    by : (o : Option (Lined Header)) → sc.header ≡ o → OfTried o sc.records (Most old new) →
        RecordsCostAtMost wider old new
    by None none m = any_tried wider.header wider.records old new m
    by (Some h) there m =
        subst (λ (o : Option (Lined Header)). OfTried o wider.records (Most old new))
        (sym (w.header h there))
        (subst (λ (z : Records (RunRecord Op)). OfTried (Some h) z (Most old new))
        (sym w.records.1) (wider_most h sc.records w.records.0 old new m))

same_count : (n : ℕ) → n ≤ n + 0
same_count n = omega arith

-- ---- a record after the one that fails

-- the counter rises at least by this
abbrev pub Least : ℕ → ℕ → List (RunRecord Op) → Type 0
Least old new taken = old + count_ops taken ≤ new

-- records after one that fails are only read
pub passed_least : (header : Lined Header) (rs : Records (RunRecord Op))
    (more : Records (RunRecord Op)) (at old now : ℕ) → FailsOn header rs at →
    OfTaken (Some header) rs (Least old now) → OfTaken (Some header) (rs ++ more) (Least old now)
passed_least header rs more at old now (inl k) least r f = absurd (k.0 f.begun)
passed_least header rs more at old now (inr k) least r f =
    let O = object_of header.what in
    let T = translation_of header.what in
    let h = start_of header.what in
    let own : FailsIn O T h rs k.0 = k.1 in
    let wide : FailsIn O T h (rs ++ more) k.0 = record {
      begun = own.begun;
      before = own.before;
      behind = own.behind ++ more;
      parts = ap (λ (z : Records (RunRecord Op)). z ++ more) own.parts ∙
          append_assoc own.before (k.0 ∷ own.behind) more;
      hold = own.hold;
      fails = own.fails;
    } in
    let same : own.before ≡ f.before = ((failure_law O T).one h (rs ++ more) k.0 r wide f).1 in
    subst (λ (z : Records (RunRecord Op)). old + count_ops (bare z) ≤ now) same (least k.0 own)

-- records after one that fails change nothing
pub fails_stay : (header : Lined Header) (rs more : Records (RunRecord Op)) (line : ℕ) →
    FailsOn header rs line → FailsOn header (rs ++ more) line
fails_stay header rs more line (inl k) = inl k
fails_stay header rs more line (inr k) =
    inr (
      k.0,
      (failure_law (object_of header.what) (translation_of header.what)).stays
          (start_of header.what) rs more k.0 k.1,
      k.2,
    )

-- ---- records that are good

-- The start and each step of the records meet their criteria.
pub all_hold : (h : Header) (rs : Records (RunRecord Op)) (quick : Held (List Kind) Op) →
    AreGoodBehind h rs quick → AllHold h rs
all_hold h rs quick c = (
  subst (λ (k : List Kind). StartMeets (rules_of objects k) (start_of h)) c.shape c.read.begun,
  subst (λ (s : Style). RunsFrom (object_of h) (first (start_of h))
      (bare (all_steps (translation place_of s (kinds_of h.catalog)) (start_of h) rs)))
      (sym c.style)
      (subst (λ (k : List Kind). RunsFrom (rules_of objects k) (first (start_of h))
      (bare (all_steps (boosting place_of (kinds_of h.catalog)) (start_of h) rs))) c.shape
      c.read.hold),
)

-- If all steps meet their criteria, no record fails.
pub none_fails : (header : Lined Header) (rs : Records (RunRecord Op)) (line : ℕ) →
    AllHold header.what rs → FailsOn header rs line → ⊥
none_fails header rs line all (inl k) = k.0 all.0
none_fails header rs line all (inr k) =
    (failure_law (object_of header.what) (translation_of header.what)).none (start_of header.what)
    rs k.0 k.1 all.1

-- ---- the laws

-- What the summary as a judge says of runs has the laws of judging.
pub quick_laws : JudgingLaws quick_judging
quick_laws = record {
  not_both = λ h rs judge failed good bad. none_fails h rs failed.line
      (all_hold h.what rs judge.quick good) bad.1;
  one_fault = λ sc f g is same. sym is ∙ same;
  first_fault = λ fault. refl;
  good_fault = λ h rs judge fault good. boosted_fault (record (scan_of h rs) { fault = fault }) h
      refl good.style;
  rejected_fault = λ h rs failed fault bad. boosted_fault (record (scan_of h rs) { fault = fault })
      h refl bad.0;
  fault_stays = style_fault_stays is_boosted NotBoosted;
  rejection_stays = λ h rs more failed bad. (bad.0, fails_stay h rs more failed.line bad.1);
  first_most = same_count;
  most_widens = most_widens;
  rejected_least_stays = λ h rs more failed old new bad least. passed_least h rs more failed.line
      old new bad.1 least;
}
