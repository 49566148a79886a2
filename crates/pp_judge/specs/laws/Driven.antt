-- Proof machinery: the laws of the machine as a judge.
use Rattle.std.specs.Prelude.{◌≡◌, ◌≤◌, ◌+◌, ℕ, zero, suc, List, [], ◌∷◌, ◌++◌, length, take}
use Rattle.std.specs.Prelude.{Option, None, Some}
use Rattle.std.proofs.Common.{refl, sym, ap, ◌∙◌, subst, arith, append_assoc}
use Rattle.std.proofs.lemmas.List.{append-nil, take_all}
use mathlib.Core.Logic.{inl, inr}
use Rattle.pp_core.specs.Steps.{Step}
use Rattle.pp_records.specs.Inputs.{OverrunsAt, Widens}
use Rattle.pp_records.specs.Laws.{IsRejectedAt}
use Rattle.pp_records.specs.Records.{RunRecord}
use Rattle.pp_records.specs.Runs.{EndsAtFailure, IsRun, Lined, LinedSteps, Records}
use Rattle.pp_records.specs.Runs.{after_records, bare, joined_steps, outset}
use Rattle.pp_records.proofs.Ends.{bare_append}
use Rattle.pp_records.proofs.Reading.{reading_law}
use Rattle.pp_records.proofs.Reporting.{input_law}
use Rattle.pp_records.proofs.Whole.{joined_more, one_run_law}
use Rattle.pp_format_read.specs.declared.header.Header.{Header}
use Rattle.pp_model.specs.Config.{Config, Start, but_last, first, then}
use Rattle.pp_model.specs.Rules.{Accepted, IsVerdict, Rejected}
use Rattle.pp_model.proofs.Verdict.{one_verdict}
use Rattle.pp_model.specs.Object.{Object}
use Rattle.pp_objects.specs.Objects.{place_of}
use Rattle.pp_objects.specs.declared.act.Op.{Op}
use Rattle.pp_machine.specs.Costs.{at_most}
use Rattle.pp_styles.specs.Costs.{most_ticks, singles}
use Rattle.pp_styles.specs.declared.any_front.AnyFront.{AnyFront}
use Rattle.pp_machine.specs.Machines.{Seen}
use Rattle.pp_core.specs.declared.call.Kind.{Kind}
use Rattle.pp_input_reader.specs.declared.cause.Cause.TheVariants.{TooManySteps}
use Rattle.pp_judge.specs.Costs.{OfRun, StepsCostAtMost, start_at_most}
use Rattle.pp_judge.specs.Costs.{start_behind, steps_at_most}
use Rattle.pp_judge.specs.Driven.{driven_judging}
use Rattle.pp_judge.specs.Judging.{JudgingLaws}
use Rattle.pp_judge.specs.Objects.{object_of, setting_of, start_of, translation_of}
use Rattle.pp_judge.specs.Running.{EndsAt, GoesOn, standing_of}
use Rattle.pp_judge.specs.Scans.{InputScan, nothing}
use Rattle.pp_judge.specs.declared.driven.Rejection.{Rejection}

-- ---- numbers

pub nothing_less : (n : ℕ) → 0 ≤ n
nothing_less n = omega arith

pub add_le : (a b c : ℕ) → b ≤ c → a + b ≤ a + c
add_le a b c h = omega (arith, h)

plus_zero : (a : ℕ) → a ≡ a + 0
plus_zero a = omega arith

pub up_more : (old new a b : ℕ) → new ≤ old + a → a ≤ b → new ≤ old + b
up_more old new a b x y = omega (arith, x, y)

-- ---- steps

-- if the steps are not too many, all of them cost
pub few_steps : (start : Option (Start Op)) (xs : List (Step Op)) → length xs ≤ 200_000 →
    steps_at_most start xs ≡ start_at_most start + most_ticks place_of (first start) xs
few_steps start xs few = ap (λ (l : List (Step Op)). start_at_most start + most_ticks place_of
    (first start) l) (take_all 200_000 xs few)

-- the first steps of a list cost no more than those of a longer one
pub most_front : (k : ℕ) (c : Config Op) (xs ys : List (Step Op)) →
    most_ticks place_of c (take k xs) ≤ most_ticks place_of c (take k (xs ++ ys))
most_front zero c xs ys = nothing_less (most_ticks place_of c (take zero (xs ++ ys)))
most_front (suc k) c [] ys = nothing_less (most_ticks place_of c (take (suc k) ys))
most_front (suc k) c (x ∷ xs) ys =
    add_le (at_most place_of c x) (most_ticks place_of (then c x) (take k xs))
    (most_ticks place_of (then c x) (take k (xs ++ ys))) (most_front k (then c x) xs ys)

-- of a run without a step the start is all that costs
pub no_steps : (start : Option (Start Op)) → steps_at_most start [] ≡ start_at_most start
no_steps start = few_steps start [] (nothing_less 200_000) ∙ sym (plus_zero (start_at_most start))

-- ---- runs

-- the run of the first steps is the front of the run
ends_front : {A State : Type 0} (O : Object A State) (c : Config A) (xs ys run : LinedSteps A) →
    EndsAtFailure O c (xs ++ ys) run
    → (front : LinedSteps A) × (rest : LinedSteps A) × EndsAtFailure O c xs front ×
    (run ≡ front ++ rest)
ends_front O c [] ys run e = ([], run, refl, refl)
ends_front O c (x ∷ xs) ys run (inl e) = (x ∷ [], [], inl (e.0, e.1, refl), e.2)
ends_front {A} O c (x ∷ xs) ys run (inr e) =
    let k = ends_front O (then c x.what) xs ys e.1.0 e.1.1 in
    (x ∷ k.0, k.1, inr (e.0, (k.0, k.2, refl)), e.1.2 ∙ ap (λ (w : LinedSteps A). x ∷ w) k.3)

pub run_front : (h : Header) (records more : Records (RunRecord Op)) (run : LinedSteps Op) →
    IsRun (object_of h) (translation_of h) (start_of h) (records ++ more) run
    → (front : LinedSteps Op) × (rest : LinedSteps Op) × IsRun (object_of h) (translation_of h)
    (start_of h) records front × (run ≡ front ++ rest)
run_front h records more run (inl e) = ([], [], inl (e.0, e.1, refl), e.2)
run_front h records more run (inr e) =
    let T = translation_of h in
    let p = outset T (start_of h) in
    let k = ends_front (object_of h) (first (start_of h)) (joined_steps T p records)
    (joined_steps T (after_records T p records) more) run
    (subst (λ (w : LinedSteps Op). EndsAtFailure (object_of h) (first (start_of h)) w run)
    (joined_more (object_of h) T p records more) e.1) in
    (k.0, k.1, inr (e.0, k.2), k.3)

pub empty_run : (h : Header) (run : LinedSteps Op) → IsRun (object_of h) (translation_of h)
    (start_of h) [] run → run ≡ []
empty_run h run (inl e) = e.2
empty_run h run (inr e) = e.1

-- ---- more lines

abbrev pub Most : ℕ → ℕ → Option (Start Op) → List (Step Op) → Type 0
Most old new start steps = new ≤ old + steps_at_most start steps

most_wider : (sc wider : InputScan) (more : Records (RunRecord Op)) (old new : ℕ) →
    (o : Option (Lined Header)) → sc.header ≡ o
    → ((h : Lined Header) → sc.header ≡ Some h → wider.header ≡ Some h) →
    wider.records ≡ sc.records ++ more → StepsCostAtMost sc old new → StepsCostAtMost wider old
    new
most_wider sc wider more old new None is headers records most = λ run r.
    let here = subst (λ (w : Option (Lined Header)). OfRun w sc.records (Most old new)) is most in
    let least : new ≤ old + steps_at_most None [] = here [] refl in
    let none : steps_at_most None [] ≤ steps_at_most (start_behind wider.header) (bare run) =
    subst (λ (k : ℕ). k ≤ steps_at_most (start_behind wider.header) (bare run))
    (sym (no_steps None)) (nothing_less (steps_at_most (start_behind wider.header) (bare run)))
    in
    up_more old new (steps_at_most None []) (steps_at_most (start_behind wider.header) (bare run))
    least none
most_wider sc wider more old new (Some h) is headers records most =
    subst (λ (w : Option (Lined Header)). OfRun w wider.records (Most old new))
    (sym (headers h is)) (λ run r.
    let s = start_of h.what in
    let f = run_front h.what sc.records more run
    (subst (λ (w : Records (RunRecord Op)). IsRun (object_of h.what) (translation_of h.what) s
    w run) records r) in
    let here : new ≤ old + steps_at_most s (bare f.0) =
    subst (λ (w : Option (Lined Header)). OfRun w sc.records (Most old new)) is most f.0 f.2 in
    let wide : steps_at_most s (bare f.0) ≤ steps_at_most s (bare f.0 ++ bare f.1) =
    add_le (start_at_most s) (most_ticks place_of (first s) (take 200_000 (bare f.0)))
    (most_ticks place_of (first s) (take 200_000 (bare f.0 ++ bare f.1)))
    (most_front 200_000 (first s) (bare f.0) (bare f.1)) in
    let all : bare run ≡ bare f.0 ++ bare f.1 = ap (λ (w : LinedSteps Op). bare w) f.3 ∙
    bare_append f.0 f.1 in
    up_more old new (steps_at_most s (bare f.0)) (steps_at_most s (bare run)) here
    (subst (λ (w : List (Step Op)). steps_at_most s (bare f.0) ≤ steps_at_most s w) (sym all)
    wide))

pub most_widens : (sc wider : InputScan) (old new : ℕ) → Widens sc wider →
    StepsCostAtMost sc old new → StepsCostAtMost wider old new
most_widens sc wider old new w most = most_wider sc wider w.records.0 old new sc.header refl
    w.header w.records.1 most

pub nothing_most : (old : ℕ) → StepsCostAtMost nothing old old
nothing_most old = λ run is. up_more old old 0 (steps_at_most None (bare run)) (stay old)
    (nothing_less (steps_at_most None (bare run)))
  where
    stay : (n : ℕ) → n ≤ n + 0
    stay n = omega arith

-- ---- no step too many

pub good_few : (h : Header) (rs : Records (RunRecord Op)) (front : AnyFront)
    (machine : Seen (List Kind) Op) → GoesOn h rs front machine → (at line : ℕ)
    → OverrunsAt setting_of (Some (record { line = at; what = h })) rs line → ⊥
good_few h rs front machine c at line over =
    ((reading_law (object_of h) (translation_of h)).end (start_of h) rs
    (standing_of c.state machine) machine.count c.stands).2 line over

-- ---- a rejection

module _ (h : Header) (at : ℕ) (rs : Records (RunRecord Op)) (rejection : Rejection)
    (e : EndsAt h at rs rejection) where
  pub rejected_here : IsRejectedAt (object_of h) (translation_of h) (start_of h) rs e.run e.number
      e.criterion
  rejected_here = subst (λ (w : Records (RunRecord Op)). IsRejectedAt (object_of h)
      (translation_of h) (start_of h) w e.run e.number e.criterion) (append-nil rs) (e.stays [])

  pub bad_few : (line : ℕ) → OverrunsAt setting_of (Some (record { line = at; what = h })) rs line
      → ⊥
  bad_few line over = rejected_here.few line over

  -- the run of more records is the same
  pub same_run : (more : Records (RunRecord Op)) (run : LinedSteps Op) →
      IsRun (object_of h) (translation_of h) (start_of h) (rs ++ more) run → e.run ≡ run
  same_run more run is = (one_run_law (object_of h) (translation_of h)).run (start_of h)
      (rs ++ more) e.run run (e.stays more).run_is is

  ends_behind : (more : Records (RunRecord Op)) → EndsAt h at (rs ++ more) rejection
  ends_behind more = record {
    run = e.run;
    number = e.number;
    criterion = e.criterion;
    is = e.is;
    named = e.named;
    stays = λ others.
        subst (λ (w : Records (RunRecord Op)). IsRejectedAt (object_of h) (translation_of h)
        (start_of h) w e.run e.number e.criterion)
        (sym (append_assoc rs more others)) (e.stays (more ++ others));
  }

  -- if P is true of the run, it is true of the run with more records
  pub holds_behind : (P : LinedSteps Op → Type 0) (more : Records (RunRecord Op)) →
      ((run : LinedSteps Op) → IsRun (object_of h) (translation_of h) (start_of h) rs run →
      P run)
      → (run : LinedSteps Op) → IsRun (object_of h) (translation_of h) (start_of h) (rs ++ more)
      run → P run
  holds_behind P more here run is = subst (λ (w : LinedSteps Op). P w)
      (same_run more run is) (here e.run rejected_here.run_is)

-- the run of records that are good is not rejected
pub good_alone : (h : Header) (at : ℕ) (rs : Records (RunRecord Op)) (front : AnyFront)
    (machine : Seen (List Kind) Op) (rejection : Rejection) → GoesOn h rs front machine →
    EndsAt h at rs rejection → ⊥
good_alone h at rs front machine rejection c e =
    let O = object_of h in
    let end = (reading_law O (translation_of h)).end (start_of h) rs (standing_of c.state machine)
    machine.count c.stands in
    let bad = rejected_here h at rs rejection e in
    let same = (one_run_law O (translation_of h)).run (start_of h) rs
    (joined_steps (translation_of h) (outset (translation_of h) (start_of h)) rs) e.run end.0
    bad.run_is in
    let is : Accepted ≡ Rejected e.number (suc e.criterion) = one_verdict O (start_of h)
    (bare e.run) Accepted (Rejected e.number (suc e.criterion))
    (subst (λ (w : LinedSteps Op). IsVerdict O (start_of h) (bare w) Accepted) same end.1)
    bad.verdict in
    cc

-- ---- the laws

pub driven_laws : {W : Type 0} (HasSeen : Header → LinedSteps Op → W → Type 0) →
    JudgingLaws (driven_judging HasSeen)
driven_laws HasSeen = record {
  not_both = λ h rs judge refused good bad.
      good_alone h.what h.line rs judge.front judge.machine refused.rejection good.0 bad.0;
  one_fault = (input_law setting_of TooManySteps).one_fault;
  first_fault = λ fault. inr (λ line over. over, refl);
  good_fault = λ h rs judge fault good.
      inr (good_few h.what rs judge.front judge.machine good.0 h.line, refl);
  rejected_fault = λ h rs refused fault bad.
      inr (bad_few h.what h.line rs refused.rejection bad.0, refl);
  fault_stays = λ sc wider fault w is. (input_law setting_of TooManySteps).stays sc wider fault w
      is;
  rejection_stays = λ h rs more refused bad. (
    ends_behind h.what h.line rs refused.rejection bad.0 more,
    holds_behind h.what h.line rs refused.rejection bad.0
        (λ run. HasSeen h.what run refused.observer) more bad.1,
  );
  first_most = nothing_most;
  most_widens = most_widens;
  rejected_least_stays = λ h rs more refused old new bad least.
      holds_behind h.what h.line rs refused.rejection bad.0
      (λ run. old + singles (but_last (bare run)) ≤ new) more least;
}
