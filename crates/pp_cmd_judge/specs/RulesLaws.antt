-- Proof machinery: the laws of the machine as the engine of runs of style rules, and of what it
-- costs.
use Rattle.std.specs.Prelude.{◌≡◌, ◌≤◌, ◌+◌, ℕ, List, [], ◌++◌, Option, None, Some}
use Rattle.std.proofs.Common.{refl, sym, ap, ◌∙◌, subst, arith}
use Rattle.std.proofs.lemmas.List.{append-nil}
use Rattle.pp_core.specs.Steps.{Step}
use Rattle.pp_records.specs.Inputs.{Widens}
use Rattle.pp_records.specs.Records.{RunRecord}
use Rattle.pp_records.specs.Runs.{IsRun, Lined, LinedSteps, Records, bare}
use Rattle.pp_records.proofs.Ends.{bare_append}
use Rattle.pp_records.proofs.Whole.{one_run_law}
use Rattle.pp_format_read.specs.declared.header.Header.{Header}
use Rattle.pp_model.proofs.Verdict.{accepted_iff}
use Rattle.pp_model.specs.Config.{Config, first}
use Rattle.pp_model.specs.Rules.{Accepted, IsVerdict}
use Rattle.pp_objects.specs.Objects.{place_of}
use Rattle.pp_objects.specs.declared.act.Op.{Op}
use Rattle.pp_styles.specs.Costs.{most_ticks}
use Rattle.pp_styles.proofs.Driven.{most_append}
use Rattle.pp_judge.specs.Costs.{OfRun, start_at_most, start_behind}
use Rattle.pp_judge.specs.Objects.{object_of, start_of, translation_of}
use Rattle.pp_judge.specs.Scans.{InputScan, nothing}
use Rattle.pp_judge.specs.declared.driven.Rejection.{Rejection}
use Rattle.pp_judge.specs.laws.Driven.{add_le, nothing_less, run_front, up_more}
use Rattle.pp_cmd_quick.specs.Decisions.{AllHold, steps_behind}
use Rattle.pp_cmd_judge.specs.Rejections.{IsRejectedBehind}
use Rattle.pp_cmd_judge.specs.EngineLaws.{EngineLaws}
use Rattle.pp_cmd_judge.specs.Rules.{rules_engine}
use Rattle.pp_cmd_judge.specs.RulesCosts.{AllCostAtMost, all_at_most}

-- ---- the verdict

-- the steps of records that are good are accepted
pub all_accepted : (h : Header) (rs : Records (RunRecord Op)) → AllHold h rs →
    IsVerdict (object_of h) (start_of h) (bare (steps_behind h rs)) Accepted
all_accepted h rs hold = (accepted_iff (object_of h) (start_of h) (bare (steps_behind h rs))).1 hold

-- their run is all their steps
pub all_run : (h : Header) (rs : Records (RunRecord Op)) → AllHold h rs →
    IsRun (object_of h) (translation_of h) (start_of h) rs (steps_behind h rs)
all_run h rs hold = (one_run_law (object_of h) (translation_of h)).told (start_of h) rs Accepted
    (all_accepted h rs hold)

module _ (h : Lined Header) (rs : Records (RunRecord Op)) (rejection : Rejection)
    (e : IsRejectedBehind h rs rejection) where
  -- the run that the rejection ends is that of the records
  pub rejected_run : IsRun (object_of h.what) (translation_of h.what) (start_of h.what) rs e.run
  rejected_run = subst (λ (w : Records (RunRecord Op)). IsRun (object_of h.what)
      (translation_of h.what) (start_of h.what) w e.run) (append-nil rs) (e.stays [])

  -- if P is true of the steps of the run, it is true of the steps of the run with more records
  pub rejected_behind : (P : List (Step Op) → Type 0) (more : Records (RunRecord Op)) →
      ((run : LinedSteps Op) → IsRun (object_of h.what) (translation_of h.what) (start_of h.what)
      rs run → P (bare run)) →
      (run : LinedSteps Op) → IsRun (object_of h.what) (translation_of h.what) (start_of h.what)
      (rs ++ more) run → P (bare run)
  rejected_behind P more here run is =
      let same : e.run ≡ run = (one_run_law (object_of h.what) (translation_of h.what)).run
      (start_of h.what) (rs ++ more) e.run run (e.stays more) is in
      subst (λ (w : LinedSteps Op). P (bare w)) same (here e.run rejected_run)

-- ---- the cost

-- steps cost no more than those and others after them
pub most_more : (c : Config Op) (xs ys : List (Step Op)) →
    most_ticks place_of c xs ≤ most_ticks place_of c (xs ++ ys)
most_more c xs ys = subst (λ (k : ℕ). most_ticks place_of c xs ≤ k)
    (sym (most_append place_of c xs ys)) (from (most_ticks place_of c xs) _)
  where
    from : (n m : ℕ) → n ≤ n + m
    from n m = omega arith

pub all_widens : (sc wider : InputScan) (old new : ℕ) → Widens sc wider →
    AllCostAtMost sc old new → AllCostAtMost wider old new
all_widens sc wider old new w most = by sc.header refl
  where
    by : (o : Option (Lined Header)) → sc.header ≡ o → AllCostAtMost wider old new
    by None there = λ run r.
        let here = subst (λ (o : Option (Lined Header)). OfRun o sc.records λ start steps.
        new ≤ old + all_at_most start steps) there most in
        up_more old new (all_at_most None [])
        (all_at_most (start_behind wider.header) (bare run)) (here [] refl)
        (nothing_less (all_at_most (start_behind wider.header) (bare run)))
    by (Some h) there =
        subst (λ (o : Option (Lined Header)). OfRun o wider.records λ start steps.
        new ≤ old + all_at_most start steps) (sym (w.header h there)) (λ run r.
        let s = start_of h.what in
        let f = run_front h.what sc.records w.records.0 run
        (subst (λ (z : Records (RunRecord Op)). IsRun (object_of h.what) (translation_of h.what) s
        z run) w.records.1 r) in
        let here : new ≤ old + all_at_most s (bare f.0) =
        subst (λ (o : Option (Lined Header)). OfRun o sc.records λ start steps.
        new ≤ old + all_at_most start steps) there most f.0 f.2 in
        let wide : all_at_most s (bare f.0) ≤ all_at_most s (bare f.0 ++ bare f.1) =
        add_le (start_at_most s) (most_ticks place_of (first s) (bare f.0))
        (most_ticks place_of (first s) (bare f.0 ++ bare f.1))
        (most_more (first s) (bare f.0) (bare f.1)) in
        let all : bare run ≡ bare f.0 ++ bare f.1 = ap (λ (z : LinedSteps Op). bare z) f.3 ∙
        bare_append f.0 f.1 in
        subst (λ (z : List (Step Op)). new ≤ old + all_at_most s z) (sym all)
        (up_more old new (all_at_most s (bare f.0)) (all_at_most s (bare f.0 ++ bare f.1)) here
        wide))

pub nothing_all : (old : ℕ) → AllCostAtMost nothing old old
nothing_all old = λ run is. still old (all_at_most None (bare run))
  where
    still : (n k : ℕ) → n ≤ n + k
    still n k = omega arith

-- ---- the laws

pub rules_laws : EngineLaws rules_engine
rules_laws = record {
  any_steps = refl;
  style = λ h rs engine good. good.style;
  hold = λ h rs engine good. good.hold;
  good = λ h rs judge c. c;
  own_good = λ h rs judge c. c;
}
