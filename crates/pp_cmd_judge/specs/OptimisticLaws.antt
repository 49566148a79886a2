-- Proof machinery: the laws of the snapshots as the engine of optimistic runs, and of what they
-- cost.
use Rattle.std.specs.Prelude.{◌≡◌, ◌≤◌, ◌+◌, ℕ, Bool, List, [], ◌∷◌, ◌++◌, length}
use Rattle.std.specs.Prelude.{Option, None, Some}
use Rattle.std.proofs.Common.{refl, sym, ap, ◌∙◌, subst, arith, length-append}
use mathlib.Core.Logic.{inl, inr}
use Rattle.pp_core.specs.declared.call.Kind.{Kind}
use Rattle.pp_core.specs.declared.call.Style.{Style}
use Rattle.pp_core.specs.declared.call.Style.TheVariants.{Optimistic}
use Rattle.pp_records.specs.Inputs.{Widens}
use Rattle.pp_records.specs.Records.{RunRecord}
use Rattle.pp_records.specs.Runs.{Lined, Records, bare}
use Rattle.pp_records.specs.Styles.{translation}
use Rattle.pp_records.proofs.Ends.{bare_append}
use Rattle.pp_format_read.specs.declared.header.Header.{Header}
use Rattle.pp_laws_summary.specs.Summary.{Summary, next_summary}
use Rattle.pp_kind.specs.Object.{rules_of}
use Rattle.pp_model.specs.Config.{first}
use Rattle.pp_model.specs.Object.{Object}
use Rattle.pp_model.specs.Rules.{RunsFrom, StartMeets}
use Rattle.pp_objects.specs.Objects.{kinds_of, objects, place_of}
use Rattle.pp_objects.specs.Parts.{part_of}
use Rattle.pp_kind_parts.specs.Silent.{silent_of}
use Rattle.pp_objects.specs.declared.act.Op.{Op}
use Rattle.pp_summary.specs.Failures.{all_steps}
use Rattle.pp_kind.specs.declared.part.Part.{Part}
use Rattle.pp_snapshots.specs.Held.{Taken}
use Rattle.pp_snapshots.specs.Costs.{AreTried, records_most, take_most}
use Rattle.pp_snapshots.specs.Runs.{optimism}
use Rattle.pp_judge.specs.Costs.{start_at_most}
use Rattle.pp_judge.specs.Objects.{object_of, start_of}
use Rattle.pp_judge.specs.Scans.{InputScan, nothing}
use Rattle.pp_judge.specs.laws.Driven.{add_le, up_more}
use Rattle.pp_cmd_quick.specs.Decisions.{AllHold}
use Rattle.pp_cmd_judge.specs.BoostedCosts.{search_most}
use Rattle.pp_cmd_judge.specs.BoostedLaws.{none_stays}
use Rattle.pp_cmd_judge.specs.EngineLaws.{EngineLaws}
use Rattle.pp_cmd_judge.specs.Optimistic.{AreTakenBehind, optimistic_engine}
use Rattle.pp_cmd_judge.specs.OptimisticCosts.{HasGoodStart, OfTriedAfter, OptimisticCostAtMost}
use Rattle.pp_cmd_judge.specs.OptimisticCosts.{SnapshotsCostAtMost, first_summary, snapshots_most}

-- the start and each step of records that are good meet their criteria
pub all_meet : (h : Header) (rs : Records (RunRecord Op)) (snapshots : Taken (List Kind) Op) →
    AreTakenBehind h rs snapshots → AllHold h rs
all_meet h rs snapshots c = (
  subst (λ (k : List Kind). StartMeets (rules_of objects k) (start_of h)) c.shape c.taken.begun,
  subst (λ (s : Style). RunsFrom (object_of h) (first (start_of h))
      (bare (all_steps (translation place_of s (kinds_of h.catalog)) (start_of h) rs)))
      (sym c.style)
      (subst (λ (k : List Kind). RunsFrom (rules_of objects k) (first (start_of h))
      (bare (all_steps (optimism place_of (kinds_of h.catalog)) (start_of h) rs))) c.shape
      c.taken.meet),
)

-- ---- of more records more are tried

module _ {A State : Type 0} (O : Object A State) (place : A → ℕ) (part : A → Part)
    (silent : A → Bool) where
  tried_front : (rs : List (RunRecord A)) (B : Summary A) (more tried : List (RunRecord A)) →
      AreTried O place B (rs ++ more) tried
      → (front : List (RunRecord A)) × AreTried O place B rs front ×
      (records_most place part silent B front ≤ records_most place part silent B tried)
  tried_front [] B more tried k = ([], refl, omega arith)
  tried_front (r ∷ rs) B more tried (inl k) =
      let e : records_most place part silent B tried ≡ take_most place part silent B r + 0 =
      ap (λ (z : List (RunRecord A)). records_most place part silent B z) k.1 in
      (r ∷ [], inl (k.0, refl), omega (arith, e))
  tried_front (r ∷ rs) B more tried (inr k) =
      let next : Summary A = next_summary place Optimistic B r in
      let f = tried_front rs next more k.1.0 k.1.1 in
      let e : records_most place part silent B tried
      ≡ take_most place part silent B r + records_most place part silent next k.1.0 =
      ap (λ (z : List (RunRecord A)). records_most place part silent B z) k.1.2 in
      (r ∷ f.0, inr (k.0, (f.0, f.1, refl)), omega (arith, e, f.2))

-- the counter rises at most by this
abbrev Most : ℕ → ℕ → ℕ → Type 0
Most old new most = new ≤ old + most

from_none : (old new a : ℕ) → new ≤ old + 0 → new ≤ old + a
from_none old new a x = omega (arith, x)

any_tried : (o : Option (Lined Header)) (rs : Records (RunRecord Op)) (old new : ℕ) →
    new ≤ old + 0 → OfTriedAfter o rs (Most old new)
any_tried None rs old new x = x
any_tried (Some header) rs old new x =
    λ tried k. from_none old new (snapshots_most header.what tried) x

wider_most : (header : Lined Header) (rs more : Records (RunRecord Op)) (old new : ℕ) →
    OfTriedAfter (Some header) rs (Most old new) →
    OfTriedAfter (Some header) (rs ++ more) (Most old new)
wider_most header rs more old new most tried k =
    let B = first_summary header.what in
    let f = tried_front (object_of header.what) place_of part_of silent_of (bare rs) B (bare more)
    tried
    (subst (λ (l : List (RunRecord Op)). AreTried (object_of header.what) place_of B l tried)
    (bare_append rs more) k) in
    up_more old new (snapshots_most header.what f.0) (snapshots_most header.what tried)
    (most f.0 f.1) (add_le (start_at_most (start_of header.what))
    (records_most place_of part_of silent_of B f.0)
    (records_most place_of part_of silent_of B tried) f.2)

most_widens : (sc wider : InputScan) (old new : ℕ) → Widens sc wider →
    SnapshotsCostAtMost sc old new → SnapshotsCostAtMost wider old new
most_widens sc wider old new w most = by sc.header refl most
  where
    by : (o : Option (Lined Header)) → sc.header ≡ o → OfTriedAfter o sc.records (Most old new) →
        SnapshotsCostAtMost wider old new
    by None none m = any_tried wider.header wider.records old new m
    by (Some h) there m =
        subst (λ (o : Option (Lined Header)). OfTriedAfter o wider.records (Most old new))
        (sym (w.header h there))
        (subst (λ (z : Records (RunRecord Op)). OfTriedAfter (Some h) z (Most old new))
        (sym w.records.1) (wider_most h sc.records w.records.0 old new m))

-- ---- the cost

-- a bound from a number on is one from a greater number on
pub snapshots_cost_from : (sc : InputScan) (old more new : ℕ) → old ≤ more →
    SnapshotsCostAtMost sc old new → SnapshotsCostAtMost sc more new
snapshots_cost_from sc old more new le most = by sc.header most
  where
    later : (n : ℕ) → new ≤ old + n → new ≤ more + n
    later n x = omega (arith, le, x)

    by : (o : Option (Lined Header)) → OfTriedAfter o sc.records (Most old new) →
        OfTriedAfter o sc.records (Most more new)
    by None m = later 0 m
    by (Some h) m = λ tried k. later (snapshots_most h.what tried) (m tried k)

-- if the start of a longer input is good, so is that of this one
good_start : (sc wider : InputScan) → Widens sc wider → HasGoodStart wider.header →
    HasGoodStart sc.header
good_start sc wider w good = by sc.header refl
  where
    by : (o : Option (Lined Header)) → sc.header ≡ o → HasGoodStart o
    by None there = tt
    by (Some h) there =
        subst (λ (o : Option (Lined Header)). HasGoodStart o) (w.header h there) good

pub optimistic_widens : (sc wider : InputScan) (old new : ℕ) → Widens sc wider →
    OptimisticCostAtMost sc old new → OptimisticCostAtMost wider old new
optimistic_widens sc wider old new w cost = (
  λ good none. most_widens sc wider old new w
      (cost.0 (good_start sc wider w good) (none_stays sc wider w none)),
  snapshots_cost_from wider (old + search_most sc.records) (old + search_most wider.records) new
      (grows (length sc.records) (length wider.records) (length w.records.0)
      (ap (λ (rs : Records (RunRecord Op)). length rs) w.records.1
      ∙ length-append sc.records w.records.0))
      (most_widens sc wider (old + search_most sc.records) new w cost.1),
)
  where
    grows : (a b more : ℕ) → b ≡ a + more → old + (a + 256) ≤ old + (b + 256)
    grows a b more e = omega (arith, e)

pub optimistic_first : (old : ℕ) → OptimisticCostAtMost nothing old old
optimistic_first old = (λ good none. same_count old, from old (search_most []))
  where
    same_count : (n : ℕ) → n ≤ n + 0
    same_count n = omega arith

    from : (n m : ℕ) → n ≤ n + m + 0
    from n m = omega arith

-- ---- the laws

pub optimistic_laws : EngineLaws optimistic_engine
optimistic_laws = record {
  any_steps = refl;
  style = λ h rs snapshots good. good.style;
  hold = all_meet;
  good = λ h rs judge c. c;
  own_good = λ h rs judge c. c;
}
