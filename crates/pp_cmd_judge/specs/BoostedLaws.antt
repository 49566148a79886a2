-- Proof machinery: the laws of the summary as the engine of boosted runs, and of what it costs.
use Rattle.std.specs.Prelude.{◌≡◌, ◌≤◌, ◌+◌, ℕ, [], length, Option, None, Some}
use Rattle.std.proofs.Common.{refl, sym, ap, ◌∙◌, subst, arith, length-append}
use Rattle.pp_records.specs.Inputs.{Widens}
use Rattle.pp_records.specs.Records.{RunRecord}
use Rattle.pp_records.specs.Runs.{Lined, Records}
use Rattle.pp_format_read.specs.declared.header.Header.{Header}
use Rattle.pp_objects.specs.declared.act.Op.{Op}
use Rattle.pp_summary.proofs.Failures.{failure_law}
use Rattle.pp_summary.specs.Failures.{FailsIn}
use Rattle.pp_judge.specs.Objects.{object_of, start_of, translation_of}
use Rattle.pp_judge.specs.Scans.{InputScan, nothing}
use Rattle.pp_cmd_quick.specs.Costs.{OfTried, RecordsCostAtMost, tried_most}
use Rattle.pp_cmd_quick.specs.DeciderLaws.{all_hold, quick_laws}
use Rattle.pp_cmd_judge.specs.Boosted.{boosted_engine}
use Rattle.pp_cmd_judge.specs.BoostedCosts.{BoostedCostAtMost, NoneFails, search_most}
use Rattle.pp_cmd_judge.specs.EngineLaws.{EngineLaws}

-- ---- the cost

-- a bound from a number on is one from a greater number on
pub cost_from : (sc : InputScan) (old more new : ℕ) → old ≤ more → RecordsCostAtMost sc old new →
    RecordsCostAtMost sc more new
cost_from sc old more new le most = by sc.header most
  where
    later : (n : ℕ) → new ≤ old + n → new ≤ more + n
    later n x = omega (arith, le, x)

    by : (o : Option (Lined Header)) → OfTried o sc.records (λ n. new ≤ old + n) →
        OfTried o sc.records (λ n. new ≤ more + n)
    by None m = later 0 m
    by (Some h) m = λ tried k. later (tried_most h.what tried) (m tried k)

-- if no record of more fails, none of these does
pub none_stays : (sc wider : InputScan) → Widens sc wider → NoneFails wider.header wider.records →
    NoneFails sc.header sc.records
none_stays sc wider w none = by sc.header refl
  where
    by : (o : Option (Lined Header)) → sc.header ≡ o → NoneFails o sc.records
    by None there = tt
    by (Some h) there = λ r f.
        let here : NoneFails (Some h) wider.records = subst
        (λ (o : Option (Lined Header)). NoneFails o wider.records) (w.header h there) none in
        here r (subst (λ (rs : Records (RunRecord Op)). FailsIn (object_of h.what)
        (translation_of h.what) (start_of h.what) rs r) (sym w.records.1)
        ((failure_law (object_of h.what) (translation_of h.what)).stays (start_of h.what)
        sc.records w.records.0 r f))

pub boosted_widens : (sc wider : InputScan) (old new : ℕ) → Widens sc wider →
    BoostedCostAtMost sc old new → BoostedCostAtMost wider old new
boosted_widens sc wider old new w cost = (
  λ none. quick_laws.most_widens sc wider old new w (cost.0 (none_stays sc wider w none)),
  cost_from wider (old + search_most sc.records) (old + search_most wider.records) new
      (grows (length sc.records) (length wider.records) (length w.records.0)
      (ap (λ (rs : Records (RunRecord Op)). length rs) w.records.1
      ∙ length-append sc.records w.records.0))
      (quick_laws.most_widens sc wider (old + search_most sc.records) new w cost.1),
)
  where
    grows : (a b more : ℕ) → b ≡ a + more → old + (a + 256) ≤ old + (b + 256)
    grows a b more e = omega (arith, e)

pub boosted_first : (old : ℕ) → BoostedCostAtMost nothing old old
boosted_first old = (
  λ none. quick_laws.first_most old,
  cost_from nothing old (old + search_most []) old (from old (search_most []))
      (quick_laws.first_most old),
)
  where
    from : (n m : ℕ) → n ≤ n + m
    from n m = omega arith

-- ---- the laws

pub boosted_laws : EngineLaws boosted_engine
boosted_laws = record {
  any_steps = refl;
  style = λ h rs quick good. good.style;
  hold = all_hold;
  good = λ h rs judge c. c;
  own_good = λ h rs judge c. c;
}
