-- Meaning: what Snapshots that take the records of a run, one after another, say of the run.
use Rattle.std.specs.Prelude.{◌≡◌, ◌↔◌, ℕ, true, false, List, [], ◌∷◌, ◌++◌, length, map, Option}
use Rattle.pp_core.specs.declared.call.Kind.{Kind}
use Rattle.pp_core.specs.declared.call.Style.TheVariants.{Optimistic}
use Rattle.pp_kind.specs.Object.{Object, rules_of}
use Rattle.pp_laws_summary.specs.DecidedRuns.{GoodRuns, summary_after}
use Rattle.pp_laws_summary.specs.Laws.{summing}
use Rattle.pp_laws_summary.specs.Summary.{summary_of}
use Rattle.pp_model.specs.Config.{Start, after, first}
use Rattle.pp_model.specs.Lists.{Each}
use Rattle.pp_model.specs.Rules.{Accepted, IsVerdict, RunsFrom, StartMeets}
use Rattle.pp_model.specs.Serial.{attempts, committed_tx}
use Rattle.pp_records.specs.Expansions.{IsOfStyle}
use Rattle.pp_records.specs.Fronts.{Front}
use Rattle.pp_records.specs.Records.{RunRecord}
use Rattle.pp_records.specs.Runs.{Lined, Records, Standing, Translation, after_record, bare, outset}
use Rattle.pp_records.specs.Runs.{steps_at}
use Rattle.pp_records.specs.Styles.{translation}
use Rattle.pp_summary.specs.Failures.{FailsIn, all_steps, standing_after}
use Rattle.pp_snapshots.specs.Held.{IsGoodTaken, IsTakenOf, Taken, Takes, first_taken}
use Rattle.pp_snapshots.specs.Held.{summary_taken}
use Rattle.pp_snapshots.specs.Costs.{AreTried}

-- the record is one of an optimistic run
abbrev pub IsOptimistic : {Op : Type 0} → RunRecord Op → Type 0
IsOptimistic r = IsOfStyle Optimistic r

-- each of them is
abbrev pub AreOptimistic : {Op : Type 0} → Records (RunRecord Op) → Type 0
AreOptimistic rs = Each IsOptimistic (bare rs)

-- how records of an optimistic run become steps
abbrev pub optimism : {Op : Type 0} → (Op → ℕ) → List Kind → Translation Front (RunRecord Op) Op
optimism place ks = translation place Optimistic ks

module _ {Shape State Op Undo : Type 0} (o : Object Shape State Op Undo) (place : Op → ℕ)
    (ks : List Kind) (h : Option (Start Op)) where
  -- The records are of an optimistic run, whose start and each of whose steps meet their criteria,
  -- and this is the summary after them.
  pub record IsTakenAfter (rs : Records (RunRecord Op)) (s : Taken Shape Op) : Type 0 where
    pub optimistic : AreOptimistic rs
    pub begun : StartMeets (rules_of o s.shape) h
    pub meet : RunsFrom (rules_of o s.shape) (first h) (bare (all_steps (optimism place ks) h rs))
    pub taken : IsTakenOf o place s (standing_after (optimism place ks) h rs)
    pub count : s.count ≡ length rs

  -- What Snapshots say that take records one after another.
  pub record TakesRuns : Type 0 where
    -- a record is good, by the summary, exactly if each of its steps meets its criteria
    pub good : (s : Taken Shape Op) (p : Standing Front Op) (r : RunRecord Op) → IsOptimistic r →
        IsTakenOf o place s p →
        IsGoodTaken o place p.front.kinds s r
        ↔ RunsFrom (rules_of o s.shape) p.config (steps_at (optimism place ks) p r)
    -- the summary after a good record is that of the front and the configuration after it
    pub next : (s w : Taken Shape Op) (p : Standing Front Op) (r : RunRecord Op) →
        IsOptimistic r → IsTakenOf o place s p → Takes o place s r true w →
        IsTakenOf o place w (after_record (optimism place ks) p r)
    -- what is before the first record
    pub nothing : (shape : Shape) → StartMeets (rules_of o shape) h →
        IsTakenAfter [] (first_taken shape h)
    -- a record that is taken
    pub more :
        (rs : Records (RunRecord Op)) (r : Lined (RunRecord Op)) (s w : Taken Shape Op) →
        IsOptimistic r.what → IsTakenAfter rs s → Takes o place s r.what true w →
        IsTakenAfter (rs ++ r ∷ []) w
    -- a record that is not
    pub fails :
        (rs behind : Records (RunRecord Op)) (r : Lined (RunRecord Op)) (s w : Taken Shape Op) →
        IsOptimistic r.what → IsTakenAfter rs s → Takes o place s r.what false w →
        FailsIn (rules_of o s.shape) (optimism place ks) h (rs ++ r ∷ behind) r
    -- the summary is still that of the same front and configuration then
    pub stays :
        (rs : Records (RunRecord Op)) (r : Lined (RunRecord Op)) (s w : Taken Shape Op) →
        IsTakenAfter rs s → Takes o place s r.what false w → IsTakenAfter rs w
    -- the end of the records
    pub accepted : (rs : Records (RunRecord Op)) (s : Taken Shape Op) → IsTakenAfter rs s →
        IsVerdict (rules_of o s.shape) h (bare (all_steps (optimism place ks) h rs)) Accepted
    pub done : (rs : Records (RunRecord Op)) (s : Taken Shape Op) → IsTakenAfter rs s →
        s.done ≡ (after h (bare (all_steps (optimism place ks) h rs))).done
    -- the start and each transaction that the steps commit, with their operations
    pub committed : (rs : Records (RunRecord Op)) (s : Taken Shape Op) → IsTakenAfter rs s →
        s.done ≡ map committed_tx (attempts h (bare (all_steps (optimism place ks) h rs)))
    -- the records are good by their summaries, which lead to this one
    pub are_good : (rs : Records (RunRecord Op)) (s : Taken Shape Op) → IsTakenAfter rs s →
        GoodRuns (summing Optimistic (rules_of o s.shape) place)
        (summary_of place (outset (optimism place ks) h)) (bare rs)
    pub leads : (rs : Records (RunRecord Op)) (s : Taken Shape Op) → IsTakenAfter rs s →
        summary_taken ks s
        ≡ summary_after (summing Optimistic (rules_of o s.shape) place)
        (summary_of place (outset (optimism place ks) h)) (bare rs)
    -- The records up to and with the one that fails are tried, and all of them if each is taken.
    pub tried :
        (shape : Shape) (rs : Records (RunRecord Op)) (r : Lined (RunRecord Op)) →
        AreOptimistic rs → (f : FailsIn (rules_of o shape) (optimism place ks) h rs r) →
        AreTried (rules_of o shape) place (summary_of place (outset (optimism place ks) h))
        (bare rs) (bare f.before ++ r.what ∷ [])
    pub all_tried : (rs : Records (RunRecord Op)) (s : Taken Shape Op) → IsTakenAfter rs s →
        AreTried (rules_of o s.shape) place (summary_of place (outset (optimism place ks) h))
        (bare rs) (bare rs)

abbrev pub TakenLaw : {Shape State Op Undo : Type 0} → Object Shape State Op Undo → (Op → ℕ) →
    Type 0
TakenLaw {Op = Op} o place = (ks : List Kind) (h : Option (Start Op)) → TakesRuns o place ks h
