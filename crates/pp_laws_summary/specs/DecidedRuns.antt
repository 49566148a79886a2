-- Meaning: runs that are decided by summaries, in place of configurations.
use Rattle.std.specs.Prelude.{◌≡◌, ◌↔◌, ℕ, ◌+◌, ◌≤◌, ◌<◌, suc, List, [], ◌∷◌, ◌++◌, length}
use Rattle.std.specs.Prelude.{Some, slice_get}
use Rattle.pp_model.specs.Config.{Step}
use Rattle.pp_model.specs.Lists.{Each}
use Rattle.pp_model.specs.Object.{Object}
use Rattle.pp_model.specs.Rules.{IsVerdictFrom, Rejected, RunsFrom, Verdict}
use Rattle.pp_records.specs.Runs.{Lined, Records, Standing, Translation, after_record, after_records}
use Rattle.pp_records.specs.Runs.{bare, joined_steps, steps_at}

-- A kind of summaries: what a front and a configuration are summed up to, and what the summary says
-- of the next record.
pub record Summing (F R Op B : Type 0) : Type 1 where
  -- the records of such a run
  pub OfRun : R → Type 0
  -- the fronts and configurations that can be summed up
  pub Holds : Standing F Op → Type 0
  pub summary : Standing F Op → B
  -- the next record is good
  pub Good : B → R → Type 0
  -- the summary after a good record
  pub next : B → R → B

module _ {F R Op B : Type 0} (S : Summing F R Op B) where
  -- Each record is good, by the summary that those before it lead to.
  abbrev pub GoodRuns : B → List R → Type 0
  GoodRuns b [] = Unit {0}
  GoodRuns b (r ∷ rs) = S.Good b r × GoodRuns (S.next b r) rs

  -- the summary that the records lead to
  abbrev pub summary_after : B → List R → B
  summary_after b [] = b
  summary_after b (r ∷ rs) = summary_after (S.next b r) rs

  module _ {State : Type 0} (O : Object Op State) (T : Translation F R Op) where
    -- The summary decides each record: it is good exactly if each of its steps meets its criteria,
    -- and then the next summary is that of the configuration after it.
    pub record DecidesRecords : Type 0 where
      pub good : (p : Standing F Op) (r : R) → S.OfRun r → S.Holds p →
          S.Good (S.summary p) r ↔ RunsFrom O p.config (steps_at T p r)
      pub kept : (p : Standing F Op) (r : R) → S.OfRun r → S.Holds p → S.Good (S.summary p) r →
          S.Holds (after_record T p r)
      pub step : (p : Standing F Op) (r : R) → S.OfRun r → S.Holds p → S.Good (S.summary p) r →
          S.summary (after_record T p r) ≡ S.next (S.summary p) r

    -- The summaries decide a run: whether it is accepted, and which record has the first step that
    -- violates a criterion.
    pub record DecidesRuns : Type 0 where
      pub accepted : (p : Standing F Op) (rs : Records R) → Each S.OfRun (bare rs) → S.Holds p →
          GoodRuns (S.summary p) (bare rs) ↔ RunsFrom O p.config (bare (joined_steps T p rs))
      pub kept : (p : Standing F Op) (rs : Records R) → Each S.OfRun (bare rs) → S.Holds p →
          GoodRuns (S.summary p) (bare rs) → S.Holds (after_records T p rs)
      pub last : (p : Standing F Op) (rs : Records R) → Each S.OfRun (bare rs) → S.Holds p →
          GoodRuns (S.summary p) (bare rs) →
          S.summary (after_records T p rs) ≡ summary_after (S.summary p) (bare rs)
      -- The first record that is not good has that step. The steps count from i on.
      pub rejected :
          (p : Standing F Op) (rs more : Records R) (r : Lined R) (i : ℕ) (v : Verdict) →
          Each S.OfRun (bare rs) → S.OfRun r.what → S.Holds p → GoodRuns (S.summary p) (bare rs) →
          (S.Good (summary_after (S.summary p) (bare rs)) r.what → ⊥) →
          IsVerdictFrom O i p.config (bare (joined_steps T p (rs ++ r ∷ more))) v →
          (step n : ℕ) × (v ≡ Rejected step (suc n)) × (i + length (joined_steps T p rs) ≤ step)
          × (step < i + length (joined_steps T p (rs ++ r ∷ [])))
      -- The steps of this record are on its line.
      pub lined :
          (p : Standing F Op) (rs more : Records R) (r : Lined R) (k : ℕ) (s : Lined (Step Op)) →
          length (joined_steps T p rs) ≤ k → k < length (joined_steps T p (rs ++ r ∷ [])) →
          slice_get (joined_steps T p (rs ++ r ∷ more)) k ≡ Some s → s.line ≡ r.line
