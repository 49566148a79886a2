-- Meaning: the laws of boosted runs, of any object whose operations have a place.
use Rattle.std.specs.Prelude.{◌≡◌, ℕ, ◌+◌, ◌≤◌, ◌<◌, ◌↔◌, ◌++◌, ◌∷◌, [], List, Option, filter}
use Rattle.std.specs.Prelude.{length, map, not, slice_get, Some, suc}
use Rattle.pp_core.specs.declared.call.Kind.{Kind}
use Rattle.pp_core.specs.declared.call.Style.TheVariants as styles
use Rattle.pp_model.specs.Config.{Config, SharedEntry, Start, Step, Tx, after_from, first, item}
use Rattle.pp_model.specs.Config.{own_items, shared_item, shared_ops}
use Rattle.pp_model.specs.Lists.{In}
use Rattle.pp_model.specs.Names.{Name}
use Rattle.pp_model.specs.Object.{Allowed, Item, Object, Reorders}
use Rattle.pp_model.specs.Rules.{Accepted, IsVerdict, IsVerdictFrom, Rejected, RunsFrom, StartMeets}
use Rattle.pp_model.specs.Rules.{Verdict}
use Rattle.pp_model.specs.Serial.{has_id}
use Rattle.pp_records.specs.Expansions.{expand}
use Rattle.pp_records.specs.Fronts.{Front}
use Rattle.pp_records.specs.Records.{RunRecord}
use Rattle.pp_records.specs.Runs.{Lined, Records, Standing, after_records, bare, joined_steps, outset}
use Rattle.pp_summary.specs.Boosted.{Boosted, BoostedBut, Good, PlacesSwap, rest}
use Rattle.pp_summary.specs.Brief.{BriefGood, brief, brief_then}
use Rattle.pp_summary.specs.Runs.{AreBoosted, BriefRuns, IsBoosted, boosting, brief_after}

-- The entries of L, in its order, may be put before the rest of the shared log.
abbrev pub FrontLaw : {Op State : Type 0} → Object Op State → Type 0
FrontLaw {Op} O =
    (place : Op → ℕ) → PlacesSwap O place → (t : Name) (c : Config Op) → BoostedBut O place t c →
    (x : Tx Op) → In x c.opened →
    Reorders O (map shared_item c.shared)
    (map item x.local ++ map shared_item (rest x.local c.shared))

-- If the start holds, the first configuration is boosted, and good records keep it so.
pub record KeepsBoosted {Op State : Type 0} (O : Object Op State) (place : Op → ℕ) : Type 0 where
  -- If the start meets its criteria, the first configuration is boosted.
  pub start : (h : Option (Start Op)) → StartMeets O h → Boosted O place (first h)
  -- A record is good exactly if every step that it means meets its criteria.
  pub good : (f : Front) (c : Config Op) (r : RunRecord Op) → IsBoosted r → Boosted O place c →
      Good O place c r ↔ RunsFrom O c (expand place styles.Boosted f c r)
  -- A good record leads to a boosted configuration.
  pub kept : (f : Front) (c : Config Op) (r : RunRecord Op) → IsBoosted r → Boosted O place c →
      Good O place c r → Boosted O place (after_from c (expand place styles.Boosted f c r))

abbrev pub BoostedLaw : {Op State : Type 0} → Object Op State → Type 0
BoostedLaw {Op} O = (place : Op → ℕ) → PlacesSwap O place → KeepsBoosted O place

-- The brief decides whether a record is good, and which brief a good one leads to.
pub record IsBriefed {Op State : Type 0} (O : Object Op State) (place : Op → ℕ) : Type 0 where
  pub good : (c : Config Op) (r : RunRecord Op) → IsBoosted r → Boosted O place c →
      Good O place c r ↔ BriefGood O place (brief place c) r
  pub step : (f : Front) (c : Config Op) (r : RunRecord Op) → IsBoosted r → Boosted O place c →
      Good O place c r →
      brief place (after_from c (expand place styles.Boosted f c r))
      ≡ brief_then place (brief place c) r

abbrev pub BriefLaw : {Op State : Type 0} → Object Op State → Type 0
BriefLaw {Op} O = (place : Op → ℕ) → PlacesSwap O place → IsBriefed O place

-- The briefs decide a run of records: whether it is accepted, and whose step is the first that
-- fails.
pub record BriefsDecide {Op State : Type 0} (O : Object Op State) (place : Op → ℕ) : Type 0 where
  pub accepted :
      (ks : List Kind) (p : Standing Front Op) (rs : Records (RunRecord Op)) → AreBoosted rs →
      Boosted O place p.config →
      BriefRuns O place (brief place p.config) (bare rs)
      ↔ RunsFrom O p.config (bare (joined_steps (boosting place ks) p rs))
  pub accepted_run :
      (ks : List Kind) (h : Option (Start Op)) (rs : Records (RunRecord Op)) → AreBoosted rs →
      StartMeets O h →
      BriefRuns O place (brief place (first h)) (bare rs)
      ↔ IsVerdict O h (bare (joined_steps (boosting place ks) (outset (boosting place ks) h) rs))
      Accepted
  -- A good run leads to a boosted configuration, whose brief is the last one.
  pub boosted :
      (ks : List Kind) (p : Standing Front Op) (rs : Records (RunRecord Op)) → AreBoosted rs →
      Boosted O place p.config → BriefRuns O place (brief place p.config) (bare rs) →
      Boosted O place (after_records (boosting place ks) p rs).config
  pub last :
      (ks : List Kind) (p : Standing Front Op) (rs : Records (RunRecord Op)) → AreBoosted rs →
      Boosted O place p.config → BriefRuns O place (brief place p.config) (bare rs) →
      brief place (after_records (boosting place ks) p rs).config
      ≡ brief_after place (brief place p.config) (bare rs)
  -- The first record that is not good has the first step that fails. The steps count from i on.
  pub rejected :
      (ks : List Kind) (p : Standing Front Op) (rs more : Records (RunRecord Op))
      (r : Lined (RunRecord Op)) (i : ℕ) (v : Verdict) → AreBoosted rs → IsBoosted r.what →
      Boosted O place p.config → BriefRuns O place (brief place p.config) (bare rs) →
      (BriefGood O place (brief_after place (brief place p.config) (bare rs)) r.what → ⊥) →
      IsVerdictFrom O i p.config (bare (joined_steps (boosting place ks) p (rs ++ r ∷ more))) v →
      (step n : ℕ) × (v ≡ Rejected step (suc n))
      × (i + length (joined_steps (boosting place ks) p rs) ≤ step)
      × (step < i + length (joined_steps (boosting place ks) p (rs ++ r ∷ [])))
  -- These steps are on the line of the record.
  pub lined :
      (ks : List Kind) (p : Standing Front Op) (rs more : Records (RunRecord Op))
      (r : Lined (RunRecord Op)) (k : ℕ) (s : Lined (Step Op)) →
      length (joined_steps (boosting place ks) p rs) ≤ k →
      k < length (joined_steps (boosting place ks) p (rs ++ r ∷ [])) →
      slice_get (joined_steps (boosting place ks) p (rs ++ r ∷ more)) k ≡ Some s →
      s.line ≡ r.line

abbrev pub DecidedLaw : {Op State : Type 0} → Object Op State → Type 0
DecidedLaw {Op} O = (place : Op → ℕ) → PlacesSwap O place → BriefsDecide O place

-- The shared log without the entries of these ids.
abbrev pub without_ids : {Op : Type 0} → List ℕ → List (SharedEntry Op) → List (SharedEntry Op)
without_ids js G = filter (λ g. not (has_id g.id js)) G

-- The last own entries of an open transaction may leave the shared log.
abbrev pub LeaveLaw : {Op State : Type 0} → Object Op State → Type 0
LeaveLaw {Op} O =
    (place : Op → ℕ) → PlacesSwap O place → (c : Config Op) → Boosted O place c →
    (x : Tx Op) → In x c.opened → (front last : List (Item Op)) →
    own_items x.local ≡ front ++ last →
    Allowed O (shared_ops (without_ids (map (λ p. p.id) last) c.shared))
