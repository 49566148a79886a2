-- Meaning: what a Quick that takes the records of a run, one by one, proves about the run.
use Rattle.std.specs.Prelude.{◌≡◌, ℕ, true, false, List, [], ◌∷◌, ◌++◌, length, map, Option}
use Rattle.pp_core.specs.declared.call.Kind.{Kind}
use Rattle.pp_model.specs.Config.{Start, after, first}
use Rattle.pp_model.specs.Object as model
use Rattle.pp_model.specs.Rules.{Accepted, IsVerdict, RunsFrom, StartMeets}
use Rattle.pp_model.specs.Serial.{attempts, committed_tx}
use Rattle.pp_kind.specs.Object.{Object, rules_of}
use Rattle.pp_records.specs.Records.{RunRecord}
use Rattle.pp_records.specs.Runs.{Lined, Records, bare}
use Rattle.pp_summary.specs.Brief.{brief}
use Rattle.pp_summary.specs.Failures.{FailsIn, FailureLaw, all_steps, standing_after}
use Rattle.pp_summary.specs.Held.{Held, IsHeldOf, Takes, held_first}
use Rattle.pp_summary.specs.Runs.{AreBoosted, BriefRuns, IsBoosted, boosting, brief_after}
use Rattle.pp_summary.specs.Sums.{AreTried}

module _ {Shape State Op Undo : Type 0} (o : Object Shape State Op Undo) (place : Op → ℕ)
    (ks : List Kind) (h : Option (Start Op)) where
  -- The records are of a boosted run, whose start and each of whose steps meet their criteria, and
  -- this is the Quick after them.
  pub record HasRead (rs : Records (RunRecord Op)) (v : Held Shape Op) : Type 0 where
    pub boosted : AreBoosted rs
    pub begun : StartMeets (rules_of o v.shape) h
    pub hold : RunsFrom (rules_of o v.shape) (first h) (bare (all_steps (boosting place ks) h rs))
    pub held : IsHeldOf o place v (standing_after (boosting place ks) h rs).config
    pub count : v.count ≡ length rs

  -- What a reader of records knows about the run.
  pub record IsReader : Type 0 where
    pub nothing : (shape : Shape) → StartMeets (rules_of o shape) h →
        HasRead [] (held_first o place shape h)
    -- A record that is taken.
    pub more :
        (rs : Records (RunRecord Op)) (r : Lined (RunRecord Op)) (v w : Held Shape Op) →
        IsBoosted r.what → HasRead rs v → Takes o place v r.what true w → HasRead (rs ++ r ∷ []) w
    -- A record that is not taken.
    pub fails :
        (rs behind : Records (RunRecord Op)) (r : Lined (RunRecord Op)) (v w : Held Shape Op) →
        HasRead rs v → Takes o place v r.what false w →
        FailsIn (rules_of o v.shape) (boosting place ks) h (rs ++ r ∷ behind) r
    -- The end of the records.
    pub accepted : (rs : Records (RunRecord Op)) (v : Held Shape Op) → HasRead rs v →
        IsVerdict (rules_of o v.shape) h (bare (all_steps (boosting place ks) h rs)) Accepted
    pub done : (rs : Records (RunRecord Op)) (v : Held Shape Op) → HasRead rs v →
        v.brief.done ≡ (after h (bare (all_steps (boosting place ks) h rs))).done
    -- The start and each transaction that the steps commit, with their operations.
    pub committed : (rs : Records (RunRecord Op)) (v : Held Shape Op) → HasRead rs v →
        v.brief.done
        ≡ map committed_tx (attempts h (bare (all_steps (boosting place ks) h rs)))
    -- The records are good by their briefs, which lead to that of the Quick.
    pub good : (rs : Records (RunRecord Op)) (v : Held Shape Op) → HasRead rs v →
        BriefRuns (rules_of o v.shape) place (brief place (first h)) (bare rs)
    pub leads : (rs : Records (RunRecord Op)) (v : Held Shape Op) → HasRead rs v →
        v.brief ≡ brief_after place (brief place (first h)) (bare rs)
    -- Tried are the records up to and with the one that fails, and all of them if each is taken.
    pub tried :
        (shape : Shape) (rs : Records (RunRecord Op)) (r : Lined (RunRecord Op)) → AreBoosted rs →
        (f : FailsIn (rules_of o shape) (boosting place ks) h rs r) →
        AreTried (rules_of o shape) place (brief place (first h)) (bare rs)
        (bare f.before ++ r.what ∷ [])
    pub all_tried : (rs : Records (RunRecord Op)) (v : Held Shape Op) → HasRead rs v →
        AreTried (rules_of o v.shape) place (brief place (first h)) (bare rs) (bare rs)

abbrev pub ReaderLaw : {Shape State Op Undo : Type 0} → Object Shape State Op Undo → (Op → ℕ) →
    Type 0
ReaderLaw {Op = Op} o place = (ks : List Kind) (h : Option (Start Op)) → IsReader o place ks h

-- Which record of a boosted run fails.
abbrev pub BoostedFailureLaw : {Op State : Type 0} → model.Object Op State → Type 0
BoostedFailureLaw {Op} O =
    (place : Op → ℕ) (ks : List Kind) → FailureLaw O (boosting place ks)
