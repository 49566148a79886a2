-- Meaning: the five styles as translations, and their laws.
use Rattle.std.specs.Prelude.{◌≡◌, ◌≤◌, ◌↔◌, ℕ, suc, List, [], ◌∷◌, length, map, Option}
use Rattle.pp_core.specs.declared.call.Kind.{Kind}
use Rattle.pp_core.specs.declared.call.Style.{Style}
use Rattle.pp_core.specs.declared.call.Style.TheVariants.{Rules}
use Rattle.pp_model.specs.Object.{Object}
use Rattle.pp_model.specs.Config.{Start, first}
use Rattle.pp_model.specs.Rules.{IsVerdict, StartMeets, Verdict}
use Rattle.pp_records.specs.Records.{RunRecord}
use Rattle.pp_records.specs.Records.{Plain}
use Rattle.pp_records.specs.Expansions.{expand, front_after}
use Rattle.pp_records.specs.Fronts.{Front, new_front}
use Rattle.pp_records.specs.Runs.{EndsAtFailure, HasTooManySteps, IsRun, Lined, LinedSteps, Records}
use Rattle.pp_records.specs.Runs.{Standing, Translation, bare, joined_steps}

-- The translation of a style, over objects of these kinds.
abbrev pub translation : {Op : Type 0} → (Op → ℕ) → Style → List Kind →
    Translation Front (RunRecord Op) Op
translation place style ks =
    record { new = new_front ks; expand = expand place style; front_after = front_after }

-- the steps as records, each on its line
abbrev pub plain : {Op : Type 0} → LinedSteps Op → List (Lined (RunRecord Op))
plain ss = map (λ s. record { line = s.line; what = Plain s.what }) ss

-- the steps on lines of their own, the first of which is i + 1
abbrev pub numbered : {A : Type 0} → ℕ → List A → List (Lined A)
numbered i [] = []
numbered i (s ∷ ss) = record { line = suc i; what = s } ∷ numbered (suc i) ss

-- the steps of a run as records of style rules: step i, from 1, on line i + 1, after a header
abbrev pub restated : {Op : Type 0} → LinedSteps Op → LinedSteps Op
restated run = numbered 1 (bare run)

-- A record that is a step is that step, in every style, and in style rules each record is. So the
-- run of such records is the steps up to and with the first that fails, and it has their verdict.
pub record RulesLaw {Op State : Type 0} (O : Object Op State) : Type 0 where
  pub steps :
      (place : Op → ℕ) (style : Style) (ks : List Kind) (p : Standing Front Op)
      (ss : LinedSteps Op) → joined_steps (translation place style ks) p (plain ss) ≡ ss
  pub run : (place : Op → ℕ) (ks : List Kind) (h : Option (Start Op)) (ss run : LinedSteps Op) →
      StartMeets O h →
      IsRun O (translation place Rules ks) h (plain ss) run ↔ EndsAtFailure O (first h) ss run
  pub verdict :
      (place : Op → ℕ) (ks : List Kind) (h : Option (Start Op)) (ss run : LinedSteps Op)
      (v : Verdict) → IsRun O (translation place Rules ks) h (plain ss) run →
      IsVerdict O h (bare run) v ↔ IsVerdict O h (bare ss) v
  pub few :
      (place : Op → ℕ) (ks : List Kind) (h : Option (Start Op)) (ss : LinedSteps Op) (line : ℕ) →
      length ss ≤ 200_000 →
      HasTooManySteps O (translation place Rules ks) h (plain ss) line → ⊥

-- The steps of a run, taken as records of style rules, have the same run on lines of its own, hence
-- the same verdict.
pub record RestatedLaw {F R Op State : Type 0} (O : Object Op State) (T : Translation F R Op) :
    Type 0 where
  pub steps : (run : LinedSteps Op) → bare (restated run) ≡ bare run
  pub run :
      (place : Op → ℕ) (ks : List Kind) (h : Option (Start Op)) (rs : Records R)
      (run : LinedSteps Op) → IsRun O T h rs run →
      IsRun O (translation place Rules ks) h (plain (restated run)) (restated run)
  pub verdict :
      (place : Op → ℕ) (ks : List Kind) (h : Option (Start Op)) (rs : Records R)
      (run again : LinedSteps Op) (v : Verdict) → IsRun O T h rs run →
      IsRun O (translation place Rules ks) h (plain (restated run)) again →
      IsVerdict O h (bare again) v ↔ IsVerdict O h (bare run) v
  pub few :
      (place : Op → ℕ) (ks : List Kind) (h : Option (Start Op)) (rs : Records R)
      (run : LinedSteps Op) → IsRun O T h rs run →
      ((line : ℕ) → HasTooManySteps O T h rs line → ⊥) → (line : ℕ) →
      HasTooManySteps O (translation place Rules ks) h (plain (restated run)) line → ⊥
