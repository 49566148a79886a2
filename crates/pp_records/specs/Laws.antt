-- Meaning: the laws of runs, for each way in which records become steps.
use Rattle.std.specs.Prelude.{◌≡◌, ◌≤◌, ◌<◌, ◌+◌, ◌↔◌, ℕ, suc, List, [], ◌∷◌, ◌++◌, length, take}
use Rattle.std.specs.Prelude.{Option}
use Rattle.pp_model.specs.Object.{Object}
use Rattle.pp_model.specs.Config.{Start, Step, after_from, first}
use Rattle.pp_model.specs.Rules.{Accepted, Breaks, IsVerdict, Rejected, RunsFrom, StartBreaks}
use Rattle.pp_model.specs.Rules.{StartMeets, Verdict}
use Rattle.pp_records.specs.Runs.{HasOneMore, HasTooManySteps, IsRun, IsRunFrom, Lined, LinedSteps}
use Rattle.pp_records.specs.Runs.{Records, Standing, Translation, after_record, after_records, bare}
use Rattle.pp_records.specs.Runs.{joined_steps, on_line, outset, steps_at}

-- the steps up to and with the one that a verdict names
abbrev pub up_to : {A : Type 0} → Verdict → List A → List A
up_to Accepted ss = ss
up_to (Rejected i n) ss = take i ss

-- Records have a run, and one at most. (A configuration alone does not say where the first step
-- fails, so that there is one run is said by what can not be.) There is one line at most with too
-- many steps. The verdict of the run is that of all steps, and the run reports it.
pub record OneRunLaw {F R Op State : Type 0} (O : Object Op State) (T : Translation F R Op) :
    Type 0 where
  pub some : (h : Option (Start Op)) (rs : Records R) →
      ((run : LinedSteps Op) → IsRun O T h rs run → ⊥) → ⊥
  pub run : (h : Option (Start Op)) (rs : Records R) (a b : LinedSteps Op) → IsRun O T h rs a →
      IsRun O T h rs b → a ≡ b
  pub line : (h : Option (Start Op)) (rs : Records R) (m n : ℕ) → HasTooManySteps O T h rs m →
      HasTooManySteps O T h rs n → m ≡ n
  pub verdict : (h : Option (Start Op)) (rs : Records R) (run : LinedSteps Op) (v : Verdict) →
      IsRun O T h rs run →
      IsVerdict O h (bare run) v ↔ IsVerdict O h (bare (joined_steps T (outset T h) rs)) v
  pub told : (h : Option (Start Op)) (rs : Records R) (v : Verdict) →
      IsVerdict O h (bare (joined_steps T (outset T h) rs)) v →
      IsRun O T h rs (up_to v (joined_steps T (outset T h) rs))

-- Records after others only extend the run. If each step of the first ones holds, the run of all is
-- these steps, followed by the run of the others from the state that the first ones lead to.
pub record ExtendsLaw {F R Op State : Type 0} (O : Object Op State) (T : Translation F R Op) :
    Type 0 where
  pub steps : (p : Standing F Op) (rs more : Records R) →
      joined_steps T p (rs ++ more)
      ≡ joined_steps T p rs ++ joined_steps T (after_records T p rs) more
  pub leads : (p : Standing F Op) (rs more : Records R) →
      after_records T p (rs ++ more) ≡ after_records T (after_records T p rs) more
  pub config : (p : Standing F Op) (rs : Records R) →
      (after_records T p rs).config ≡ after_from p.config (bare (joined_steps T p rs))
  pub run : (p : Standing F Op) (rs more : Records R) (run : LinedSteps Op) →
      RunsFrom O p.config (bare (joined_steps T p rs)) →
      IsRunFrom O T p (rs ++ more) run
      ↔ ((rest : LinedSteps Op) × IsRunFrom O T (after_records T p rs) more rest
      × (run ≡ joined_steps T p rs ++ rest))
  pub one_more : (p : Standing F Op) (rs more : Records R) (most line : ℕ) →
      RunsFrom O p.config (bare (joined_steps T p rs)) →
      HasOneMore O (length (joined_steps T p rs) + most) p.config (joined_steps T p (rs ++ more))
      line
      ↔ HasOneMore O most (after_records T p rs).config
      (joined_steps T (after_records T p rs) more) line
  -- a verdict stays when records follow
  pub rejected : (h : Option (Start Op)) (rs more : Records R) (run : LinedSteps Op) (i n : ℕ) →
      IsRun O T h rs run → IsVerdict O h (bare run) (Rejected i n) → IsRun O T h (rs ++ more) run
  pub too_many : (h : Option (Start Op)) (rs more : Records R) (line : ℕ) →
      HasTooManySteps O T h rs line → HasTooManySteps O T h (rs ++ more) line

-- Each step of the records meets its criteria, there are at most 200,000 of them, and they lead to
-- this state.
pub record StandsAt {F R Op State : Type 0} (O : Object Op State) (T : Translation F R Op)
    (h : Option (Start Op)) (rs : Records R) (p : Standing F Op) (count : ℕ) : Type 0 where
  pub begun : StartMeets O h
  pub hold : RunsFrom O (first h) (bare (joined_steps T (outset T h) rs))
  pub place : p ≡ after_records T (outset T h) rs
  pub number : count ≡ length (joined_steps T (outset T h) rs)
  pub few : count ≤ 200_000

-- The run of the records is this one, whatever comes after them, and it is rejected so.
pub record IsRejectedAt {F R Op State : Type 0} (O : Object Op State) (T : Translation F R Op)
    (h : Option (Start Op)) (rs : Records R) (run : LinedSteps Op) (i n : ℕ) : Type 0 where
  pub run_is : IsRun O T h rs run
  pub verdict : IsVerdict O h (bare run) (Rejected i (suc n))
  pub few : (line : ℕ) → HasTooManySteps O T h rs line → ⊥

-- What a reader of records keeps true.
pub record ReadingLaw {F R Op State : Type 0} (O : Object Op State) (T : Translation F R Op) :
    Type 0 where
  pub nothing : (h : Option (Start Op)) → StartMeets O h → StandsAt O T h [] (outset T h) 0
  -- a record whose steps hold
  pub more :
      (h : Option (Start Op)) (rs : Records R) (p : Standing F Op) (count : ℕ) (r : Lined R) →
      StandsAt O T h rs p count →
      RunsFrom O p.config (steps_at T p r.what) → count + length (steps_at T p r.what) ≤ 200_000 →
      StandsAt O T h (rs ++ r ∷ []) (after_record T p r.what) (count + length (steps_at T p r.what))
  -- a record of which a step fails
  pub fails :
      (h : Option (Start Op)) (rs more : Records R) (p : Standing F Op) (count : ℕ) (r : Lined R)
      (before behind : List (Step Op)) (step : Step Op) (n : ℕ) →
      StandsAt O T h rs p count → steps_at T p r.what ≡ before ++ step ∷ behind →
      RunsFrom O p.config before → count + length before < 200_000 →
      Breaks O (after_from p.config before) step (suc n) →
      IsRejectedAt O T h (rs ++ r ∷ more)
      (joined_steps T (outset T h) rs ++ on_line r.line (before ++ step ∷ []))
      (count + length before + 1) n
  -- a record with step 200,001
  pub too_many :
      (h : Option (Start Op)) (rs more : Records R) (p : Standing F Op) (count : ℕ) (r : Lined R)
      (before behind : List (Step Op)) (step : Step Op) →
      StandsAt O T h rs p count → steps_at T p r.what ≡ before ++ step ∷ behind →
      RunsFrom O p.config before → count + length before ≡ 200_000 →
      HasTooManySteps O T h (rs ++ r ∷ more) r.line
  -- a start that fails
  pub unbegun : (h : Option (Start Op)) (rs : Records R) (n : ℕ) → StartBreaks O h (suc n) →
      IsRejectedAt O T h rs [] 0 n
  -- the end of the records
  pub end : (h : Option (Start Op)) (rs : Records R) (p : Standing F Op) (count : ℕ) →
      StandsAt O T h rs p count →
      IsRun O T h rs (joined_steps T (outset T h) rs)
      × IsVerdict O h (bare (joined_steps T (outset T h) rs)) Accepted
      × ((line : ℕ) → HasTooManySteps O T h rs line → ⊥)
