-- Meaning: the same of a run whose steps are on lines of an input.
use Rattle.std.specs.Prelude.{◌≡◌, ◌≢◌, ◌≤◌, ◌<◌, ℕ, List, Option, Some}
use Rattle.pp_records.specs.Runs.{IsRun, Lined, LinedSteps, Records, Translation, bare}
use Rattle.pp_model.specs.Body.{Tree}
use Rattle.pp_model.specs.Config.{Start, Step, Begin, Cmt, first}
use Rattle.pp_model.specs.Lists.{Before, In}
use Rattle.pp_model.specs.Names.{Name}
use Rattle.pp_model.specs.Object.{Object}
use Rattle.pp_model.specs.Rules.{RunsFrom, StartMeets}
use Rattle.pp_model.specs.Serial.{commits}
use Rattle.pp_laws_runs.specs.RealTime.{commit_order}

-- each line is greater than those before it
abbrev pub LinesRise : {A : Type 0} → List (Lined A) → Type 0
LinesRise {A} xs = (x y : Lined A) → Before x y xs → x.line < y.line

-- no line is less than one before it
abbrev pub LinesNeverFall : {A : Type 0} → List (Lined A) → Type 0
LinesNeverFall {A} xs = (x y : Lined A) → Before x y xs → x.line ≤ y.line

-- the step is in the run, on this line
abbrev pub IsOnLine : {Op : Type 0} → LinedSteps Op → Step Op → ℕ → Type 0
IsOnLine run step i = In (record { line = i; what = step }) run

-- The commit order respects real time by the lines of the input, and the order of each thread.
pub record RespectsLines {Op : Type 0} (h : Option (Start Op)) (run : LinedSteps Op) : Type 0 where
  -- each transaction commits once
  pub once : (t u : Name) → Before t u (commit_order h (bare run)) → t ≢ u
  -- if the line that commits t comes before the line that begins u, and u commits, then t comes
  -- before u
  pub real_time : (t u p : Name) (b : Option Tree) (i j : ℕ) → IsOnLine run (Cmt t) i →
      IsOnLine run (Begin u p b) j → i < j → In u (commits (bare run)) →
      Before t u (commit_order h (bare run))
  -- the start's transaction comes before all others
  pub start_first : (z : Start Op) (u : Name) → h ≡ Some z → In u (commits (bare run)) →
      Before z.tx u (commit_order h (bare run))
  -- if t and u are of one thread, the line that begins t comes before the line that begins u, and
  -- both commit, then t comes before u
  pub thread_order : (t u p : Name) (b c : Option Tree) (i j : ℕ) →
      IsOnLine run (Begin t p b) i → IsOnLine run (Begin u p c) j → i < j →
      In t (commits (bare run)) → In u (commits (bare run)) →
      Before t u (commit_order h (bare run))

-- An accepted run whose lines never fall respects real time by its lines.
abbrev pub LinesLaw : {Op State : Type 0} → Object Op State → Type 0
LinesLaw {Op} O =
    (h : Option (Start Op)) (run : LinedSteps Op) → LinesNeverFall run → StartMeets O h →
    RunsFrom O (first h) (bare run) → RespectsLines h run

-- An accepted run of records whose lines never fall respects real time by these lines.
abbrev pub RecordsLaw : {F R Op State : Type 0} → Object Op State → Translation F R Op → Type 0
RecordsLaw {F} {R} {Op} O T =
    (h : Option (Start Op)) (rs : Records R) (run : LinedSteps Op) → LinesNeverFall rs →
    IsRun O T h rs run → StartMeets O h → RunsFrom O (first h) (bare run) → RespectsLines h run
