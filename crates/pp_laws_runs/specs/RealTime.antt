-- Meaning: the commit order of a run respects real time and the order of each thread.
use Rattle.std.specs.Prelude.{◌≡◌, ◌≢◌, List, map, Option, Some}
use Rattle.pp_model.specs.Body.{Tree}
use Rattle.pp_model.specs.Config.{Start, Step, Begin, Cmt, first}
use Rattle.pp_model.specs.Lists.{Before, In}
use Rattle.pp_model.specs.Names.{Name}
use Rattle.pp_model.specs.Object.{Object}
use Rattle.pp_model.specs.Rules.{RunsFrom, StartMeets}
use Rattle.pp_model.specs.Serial.{attempts, commits}

-- the names of the committed transactions, in the order of the serial run: the start's first
abbrev pub commit_order : {Op : Type 0} → Option (Start Op) → List (Step Op) → List Name
commit_order h ss = map (λ a. a.name) (attempts h ss)

-- The commit order respects real time by the order of the steps, and the order of each thread.
pub record RespectsTime {Op : Type 0} (h : Option (Start Op)) (ss : List (Step Op)) : Type 0 where
  -- each transaction commits once
  pub once : (t u : Name) → Before t u (commit_order h ss) → t ≢ u
  -- a transaction that committed before another began comes before it
  pub real_time : (t u p : Name) (b : Option Tree) → Before (Cmt t) (Begin u p b) ss →
      In u (commits ss) → Before t u (commit_order h ss)
  -- the start's transaction comes before all others
  pub start_first : (z : Start Op) (u : Name) → h ≡ Some z → In u (commits ss) →
      Before z.tx u (commit_order h ss)
  -- the transactions of a thread come in the order in which they began
  pub thread_order : (t u p : Name) (b c : Option Tree) → Before (Begin t p b) (Begin u p c) ss →
      In t (commits ss) → In u (commits ss) → Before t u (commit_order h ss)

-- An accepted run respects real time.
abbrev pub RealTimeLaw : {Op State : Type 0} → Object Op State → Type 0
RealTimeLaw {Op} O =
    (h : Option (Start Op)) (ss : List (Step Op)) → StartMeets O h → RunsFrom O (first h) ss →
    RespectsTime h ss
