-- Meaning: the states of single objects decide what may follow.
use Rattle.std.specs.Prelude.{◌≡◌, ◌↔◌, ℕ, List, ◌++◌}
use Rattle.pp_model.specs.Config.{Config, Tx, shared_ops}
use Rattle.pp_model.specs.Lists.{In}
use Rattle.pp_model.specs.Object.{Allowed, AllowedFrom, Object, TellsStates, ops, state}
use Rattle.pp_model.specs.Sound.{Sound}
use Rattle.pp_records.specs.Fronts.{Front}
use Rattle.pp_records.specs.Runs.{Standing}
use Rattle.pp_laws_summary.specs.LocalLogs.{Summable, serial_at}
use Rattle.pp_laws_summary.specs.Places.{PlacesPart, ops_at}
use Rattle.pp_laws_summary.specs.Summary.{open_summary, summary_view}
use Rattle.pp_laws_summary.specs.Views.{done_at}

-- The state of an object decides what may follow.
pub record StatesTell {Op State : Type 0} (O : Object Op State) (place : Op → ℕ) : Type 0 where
  -- the operations that may follow those that a transaction has of an object
  pub view : (p : Standing Front Op) → Summable O place p.front p.config → (x : Tx Op) →
      In x p.config.opened → (o : ℕ) (k : List Op) →
      Allowed O (summary_view place o p.config.done (open_summary place p.front x) ++ k)
      ↔ AllowedFrom O
      (state O (summary_view place o p.config.done (open_summary place p.front x))) k
  -- the operations that may follow the shared log
  pub shared : (c : Config Op) → Sound O c → (k : List Op) →
      Allowed O (shared_ops c.shared ++ k)
      ↔ ((o : ℕ) →
      AllowedFrom O (state O (ops_at place o (shared_ops c.shared))) (ops_at place o k))
  -- the committed operations of an object lead to one state, in the order of the shared log and in
  -- commit order
  pub done : (c : Config Op) → Sound O c → (o : ℕ) →
      state O (shared_ops (done_at place o c.shared)) ≡ state O (ops (serial_at place o c.done))

-- The law of states.
abbrev pub StatesLaw : {Op State : Type 0} → Object Op State → Type 0
StatesLaw {Op} O = (place : Op → ℕ) → PlacesPart O place → TellsStates O → StatesTell O place
