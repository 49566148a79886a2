-- Meaning: new entries of an object that swap with the own ones. The own operations are tested
-- again, in the state of the serial run, and the new entries not at all.
use Rattle.std.specs.Prelude.{◌≡◌, ◌↔◌, ℕ, List, ◌++◌}
use Rattle.pp_model.specs.Config.{LocalEntry, SharedEntry, Tx, local_ops, own, shared_ops}
use Rattle.pp_model.specs.Lists.{In}
use Rattle.pp_model.specs.Object.{AllowedFrom, Object, Swaps, TellsStates, ops, state, state_from}
use Rattle.pp_records.specs.Fronts.{Front}
use Rattle.pp_records.specs.Runs.{Standing}
use Rattle.pp_laws_summary.specs.LocalLogs.{Summable, serial_at}
use Rattle.pp_laws_summary.specs.Places.{PlacesPart, ops_at}
use Rattle.pp_laws_summary.specs.Summary.{SummaryRefresh, open_summary, summary_missing}
use Rattle.pp_laws_summary.specs.Summary.{summary_of, summary_view}

-- the own operations on the object
abbrev pub own_at : {Op : Type 0} → (Op → ℕ) → ℕ → Tx Op → List Op
own_at place o x = ops_at place o (local_ops (own x.local))

-- the state of what is committed on the object
abbrev pub serial_state : {Op State : Type 0} → Object Op State → (Op → ℕ) → ℕ →
    Standing Front Op → State
serial_state O place o p = state O (ops (serial_at place o p.config.done))

-- the entries of the object that the transaction misses
abbrev pub missing_now : {Op : Type 0} → (Op → ℕ) → ℕ → Standing Front Op → Tx Op →
    List (SharedEntry Op)
missing_now place o p x =
    summary_missing place o (summary_of place p) (open_summary place p.front x)

-- Each own entry on the object swaps with each entry that is missed there, both ways.
abbrev pub SwapBothWays : {Op State : Type 0} → Object Op State → (Op → ℕ) → ℕ →
    Standing Front Op → Tx Op → Type 0
SwapBothWays {Op} O place o p x =
    (a : LocalEntry Op) (g : SharedEntry Op) → In a (own x.local) → place a.op ≡ o →
    In g (missing_now place o p x) → Swaps O a.op g.op × Swaps O g.op a.op

-- To take over what is missed is to replay the own operations after it.
pub record SwappingIsReplay {Op State : Type 0} (O : Object Op State) (place : Op → ℕ) :
    Type 0 where
  -- A refresh is good exactly if the own operations are allowed in the state of the serial run.
  pub refresh : (p : Standing Front Op) → Summable O place p.front p.config → (x : Tx Op) →
      In x p.config.opened → (o : ℕ) → SwapBothWays O place o p x →
      SummaryRefresh O place (summary_of place p) o (open_summary place p.front x)
      ↔ AllowedFrom O (serial_state O place o p) (own_at place o x)
  -- Then it leads to the state after them.
  pub leads : (p : Standing Front Op) → Summable O place p.front p.config → (x : Tx Op) →
      In x p.config.opened → (o : ℕ) → SwapBothWays O place o p x →
      SummaryRefresh O place (summary_of place p) o (open_summary place p.front x) →
      state O
      (summary_view place o p.config.done (open_summary place p.front x)
      ++ shared_ops (missing_now place o p x))
      ≡ state_from O (serial_state O place o p) (own_at place o x)

-- The law of replays.
abbrev pub ReplaysLaw : {Op State : Type 0} → Object Op State → Type 0
ReplaysLaw {Op} O = (place : Op → ℕ) → PlacesPart O place → TellsStates O → SwappingIsReplay O place
