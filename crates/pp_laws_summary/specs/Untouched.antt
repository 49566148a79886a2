-- Meaning: an object on which a transaction has no own entry. What it pulls there meets each
-- criterion, and leads to the state of the serial run.
use Rattle.std.specs.Prelude.{◌≡◌, ◌≢◌, ◌↔◌, ◌==◌, ◌&&◌, ℕ, not, List, [], ◌∷◌, ◌++◌, filter, take}
use Rattle.pp_model.specs.Config.{CommittedTx, Config, LocalEntry, SharedEntry, Tx, own, shared_ops}
use Rattle.pp_model.specs.Lists.{In}
use Rattle.pp_model.specs.Object.{Allowed, AllowedFrom, Object, TellsStates, ops, state}
use Rattle.pp_model.specs.Serial.{has_id}
use Rattle.pp_model.specs.Sound.{Sound}
use Rattle.pp_records.specs.Fronts.{Front}
use Rattle.pp_records.specs.Runs.{Standing}
use Rattle.pp_laws_summary.specs.Counts.{first_ids}
use Rattle.pp_laws_summary.specs.LocalLogs.{Summable, serial_at}
use Rattle.pp_laws_summary.specs.Places.{PlacesPart}
use Rattle.pp_laws_summary.specs.Summary.{SummaryRefresh, open_summary, summary_missing}
use Rattle.pp_laws_summary.specs.Summary.{summary_of, summary_view}

-- the committed entries of the object but the first n of the commit order, in the order of the
-- shared log
abbrev pub others_at : {Op : Type 0} → (Op → ℕ) → ℕ → List (SharedEntry Op) →
    List (CommittedTx Op) → ℕ → List (SharedEntry Op)
others_at place o G D n =
    filter (λ g. (g.committed && (place g.op == o)) && not (has_id g.id (first_ids place o D n))) G

-- the first n operations of the commit order on the object, and then the others
abbrev pub refreshed_at : {Op : Type 0} → (Op → ℕ) → ℕ → Config Op → ℕ → List Op
refreshed_at place o c n =
    ops (take n (serial_at place o c.done)) ++ shared_ops (others_at place o c.shared c.done n)

-- The transaction has no own entry on the object.
abbrev pub HasNoneAt : {Op : Type 0} → (Op → ℕ) → ℕ → Tx Op → Type 0
HasNoneAt {Op} place o x = (a : LocalEntry Op) → In a (own x.local) → place a.op ≢ o

-- Nothing can fail there but the operation itself.
pub record UntouchedIsSafe {Op State : Type 0} (O : Object Op State) (place : Op → ℕ) :
    Type 0 where
  -- A snapshot, and then what was committed since, is allowed, in whichever order the entries are
  -- in the shared log.
  pub allowed : (c : Config Op) → Sound O c → (o n : ℕ) → Allowed O (refreshed_at place o c n)
  -- It leads to the state of the serial run.
  pub leads : (c : Config Op) → Sound O c → (o n : ℕ) →
      state O (refreshed_at place o c n) ≡ state O (ops (serial_at place o c.done))
  -- So a refresh of the object is good.
  pub refresh : (p : Standing Front Op) → Summable O place p.front p.config → (x : Tx Op) →
      In x p.config.opened → (o : ℕ) → HasNoneAt place o x →
      SummaryRefresh O place (summary_of place p) o (open_summary place p.front x)
  -- An operation that takes a new snapshot is tested in the state of the serial run alone.
  pub operation : (p : Standing Front Op) → Summable O place p.front p.config → (x : Tx Op) →
      In x p.config.opened → (op : Op) → HasNoneAt place (place op) x →
      Allowed O
      (summary_view place (place op) p.config.done (open_summary place p.front x)
      ++ (shared_ops
      (summary_missing place (place op) (summary_of place p) (open_summary place p.front x))
      ++ op ∷ []))
      ↔ AllowedFrom O (state O (ops (serial_at place (place op) p.config.done))) (op ∷ [])

-- The law of untouched objects.
abbrev pub UntouchedLaw : {Op State : Type 0} → Object Op State → Type 0
UntouchedLaw {Op} O =
    (place : Op → ℕ) → PlacesPart O place → TellsStates O → UntouchedIsSafe O place
