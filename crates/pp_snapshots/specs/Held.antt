-- Meaning: what contracts see of Snapshots, and what taking a record does.
use Rattle.std.specs.Prelude.{◌≡◌, ◌+◌, ℕ, Bool, true, false}
use Rattle.std.specs.Prelude.{List, [], length, map, Option, None, Some}
use Rattle.pp_core.specs.declared.call.Kind.{Kind}
use Rattle.pp_core.specs.declared.call.Style.TheVariants.{Optimistic}
use Rattle.pp_core.specs.declared.entry.CommittedTx.{CommittedTx}
use Rattle.pp_core.specs.declared.entry.Item.{Item}
use Rattle.pp_model.specs.Body.{Tree}
use Rattle.pp_model.specs.Config.{Start, first}
use Rattle.pp_model.specs.Names.{Name}
use Rattle.pp_model.specs.Rules.{StartMeets}
use Rattle.pp_kind.specs.Object.{Object, rules_of}
use Rattle.pp_laws_summary.specs.LocalLogs.{Summable}
use Rattle.pp_laws_summary.specs.Summary.{OpenSummary, Summary, SummaryGood, next_summary}
use Rattle.pp_laws_summary.specs.Summary.{summary_of}
use Rattle.pp_records.specs.Expansions.{expand}
use Rattle.pp_records.specs.Fronts.{Front}
use Rattle.pp_records.specs.Records.{RunRecord}
use Rattle.pp_records.specs.Runs.{Standing}
use Rattle.pp_snapshots.specs.Shown.{as_local, seen_in, shared_done}

-- An open transaction: its own operations, and of each place with a snapshot how many of the commits
-- there are in it.
pub record OpenTaken (Op : Type 0) : Type 0 where
  pub name : Name
  pub thread : Name
  pub body : Option Tree
  pub own : List (Item Op)
  pub seen : List (ℕ × ℕ)

-- The objects, the names and ids that were used, the transactions, and how many records were taken.
pub record Taken (Shape Op : Type 0) : Type 0 where
  pub shape : Shape
  pub names : List Name
  pub ids : List ℕ
  pub opened : List (OpenTaken Op)
  pub done : List (CommittedTx Op)
  pub count : ℕ

-- the summary of an open transaction: it has pushed nothing
abbrev pub open_of : {Op : Type 0} → OpenTaken Op → OpenSummary Op
open_of x =
    record {
      name = x.name;
      thread = x.thread;
      body = x.body;
      own = map (as_local x.name) x.own;
      seen = seen_in x.seen;
      held = None;
    }

-- The summary: the shared log is that of the committed transactions.
abbrev pub summary_taken : {Shape Op : Type 0} → List Kind → Taken Shape Op → Summary Op
summary_taken ks s =
    record {
      names = s.names;
      ids = s.ids;
      opened = map open_of s.opened;
      shared = shared_done s.done;
      done = s.done;
      kinds = ks;
    }

-- Before the first record: the transaction of the start is committed, if there is one.
abbrev pub first_taken : {Shape Op : Type 0} → Shape → Option (Start Op) → Taken Shape Op
first_taken shape h =
    record {
      shape = shape;
      names = (first h).names;
      ids = (first h).ids;
      opened = [];
      done = (first h).done;
      count = 0;
    }

module _ {Shape State Op Undo : Type 0} (o : Object Shape State Op Undo) (place : Op → ℕ) where
  -- It is the summary of this front and this configuration.
  pub record IsTakenOf (s : Taken Shape Op) (p : Standing Front Op) : Type 0 where
    pub summable : Summable (rules_of o s.shape) place p.front p.config
    pub is : summary_of place p ≡ summary_taken p.front.kinds s

  -- The record is good, by the summary.
  abbrev pub IsGoodTaken : List Kind → Taken Shape Op → RunRecord Op → Type 0
  IsGoodTaken ks s r = SummaryGood Optimistic (rules_of o s.shape) place (summary_taken ks s) r

  -- it has these objects, this summary, and so many records
  pub record Leads (s : Taken Shape Op) (B : List Kind → Summary Op) (n : ℕ) (w : Taken Shape Op) :
      Type 0 where
    pub shape : w.shape ≡ s.shape
    pub summary : (ks : List Kind) → summary_taken ks w ≡ B ks
    pub count : w.count ≡ n

  -- What it is to take a record. True says that it is good, and the summary is then the next one. False
  -- says that it is not, and the summary is as it was.
  abbrev pub Takes : Taken Shape Op → RunRecord Op → Bool → Taken Shape Op → Type 0
  Takes s r true w =
      ((ks : List Kind) → IsGoodTaken ks s r)
      × Leads s (λ ks. next_summary place Optimistic (summary_taken ks s) r) (s.count + 1) w
  Takes s r false w =
      ((ks : List Kind) → IsGoodTaken ks s r → ⊥) × Leads s (λ ks. summary_taken ks s) s.count w

  -- What it is to start. True says that the start meets its criteria, and this is what is before the
  -- first record then. False says that it does not, and nothing has changed.
  abbrev pub Starts : Taken Shape Op → Start Op → Bool → Taken Shape Op → Type 0
  Starts s z true w =
      StartMeets (rules_of o s.shape) (Some z) × (w ≡ first_taken s.shape (Some z))
  Starts s z false w = (StartMeets (rules_of o s.shape) (Some z) → ⊥) × (w ≡ s)

  -- The record has so many steps, from each front and configuration of which this is the summary.
  abbrev pub HasStepCount : Taken Shape Op → RunRecord Op → ℕ → Type 0
  HasStepCount s r n =
      (p : Standing Front Op) → IsTakenOf s p →
      n ≡ length (expand place Optimistic p.front p.config r)
