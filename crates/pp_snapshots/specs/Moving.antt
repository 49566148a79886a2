-- Proof machinery: what taking a record makes of what is kept.
use Rattle.std.specs.Prelude.{◌≡◌, ◌+◌, ℕ, Bool, true, false, List, None, reverse}
use Rattle.std.specs.Map.{keys_of}
use Rattle.pp_core.specs.declared.call.Kind.{Kind}
use Rattle.pp_core.specs.declared.call.Style.TheVariants.{Optimistic}
use Rattle.pp_core.specs.declared.entry.Item.{Item}
use Rattle.pp_kind.specs.Object.{Object, rules_of}
use Rattle.pp_model.specs.Config.{first}
use Rattle.pp_model.specs.Names.{Name}
use Rattle.pp_laws_summary.specs.Summary.{SummaryGood, next_summary, summary_of}
use Rattle.pp_records.specs.Fronts.{new_front}
use Rattle.pp_records.specs.Records.{RunRecord}
use Rattle.pp_summary.specs.Shown.{filled}
use Rattle.pp_summary.specs.declared.parts.OpenTx.{OpenTx}
use Rattle.pp_snapshots.specs.Held.{OpenTaken, Taken}
use Rattle.pp_snapshots.specs.Shown.{Keeps, Kept, shown}

module _ {Shape State Op Undo : Type 0} (o : Object Shape State Op Undo) (place : Op → ℕ) where
  -- the record is good
  abbrev pub IsGood : List Kind → Kept Shape State Op Undo → RunRecord Op → Type 0
  IsGood ks v r = SummaryGood Optimistic (rules_of o v.shape) place (shown ks v) r

  -- what a good record makes of it
  pub record Moves (v : Kept Shape State Op Undo) (r : RunRecord Op)
      (w : Kept Shape State Op Undo) : Type 0 where
    pub shape : w.shape ≡ v.shape
    pub count : w.count ≡ v.count + 1
    pub shown : (ks : List Kind) → shown ks w ≡ next_summary place Optimistic (shown ks v) r
    pub keeps : Keeps o place w

  -- it shows the same
  pub record Stays (v w : Kept Shape State Op Undo) : Type 0 where
    pub shape : w.shape ≡ v.shape
    pub count : w.count ≡ v.count
    pub shown : (ks : List Kind) → shown ks w ≡ shown ks v
    pub keeps : Keeps o place w

  -- What taking it returns, and what is kept then.
  abbrev pub Answers : Kept Shape State Op Undo → RunRecord Op → Bool → Kept Shape State Op Undo →
      Type 0
  Answers v r true w = ((ks : List Kind) → IsGood ks v r) × Moves v r w
  Answers v r false w = ((ks : List Kind) → IsGood ks v r → ⊥) × Stays v w

-- It shows a run before its first record, and without a start.
pub record IsNew {Shape State Op Undo : Type 0} (place : Op → ℕ) (v : Kept Shape State Op Undo) :
    Type 0 where
  pub shown : (ks : List Kind) →
      shown ks v ≡ summary_of place (record { front = new_front ks; config = first None })
  pub count : v.count ≡ 0

-- what contracts see of an open transaction, and of what is kept
abbrev pub tx_taken : {Op : Type 0} → Name → OpenTx (List (Item Op)) → OpenTaken Op
tx_taken n x =
    record {
      name = n;
      thread = x.thread;
      body = x.walk.body;
      own = x.own;
      seen = x.seen.entries;
    }

abbrev pub as_taken : {Shape State Op Undo : Type 0} → Kept Shape State Op Undo → Taken Shape Op
as_taken v =
    record {
      shape = v.shape;
      names = reverse (keys_of v.slots.entries);
      ids = reverse v.ids;
      opened = filled tx_taken v.slots.entries;
      done = v.committed;
      count = v.count;
    }
