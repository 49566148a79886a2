-- Proof machinery: what is kept of an optimistic run, and the summary that it shows.
use Rattle.std.specs.Prelude.{◌≡◌, ◌≢◌, ◌+◌, ◌≤◌, ℕ, zero, nat_eq, IsTrue, List, [], ◌∷◌, ◌++◌}
use Rattle.std.specs.Prelude.{true, length, map, reverse, Option, None, Some}
use Rattle.std.specs.Map.{keys_of, lookup}
use Rattle.pp_body.specs.Walks.{HasTaken}
use Rattle.pp_core.specs.declared.call.Kind.{Kind}
use Rattle.pp_core.specs.declared.entry.CommittedTx.{CommittedTx}
use Rattle.pp_core.specs.declared.entry.Item.{Item}
use Rattle.pp_model.specs.Config.{LocalEntry, SharedEntry, Unpushed, as_shared}
use Rattle.pp_model.specs.Lists.{Before, In}
use Rattle.pp_model.specs.Names.{Name}
use Rattle.pp_model.specs.Object.{ops}
use Rattle.pp_kind.specs.Object.{Object, rules_of}
use Rattle.pp_laws_summary.specs.LocalLogs.{Summable, serial_at}
use Rattle.pp_laws_summary.specs.Summary.{OpenSummary, Summary, summary_of}
use Rattle.pp_records.specs.Fronts.{Front}
use Rattle.pp_records.specs.Runs.{Standing}
use Rattle.pp_summary.specs.Shown.{AreThreads, calls_of, filled}
use Rattle.pp_summary.specs.declared.parts.OpenTx.{OpenTx}
use Rattle.pp_snapshots.specs.declared.parts.Parts.{Parts}
use Rattle.pp_snapshots.specs.Past.{IsPast}

-- What is kept of an optimistic run.
abbrev pub Kept : Type 0 → Type 0 → Type 0 → Type 0 → Type 0
Kept Shape State Op Undo = Parts Shape State Op Undo

-- The transactions that have begun, each with what is kept of it while it is open.
abbrev pub SlotList : Type 0 → Type 0
SlotList Op = List (Name × Option (OpenTx (List (Item Op))))

-- the own operation of n, which is not pushed
abbrev pub as_local : {Op : Type 0} → Name → Item Op → LocalEntry Op
as_local n p = record { id = p.id; owner = n; mark = Unpushed; op = p.op }

abbrev pub count_or_none : Option ℕ → ℕ
count_or_none None = zero
count_or_none (Some n) = n

-- how many of the commits at a place were seen
abbrev pub seen_in : List (ℕ × ℕ) → ℕ → ℕ
seen_in seen q = count_or_none (lookup (nat_eq q) seen)

-- the summary of an open transaction
abbrev pub shown_tx : {Op : Type 0} → Name → OpenTx (List (Item Op)) → OpenSummary Op
shown_tx n x =
    record {
      name = n;
      thread = x.thread;
      body = x.walk.body;
      own = map (as_local n) x.own;
      seen = seen_in x.seen.entries;
      held = None;
    }

-- the committed transactions, as they are in the shared log
abbrev pub shared_done : {Op : Type 0} → List (CommittedTx Op) → List (SharedEntry Op)
shared_done [] = []
shared_done (d ∷ D) = map (as_shared d.name true) d.entries ++ shared_done D

-- the summary that it shows
abbrev pub shown : {Shape State Op Undo : Type 0} → List Kind → Kept Shape State Op Undo →
    Summary Op
shown ks v =
    record {
      names = reverse (keys_of v.slots.entries);
      ids = reverse v.ids;
      opened = filled shown_tx v.slots.entries;
      shared = shared_done v.committed;
      done = v.committed;
      kinds = ks;
    }

-- how many own operations the open transactions have
abbrev pub own_total : {Op : Type 0} → SlotList Op → ℕ
own_total [] = zero
own_total ((n, None) ∷ slots) = own_total slots
own_total ((n, Some x) ∷ slots) = length x.own + own_total slots

abbrev pub threads_of : {Op : Type 0} → List (OpenSummary Op) → List Name
threads_of opened = map (λ x. x.thread) opened

module _ {Shape State Op Undo : Type 0} (o : Object Shape State Op Undo) (place : Op → ℕ) where
  -- What is kept of an open transaction: its walk has taken its own calls, and its operations are of
  -- the objects, and in the range of records.
  pub record IsFine (shape : Shape) (x : OpenTx (List (Item Op))) : Type 0 where
    pub taken : HasTaken x.walk (calls_of o x.own)
    pub asked : (p : Item Op) → In p x.own → IsTrue (o.fits shape p.op) × IsTrue (o.ranged p.op)

  -- It is the summary of this front and this configuration.
  pub record IsShownOf (v : Kept Shape State Op Undo) (p : Standing Front Op) : Type 0 where
    pub summable : Summable (rules_of o v.shape) place p.front p.config
    pub is : summary_of place p ≡ shown p.front.kinds v

  -- the committed operations at each place
  abbrev pub done_ops : List (CommittedTx Op) → ℕ → List Op
  done_ops D q = ops (serial_at place q D)

  -- What is kept of an optimistic run.
  pub record Keeps (v : Kept Shape State Op Undo) : Type 0 where
    pub names : (s t : Name) → Before s t (keys_of v.slots.entries) → s ≢ t
    pub threads : AreThreads v.threads.keys (threads_of (filled shown_tx v.slots.entries))
    pub fine : (n : Name) (x : OpenTx (List (Item Op))) → In (n, Some x) v.slots.entries →
        IsFine v.shape x
    pub past : IsPast o place v.shape v.past (done_ops v.committed)
    pub is_held : (p : Standing Front Op) × IsShownOf v p
    pub few : v.past.size + own_total v.slots.entries ≤ v.count + 256
