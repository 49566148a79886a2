-- Meaning: what contracts see of a machine, and what each machine keeps.
use Rattle.std.specs.Prelude.{◌≡◌, ◌+◌, ◌≤◌, ℕ, List, length, map, reverse}
use Rattle.pp_core.specs.declared.entry.CommittedTx.{CommittedTx}
use Rattle.pp_core.specs.declared.entry.SharedEntry.{SharedEntry}
use Rattle.pp_model.specs.Config.{Config, Step, Tx, local_ops, shared_ops, then}
use Rattle.pp_model.specs.Lists.{In}
use Rattle.pp_model.specs.Sound.{Sound, serial_ops}
use Rattle.pp_kind.specs.Object.{Object, AllRanged, rules_of}
use Rattle.pp_machine.specs.Transactions.{Open, Txs}

-- The objects, the configuration, and how many steps were done.
pub record Seen (Shape Op : Type 0) : Type 0 where
  pub shape : Shape
  pub config : Config Op
  pub count : ℕ

-- The effect of a step, and one step more.
abbrev pub stepped : {Shape Op : Type 0} → Seen Shape Op → Step Op → Seen Shape Op
stepped v step = record { shape = v.shape; config = then v.config step; count = v.count + 1 }

-- the open transaction as it is in a configuration
abbrev pub tx_of : {Shape Op : Type 0} → Open Shape Op → Tx Op
tx_of x = record { name = x.name; thread = x.thread; body = x.body; local = x.local.1 }

-- the configuration of these transactions, ids, shared entries and committed transactions
abbrev pub config_of : {Shape Op : Type 0} → Txs Shape Op → List ℕ → List (SharedEntry Op) →
    List (CommittedTx Op) → Config Op
config_of v ids shared done =
    record {
      names = reverse v.names;
      ids = reverse ids;
      opened = map tx_of v.opened;
      shared = shared;
      done = done;
    }

-- An open transaction, whose log is of the shape, no longer than the count, and ranged.
pub record IsFine {Shape State Op Undo : Type 0} (o : Object Shape State Op Undo) (shape : Shape)
    (count : ℕ) (x : Open Shape Op) : Type 0 where
  pub same_shape : x.local.0 ≡ shape
  pub short : length x.local.1 ≤ count
  pub ranged : AllRanged o (local_ops x.local.1)

-- The invariant of a machine: a sound configuration, and logs of its shape that are ranged and not
-- long. A run may begin with up to 256 operations in the shared log.
pub record Holds {Shape State Op Undo : Type 0} (o : Object Shape State Op Undo) (shape : Shape)
    (v : Txs Shape Op) (ids : List ℕ) (shared : Shape × List (SharedEntry Op))
    (done : List (CommittedTx Op)) (count : ℕ) : Type 0 where
  pub sound : Sound (rules_of o shape) (config_of v ids shared.1 done)
  pub fine : (x : Open Shape Op) → In x v.opened → IsFine o shape count x
  pub shared_shape : shared.0 ≡ shape
  pub shared_short : length shared.1 ≤ count + 256
  pub shared_ranged : AllRanged o (shared_ops shared.1)
  pub serial_ranged : AllRanged o (serial_ops done)
