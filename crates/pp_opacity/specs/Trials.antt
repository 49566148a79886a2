-- Proof machinery: operations that are tried after others, and the serial run as it is kept.
use Rattle.std.specs.Prelude.{◌≡◌, ◌⊎◌, ◌↔◌, ◌≤◌, ◌<◌, ℕ, Bool, true, false, IsTrue, List, [], ◌++◌}
use Rattle.std.specs.Prelude.{cond, length, take, Option, None, Some}
use Rattle.pp_model.specs.Config.{CommittedTx}
use Rattle.pp_model.specs.Object as model
use Rattle.pp_model.specs.Object.{Item, ops}
use Rattle.pp_model.specs.Sound.{serial_ops}
use Rattle.pp_kind.specs.Object.{Object, AllowedFrom, AllRanged, IsAllowed, rules_of}
use Rattle.pp_attempts.specs.Trying.{IsTrail}
use Rattle.pp_attempts.specs.Views.{Explains, MayBeTried}
use Rattle.pp_opacity.specs.declared.attempts.Excluded.{Excluded}
pub use Rattle.pp_opacity.specs.declared.serial.Serial.{Serial}

-- None of these numbers of committed transactions explains the items.
abbrev pub AreExcluded : {Op State : Type 0} → model.Object Op State → List (CommittedTx Op)
    → List (Item Op) → Excluded → Type 0
AreExcluded O committed items excluded =
    (n : ℕ) → excluded.after < n → n ≤ excluded.up_to → Explains O committed items n → ⊥

module _ {Shape State Op Undo : Type 0} (o : Object Shape State Op Undo) where
  -- After the operations x from the state s, as many of the list l were applied as are allowed, and
  -- `all` says whether all were.
  pub record IsTried (s : State) (x l : List Op) (all : Bool) (undos : List Undo) (t : State)
      : Type 0 where
    pub count : ℕ
    pub within : count ≤ length l
    pub trail : IsTrail o s (x ++ take count l) undos t
    pub whole : ((all ≡ true) × (count ≡ length l))
        ⊎ ((all ≡ false) × (AllowedFrom o s (x ++ l) → ⊥))

  -- If the list l is allowed after the operations x, `all` is true and it was applied. Otherwise it
  -- is the same as before.
  pub record IsAppliedIf (s : State) (x l : List Op) (all : Bool) (undos : List Undo)
      (t : State) : Type 0 where
    pub trail : IsTrail o s (x ++ cond all l []) undos t
    pub decides : IsTrue all ↔ AllowedFrom o s (x ++ l)

  -- It is the same as before, and `all` says whether the list l is allowed after the operations x.
  pub record IsDecidedNext (s : State) (x l : List Op) (all : Bool) (undos : List Undo)
      (t : State) : Type 0 where
    pub trail : IsTrail o s x undos t
    pub decides : IsTrue all ↔ AllowedFrom o s (x ++ l)

  -- The committed transactions may be run one after another.
  pub record IsSerial (shape : Shape) (committed : List (CommittedTx Op)) : Type 0 where
    pub allowed : IsAllowed o shape (serial_ops committed)
    pub ranged : AllRanged o (serial_ops committed)
    pub few : length (serial_ops committed) < 1_000_000

  -- The serial run is after so many of these transactions as it says.
  pub record IsAt (shape : Shape) (committed : List (CommittedTx Op)) (serial : Serial State Undo)
      : Type 0 where
    pub within : serial.count ≤ length committed
    pub trail : IsTrail o (o.start shape) (serial_ops (take serial.count committed))
        serial.undos.items serial.state

  -- The items were applied after this serial run of these transactions.
  pub record IsWith (shape : Shape) (committed : List (CommittedTx Op)) (items : List (Item Op))
      (serial : Serial State Undo) : Type 0 where
    pub within : serial.count ≤ length committed
    pub trail : IsTrail o (o.start shape)
        (serial_ops (take serial.count committed) ++ ops items) serial.undos.items serial.state

  -- The items were applied after this serial run, and may be taken back.
  pub record MayTakeBack (shape : Shape) (committed : List (CommittedTx Op))
      (items : List (Item Op)) (serial : Serial State Undo) : Type 0 where
    pub run : IsSerial shape committed
    pub applied : IsWith shape committed items serial
    pub may : MayBeTried o shape (length (serial_ops committed)) items

  -- The first so many of the items were applied after this serial run, and all may be asked about.
  -- The excluded numbers do not explain them.
  pub record MayExtend (shape : Shape) (committed : List (CommittedTx Op)) (items : List (Item Op))
      (first : ℕ) (excluded : Excluded) (serial : Serial State Undo) : Type 0 where
    pub run : IsSerial shape committed
    pub applied : IsWith shape committed (take first items) serial
    pub may : MayBeTried o shape (length (serial_ops committed)) items
    pub none : AreExcluded (rules_of o shape) committed items excluded

  -- The items may be asked about at this serial run of these transactions, and the excluded numbers
  -- do not explain them.
  pub record MayAsk (shape : Shape) (committed : List (CommittedTx Op)) (items : List (Item Op))
      (excluded : Excluded) (serial : Serial State Undo) : Type 0 where
    pub run : IsSerial shape committed
    pub at : IsAt shape committed serial
    pub may : MayBeTried o shape (length (serial_ops committed)) items
    pub none : AreExcluded (rules_of o shape) committed items excluded

-- Some number of committed transactions explains the items: at least the one, and at most the other.
abbrev pub IsExplained : {Op State : Type 0} → model.Object Op State → List (CommittedTx Op)
    → List (Item Op) → ℕ → ℕ → Type 0
IsExplained O committed items low high =
    (n : ℕ) × (low ≤ n) × (n ≤ high) × Explains O committed items n

-- It is the greatest number of committed transactions, at least `low` and at most `high`, that
-- explains the items. It is None if there is no such number.
abbrev pub IsGreatest : {Op State : Type 0} → model.Object Op State → List (CommittedTx Op)
    → List (Item Op) → ℕ → ℕ → Option ℕ → Type 0
IsGreatest O committed items low high None = IsExplained O committed items low high → ⊥
IsGreatest O committed items low high (Some n) =
    (low ≤ n) × (n ≤ high) × Explains O committed items n
    × AreExcluded O committed items (record { after = n; up_to = high })
