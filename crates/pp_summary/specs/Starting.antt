-- Proof machinery: what the parts of a start return, and how a start changes what a Quick keeps.
use Rattle.std.specs.Prelude.{◌≡◌, ℕ, Bool, true, false, List, map, Option, None, Some}
use Rattle.pp_core.specs.declared.entry.Item.{Item}
use Rattle.pp_core.specs.declared.entry.SharedEntry.{SharedEntry}
use Rattle.pp_model.specs.Config.{Start, as_shared, first}
use Rattle.pp_model.specs.Names.{Name}
use Rattle.pp_model.specs.Object.{ops}
use Rattle.pp_model.specs.Rules.{StartMeets}
use Rattle.pp_kind.specs.Object.{Object, IsAllowed, rules_of}
use Rattle.pp_summary.specs.Brief.{brief}
use Rattle.pp_summary.specs.Shown.{KeepsQuick, Kept, shown}

-- The items as uncommitted entries of the transaction.
abbrev pub start_entries : {Op : Type 0} → Name → List (Item Op) → List (SharedEntry Op)
start_entries tx items = map (as_shared tx false) items

module _ {Shape State Op Undo : Type 0} (o : Object Shape State Op Undo) where
  -- The items are allowed and make this log, or they are not allowed.
  abbrev pub MakesLog : Shape → Name → List (Item Op) → Option (Shape × List (SharedEntry Op)) →
      Type 0
  MakesLog shape tx items (Some log) =
      IsAllowed o shape (ops items) × (log ≡ (shape, start_entries tx items))
  MakesLog shape tx items None = IsAllowed o shape (ops items) → ⊥

module _ {Shape State Op Undo : Type 0} (o : Object Shape State Op Undo) (place : Op → ℕ) where
  -- No record was taken so far, and there was no start.
  pub record IsNew (v : Kept Shape Op) : Type 0 where
    pub shown : shown place v ≡ brief place (first None)
    pub count : v.count ≡ 0

  -- What the Quick keeps after a start that meets its criteria.
  pub record PutsStart (v : Kept Shape Op) (z : Start Op) (w : Kept Shape Op) : Type 0 where
    pub shape : w.shape ≡ v.shape
    pub count : w.count ≡ v.count
    pub shown : shown place w ≡ brief place (first (Some z))
    pub keeps : KeepsQuick o place w

  -- What starting returns, and what the Quick keeps then.
  abbrev pub StartAnswers : Kept Shape Op → Start Op → Bool → Kept Shape Op → Type 0
  StartAnswers v z true w = StartMeets (rules_of o v.shape) (Some z) × PutsStart v z w
  StartAnswers v z false w = (StartMeets (rules_of o v.shape) (Some z) → ⊥) × (w ≡ v)
