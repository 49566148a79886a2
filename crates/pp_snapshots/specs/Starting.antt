-- Proof machinery: what the parts of a start return.
use Rattle.std.specs.Prelude.{◌≡◌, ℕ, Bool, true, false, [], ◌∷◌, ◌++◌, map, reverse, None, Some}
use Rattle.pp_kind.specs.Object.{Object, rules_of}
use Rattle.pp_model.specs.Config.{Start}
use Rattle.pp_model.specs.Rules.{StartMeets}
use Rattle.pp_snapshots.specs.Held.{first_taken}
use Rattle.pp_snapshots.specs.Moving.{as_taken}
use Rattle.pp_snapshots.specs.Shown.{Keeps, Kept}

module _ {Shape State Op Undo : Type 0} where
  -- The start is put in: its transaction has begun and ended, with these operations.
  pub record PutsIn (v : Kept Shape State Op Undo) (z : Start Op)
      (w : Kept Shape State Op Undo) : Type 0 where
    pub slots : w.slots.entries ≡ v.slots.entries ++ (z.tx, None) ∷ []
    pub threads : w.threads.keys ≡ v.threads.keys
    pub ids : reverse w.ids ≡ map (λ p. p.id) z.items
    pub committed : w.committed ≡ v.committed ++ record { name = z.tx; entries = z.items } ∷ []
    pub shape : w.shape ≡ v.shape
    pub past : w.past ≡ v.past
    pub by_part : w.by_part ≡ v.by_part
    pub count : w.count ≡ v.count

module _ {Shape State Op Undo : Type 0} (o : Object Shape State Op Undo) (place : Op → ℕ) where
  -- what a start that meets its criteria makes of what is kept
  pub record PutsStart (v : Kept Shape State Op Undo) (z : Start Op)
      (w : Kept Shape State Op Undo) : Type 0 where
    pub taken : as_taken w ≡ first_taken v.shape (Some z)
    pub keeps : Keeps o place w

  -- it is seen as it was
  pub record IsAsBefore (v w : Kept Shape State Op Undo) : Type 0 where
    pub taken : as_taken w ≡ as_taken v
    pub keeps : Keeps o place w

  -- What starting returns, and what is kept then.
  abbrev pub StartAnswers : Kept Shape State Op Undo → Start Op → Bool →
      Kept Shape State Op Undo → Type 0
  StartAnswers v z true w = StartMeets (rules_of o v.shape) (Some z) × PutsStart v z w
  StartAnswers v z false w = (StartMeets (rules_of o v.shape) (Some z) → ⊥) × IsAsBefore v w
