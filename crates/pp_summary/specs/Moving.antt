-- Proof machinery: how taking a record changes what a Quick keeps.
use Rattle.std.specs.Prelude.{◌≡◌, ◌+◌, ℕ, Bool, true, false}
use Rattle.pp_kind.specs.Object.{Object, rules_of}
use Rattle.pp_records.specs.Records.{RunRecord}
use Rattle.pp_summary.specs.Brief.{BriefGood, brief_then}
use Rattle.pp_summary.specs.Shown.{KeepsQuick, Kept, shown}

module _ {Shape State Op Undo : Type 0} (o : Object Shape State Op Undo) (place : Op → ℕ) where
  -- The record is good.
  abbrev pub IsGood : Kept Shape Op → RunRecord Op → Type 0
  IsGood v r = BriefGood (rules_of o v.shape) place (shown place v) r

  -- What the Quick keeps after a good record.
  pub record Moves (v : Kept Shape Op) (r : RunRecord Op) (w : Kept Shape Op) : Type 0 where
    pub shape : w.shape ≡ v.shape
    pub count : w.count ≡ v.count + 1
    pub shown : shown place w ≡ brief_then place (shown place v) r
    pub keeps : KeepsQuick o place w

  -- What taking a record returns, and what the Quick keeps then.
  abbrev pub Answers : Kept Shape Op → RunRecord Op → Bool → Kept Shape Op → Type 0
  Answers v r true w = IsGood v r × Moves v r w
  Answers v r false w = (IsGood v r → ⊥) × (w ≡ v)
