-- Proof machinery: what the parts of the start of a machine return.
use Rattle.std.specs.Prelude.{◌≡◌, ◌<◌, ℕ, false, List, map, Option, None, Some, Result}
use Rattle.std.specs.Prelude.{Ok, Err}
use Rattle.pp_core.specs.declared.entry.Item.{Item}
use Rattle.pp_core.specs.declared.entry.SharedEntry.{SharedEntry}
use Rattle.pp_model.specs.Config.{Start, as_shared}
use Rattle.pp_model.specs.Names.{Name}
use Rattle.pp_model.specs.Object.{ops}
use Rattle.pp_model.specs.Rules.{StartBreaks, StartMeets}
use Rattle.pp_kind.specs.Object.{Object, IsAllowed, rules_of}
use Rattle.pp_machine.specs.Shown.{TellsFirstOther}
use Rattle.pp_machine.specs.Starts.{start_evidence}
use Rattle.pp_machine.specs.declared.detail.Detail.{Detail}
use Rattle.pp_machine.specs.declared.detail.Detail.TheVariants.{Nothing, Entry}
use Rattle.pp_machine.specs.declared.detail.Refusal.{Refusal}

-- the entry of this id as evidence
abbrev pub entry_told : {Op : Type 0} → Option ℕ → Detail Op
entry_told None = Nothing
entry_told (Some id) = Entry id

-- the items as uncommitted entries of the transaction
abbrev pub posted : {Op : Type 0} → Name → List (Item Op) → List (SharedEntry Op)
posted tx items = map (as_shared tx false) items

module _ {Shape State Op Undo : Type 0} (o : Object Shape State Op Undo) (shape : Shape) where
  -- The items are allowed and make a log, or the first of them that differs is reported.
  abbrev pub Posts : Name → List (Item Op) → Result (Shape × List (SharedEntry Op)) (Refusal Op) →
      Type 0
  Posts tx items (Ok log) = IsAllowed o shape (ops items) × (log ≡ (shape, posted tx items))
  Posts tx items (Err refusal) =
      (refusal.criterion ≡ 2) × TellsFirstOther o (λ p. p) shape items refusal.detail

  -- The start breaks this criterion first, and this is the evidence.
  pub record RefusesStart (z : Start Op) (refusal : Refusal Op) : Type 0 where
    pub breaks : StartBreaks (rules_of o shape) (Some z) refusal.criterion
    pub not_zero : 0 < refusal.criterion
    pub is_evidence : refusal.detail ≡ start_evidence o shape z refusal.criterion

  -- The result of judging a start: the log of its items if each criterion is true, and otherwise
  -- why it is refused.
  abbrev pub JudgesStart : Start Op → Result (Shape × List (SharedEntry Op)) (Refusal Op) → Type 0
  JudgesStart z (Ok log) =
      StartMeets (rules_of o shape) (Some z) × (log ≡ (shape, posted z.tx z.items))
  JudgesStart z (Err refusal) = RefusesStart z refusal
