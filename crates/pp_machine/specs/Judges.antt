-- Proof machinery: what judging a step returns, and what it hands on to the effect.
use Rattle.std.specs.Prelude.{◌≡◌, ◌==◌, ◌+◌, ◌<◌, length, position, ℕ, Option, Some, Result}
use Rattle.std.specs.Prelude.{Ok, Err, option_map, slice_get}
use Rattle.pp_core.specs.Trees.{Tree, tree}
use Rattle.pp_core.specs.declared.body.Body.{Body}
use Rattle.pp_core.specs.declared.entry.LocalEntry.{LocalEntry}
use Rattle.pp_core.specs.declared.entry.Mark.{Mark}
use Rattle.pp_core.specs.declared.entry.SharedEntry.{SharedEntry}
use Rattle.pp_core.specs.Steps.{Step, Begin, Unapp, Push, Unpush, Pull, Unpull}
use Rattle.pp_model.specs.Config.{Config, Tx, Unpushed, Pushed, Pulled, at_mark, of_other, tx}
use Rattle.pp_model.specs.Lists.{Before}
use Rattle.pp_model.specs.Names.{Name}
use Rattle.pp_model.specs.Rules.{Breaks, Meets}
use Rattle.pp_kind.specs.Object.{Object, SwapsIn, rules_of}
use Rattle.pp_machine.specs.Evidence.{evidence}
use Rattle.pp_machine.specs.declared.detail.Refusal.{Refusal}
use Rattle.pp_machine.specs.Machines.{Seen}

-- The step breaks this criterion first, and this is the evidence.
pub record Refuses {Shape State Op Undo : Type 0} (o : Object Shape State Op Undo)
    (v : Seen Shape Op) (step : Step Op) (refusal : Refusal Op) : Type 0 where
  pub breaks : Breaks (rules_of o v.shape) v.config step refusal.criterion
  pub not_zero : 0 < refusal.criterion
  pub is_evidence : refusal.detail ≡ evidence o v.shape v.config step refusal.criterion

-- The result of judging a step: what its effect needs if each criterion is true, and otherwise why
-- the step is refused.
abbrev pub Judges : {Shape State Op Undo A : Type 0} → Object Shape State Op Undo → Seen Shape Op →
    Step Op → (A → Type 0) → Result A (Refusal Op) → Type 0
Judges o v step Needed (Ok found) = Meets (rules_of o v.shape) v.config step × Needed found
Judges o v step Needed (Err refusal) = Refuses o v step refusal

-- A BEGIN is judged without its body, and needs nothing more.
abbrev pub JudgesBegin : {Shape State Op Undo A : Type 0} → Object Shape State Op Undo →
    Seen Shape Op → Name → Name →
    Result A (Refusal Op) → Type 0
JudgesBegin o v t p result =
    (body : Option Tree) → Judges o v (Begin t p body) (λ _. Unit {0}) result

-- the BEGIN of t with this body
abbrev pub begin_of : {Op : Type 0} → Name → Name → Option Body → Step Op
begin_of t p body = Begin t p (option_map tree body)

-- In the local log of the open transaction t, the entry of this id and mark is at this position.
pub record IsAt {Op : Type 0} (c : Config Op) (t : Name) (id : ℕ) (m : Mark) (i : ℕ)
    (e : LocalEntry Op) : Type 0 where
  pub holder : Tx Op
  pub is_open : tx t c.opened ≡ Some holder
  pub found : at_mark id m holder.local ≡ Some e
  pub here : slice_get holder.local i ≡ Some e

-- an entry of t's local log, with its position, has this id and mark
abbrev pub StandsAt : {Op : Type 0} → Config Op → Name → ℕ → Mark → ℕ × LocalEntry Op → Type 0
StandsAt c t id m found = IsAt c t id m found.0 found.1

-- The entry of this id in the shared log is this one, of another than t.
abbrev pub IsOfOther : {Op : Type 0} → Config Op → Name → ℕ → SharedEntry Op → Type 0
IsOfOther c t id post = of_other t id c.shared ≡ Some post

-- The last entry of the open transaction t's local log, at this position, is its own.
pub record IsLastAt {Op : Type 0} (c : Config Op) (t : Name) (i : ℕ) : Type 0 where
  pub holder : Tx Op
  pub is_open : tx t c.opened ≡ Some holder
  pub entry : LocalEntry Op
  pub here : slice_get holder.local i ≡ Some entry
  pub end : i + 1 ≡ length holder.local
  pub own : entry.mark ≡ Unpushed

-- UNPUSH finds its entry in the shared log, and in the local log, where each pushed entry after it
-- may come before it.
pub record FindsPushed {Shape State Op Undo : Type 0} (o : Object Shape State Op Undo)
    (v : Seen Shape Op) (t : Name) (id : ℕ)
    (i j : ℕ) : Type 0 where
  pub entry : LocalEntry Op
  pub at : IsAt v.config t id Pushed i entry
  pub swap : (b : LocalEntry Op) → Before entry b at.holder.local → b.mark ≡ Pushed →
      SwapsIn o v.shape b.op entry.op
  pub posted : position (λ g. g.id == id) v.config.shared ≡ Some j

-- UNPUSH is judged up to its last criterion, which its effect decides.
abbrev pub JudgesUnpush : {Shape State Op Undo : Type 0} → Object Shape State Op Undo →
    Seen Shape Op → Name → ℕ →
    Result (ℕ × ℕ) (Refusal Op) → Type 0
JudgesUnpush o v t id (Ok found) = FindsPushed o v t id found.0 found.1
JudgesUnpush o v t id (Err refusal) = Refuses o v (Unpush t id) refusal

-- So is UNPULL.
abbrev pub JudgesUnpull : {Shape State Op Undo : Type 0} → Object Shape State Op Undo →
    Seen Shape Op → Name → ℕ →
    Result ℕ (Refusal Op) → Type 0
JudgesUnpull {Shape} {State} {Op} o v t id (Ok i) =
    (e : LocalEntry Op) × IsAt v.config t id Pulled i e
JudgesUnpull o v t id (Err refusal) = Refuses o v (Unpull t id) refusal

-- What judging a PUSH passes on to the effect: the position of the entry, and the entry.
abbrev pub JudgesPush : {Shape State Op Undo : Type 0} → Object Shape State Op Undo →
    Seen Shape Op → Name → ℕ →
    Result (ℕ × LocalEntry Op) (Refusal Op) → Type 0
JudgesPush o v t id result = Judges o v (Push t id) (StandsAt v.config t id Unpushed) result

-- What judging an UNAPP passes on to the effect: the position of the entry.
abbrev pub JudgesUnapp : {Shape State Op Undo : Type 0} → Object Shape State Op Undo →
    Seen Shape Op → Name → ℕ →
    Result ℕ (Refusal Op) → Type 0
JudgesUnapp o v t id result = Judges o v (Unapp t id) (IsLastAt v.config t) result

-- What judging a PULL passes on to the effect: the entry of the shared log.
abbrev pub JudgesPull : {Shape State Op Undo : Type 0} → Object Shape State Op Undo →
    Seen Shape Op → Name → ℕ →
    Result (SharedEntry Op) (Refusal Op) → Type 0
JudgesPull o v t id result = Judges o v (Pull t id) (IsOfOther v.config t id) result
