-- Meaning: what the evidence of a rejection shows, and that it shows a criterion to be false.
use Rattle.std.specs.Prelude.{◌≡◌, ◌≢◌, ℕ, zero, suc, true, false, List, [], ◌∷◌, Option, None}
use Rattle.std.specs.Prelude.{Some}
use Rattle.pp_core.specs.declared.answer.Answer.{Answer}
use Rattle.pp_core.specs.declared.entry.Item.{Item}
use Rattle.pp_log.specs.Logs.{DiffersFirst, answer_behind}
use Rattle.pp_model.specs.Config.{Config, LocalEntry, SharedEntry, Unpushed, Pushed, Pulled, Step}
use Rattle.pp_model.specs.Config.{Begin, App, Unapp, Push, Unpush, Pull, Unpull, Cmt, Quit, Note}
use Rattle.pp_model.specs.Config.{at_mark, is_own, item, local_ops, of_other, shared_item}
use Rattle.pp_model.specs.Config.{shared_ops, tx, without_local, without_shared}
use Rattle.pp_model.specs.Lists.{Before, In}
use Rattle.pp_model.specs.Rules.{Breaks, criteria}
use Rattle.pp_model.specs.Sound.{Sound}
use Rattle.pp_log_shared.specs.Blocking.{GivesWay}
use Rattle.pp_kind.specs.Object.{Object, IsAllowed, Refutes, Swaps, rules_of}
use Rattle.pp_machine.specs.Evidence.{Fits, evidence}
use Rattle.pp_machine.specs.Machines.{Seen}
use Rattle.pp_machine.specs.Standing.{StandsCommitted}
use Rattle.pp_machine.specs.Stepping.{IsAsked}
use Rattle.pp_machine.specs.declared.detail.Detail.{Detail}
use Rattle.pp_machine.specs.declared.detail.Detail.TheVariants.{Nothing, Entry, Gives, Swap}
use Rattle.pp_machine.specs.declared.machine.Outcome.{Outcome}
use Rattle.pp_machine.specs.declared.machine.Outcome.TheVariants.{Done, False}

-- The fact with this number, from 1, is true for the evidence.
abbrev pub FailsAt : List (Type 0) → ℕ → Type 0
FailsAt [] n = ⊥
FailsAt (p ∷ ps) zero = ⊥
FailsAt (p ∷ ps) (suc zero) = p → ⊥
FailsAt (p ∷ ps) (suc (suc n)) = FailsAt ps (suc n)

module _ {Shape State Op Undo : Type 0} (o : Object Shape State Op Undo) where
  -- It reports the entry of this id, and lists which show that b may not move left over a.
  abbrev pub TellsRefuted : ℕ → Op → Op → Detail Op → Type 0
  TellsRefuted id a b detail =
      (before : List Op) × (after : List Op) × Refutes o a b before after
      × (detail ≡ Swap id (record { before = before; after = after }))

  -- These operations are allowed, and after them the object returns another result for the
  -- operation of this id than the recorded one. It reports the id and that result.
  abbrev pub TellsOther : Shape → List Op → ℕ → Op → Detail Op → Type 0
  TellsOther shape ops id op detail =
      IsAllowed o shape ops × (answer_behind o shape ops op ≢ o.recorded op)
      × (detail ≡ Gives id (answer_behind o shape ops op))

  -- It reports the first entry of the log that records another result than the object returns after
  -- those before it, which are allowed, and the result that the object returns.
  abbrev pub TellsFirstOther : {E : Type 0} → (E → Item Op) → Shape → List E → Detail Op → Type 0
  TellsFirstOther item_of shape log detail =
      (id : ℕ) × (answer : Answer) × DiffersFirst o item_of shape log id answer
      × (detail ≡ Gives id answer)

  -- It reports nothing.
  abbrev pub TellsNothing : Detail Op → Type 0
  TellsNothing detail = detail ≡ Nothing

  -- If the entry is there, these are shown about its conditions.
  abbrev pub if_there : {A : Type 0} → Option A → (A → List (Detail Op → Type 0)) →
      List (Detail Op → Type 0)
  if_there None f = TellsNothing ∷ []
  if_there (Some x) f = TellsNothing ∷ f x

  -- The fact that the evidence of each criterion of a step shows, in the order of the criteria. An
  -- entry that it reports is the first one that violates the criterion.
  abbrev pub facts : Shape → Config Op → Step Op → List (Detail Op → Type 0)
  facts shape c (Begin t p b) = TellsNothing ∷ TellsNothing ∷ []
  facts shape c (App t id op) = if_there (tx t c.opened) λ x.
      TellsNothing
      ∷ TellsNothing
      ∷ TellsOther shape (local_ops x.local) id op
      ∷ []
  facts shape c (Unapp t id) = if_there (tx t c.opened) λ x. TellsNothing ∷ []
  facts shape c (Push t id) = if_there (tx t c.opened) λ x.
      if_there (at_mark id Unpushed x.local) λ e.
      (λ d. (a : LocalEntry Op) × Before a e x.local × (a.mark ≡ Unpushed)
      × ((z : _) → Before z a x.local → z.mark ≡ Unpushed → Swaps o e.op z.op)
      × TellsRefuted a.id e.op a.op d)
      ∷ (λ d. (u : SharedEntry Op) × In u c.shared × (u.committed ≡ false) × (u.owner ≢ t)
      × ((z : _) → Before z u c.shared → GivesWay o t e.op z)
      × TellsRefuted u.id u.op e.op d)
      ∷ TellsOther shape (shared_ops c.shared) id e.op
      ∷ []
  facts shape c (Unpush t id) = if_there (tx t c.opened) λ x.
      if_there (at_mark id Pushed x.local) λ e.
      (λ d. (b : LocalEntry Op) × Before e b x.local × (b.mark ≡ Pushed)
      × ((z : _) → Before e z x.local → Before z b x.local → z.mark ≡ Pushed →
      Swaps o z.op e.op)
      × TellsRefuted b.id b.op e.op d)
      ∷ TellsFirstOther shared_item shape (without_shared id c.shared)
      ∷ []
  facts shape c (Pull t id) = if_there (tx t c.opened) λ x.
      if_there (of_other t id c.shared) λ g.
      TellsNothing
      ∷ TellsOther shape (local_ops x.local) id g.op
      ∷ (λ d. (a : LocalEntry Op) × In a x.local × (is_own a.mark ≡ true)
      × ((z : _) → Before z a x.local → is_own z.mark ≡ true → Swaps o z.op g.op)
      × TellsRefuted a.id a.op g.op d)
      ∷ []
  facts shape c (Unpull t id) = if_there (tx t c.opened) λ x.
      if_there (at_mark id Pulled x.local) λ e.
      TellsFirstOther item shape (without_local id x.local)
      ∷ []
  facts shape c (Cmt t) = if_there (tx t c.opened) λ x.
      TellsNothing
      ∷ (λ d. (e : LocalEntry Op) × In e x.local × (e.mark ≡ Unpushed)
      × ((z : _) → Before z e x.local → z.mark ≢ Unpushed)
      × (d ≡ Entry e.id))
      ∷ (λ d. (e : LocalEntry Op) × In e x.local × (e.mark ≡ Pulled)
      × (StandsCommitted e.id c.shared → ⊥)
      × ((z : _) → Before z e x.local → z.mark ≡ Pulled → StandsCommitted z.id c.shared)
      × (d ≡ Entry e.id))
      ∷ []
  facts shape c (Quit t) = if_there (tx t c.opened) λ x.
      (λ d. (e : LocalEntry Op) × (rest : List (LocalEntry Op)) × (x.local ≡ e ∷ rest)
      × (d ≡ Entry e.id))
      ∷ []
  facts shape c (Note t) = if_there (tx t c.opened) λ x. []

  -- The fact with this number, from 1, is true for the evidence.
  abbrev pub HoldsAtNumber : List (Detail Op → Type 0) → ℕ → Detail Op → Type 0
  HoldsAtNumber [] n detail = ⊥
  HoldsAtNumber (P ∷ Ps) zero detail = ⊥
  HoldsAtNumber (P ∷ Ps) (suc zero) detail = P detail
  HoldsAtNumber (P ∷ Ps) (suc (suc n)) detail = HoldsAtNumber Ps (suc n) detail

  -- The evidence of the first false criterion shows that it is false, and reports operations of the
  -- objects alone.
  pub record EvidenceLaw (shape : Shape) : Type 0 where
    -- the fact of the first false criterion is true for its evidence
    pub shows : (c : Config Op) (step : Step Op) (n : ℕ) → Sound (rules_of o shape) c
        → IsAsked o shape step → Breaks (rules_of o shape) c step (suc n)
        → HoldsAtNumber (facts shape c step) (suc n) (evidence o shape c step (suc n))
    -- if the fact of a criterion is true for a detail that reports something, the criterion is
    -- false
    pub refutes : (c : Config Op) (step : Step Op) (n : ℕ) (detail : Detail Op)
        → Sound (rules_of o shape) c
        → HoldsAtNumber (facts shape c step) (suc n) detail → detail ≢ Nothing
        → FailsAt (criteria (rules_of o shape) c step) (suc n)
    -- the operations that it reports are of the objects
    pub fits : (c : Config Op) (step : Step Op) (n : ℕ) → Sound (rules_of o shape) c
        → Fits o shape (evidence o shape c step n)

  -- The fact that the evidence of a refused step shows, and that it reports operations of the
  -- objects.
  abbrev pub IsShown : Seen Shape Op → Step Op → Outcome Op → Type 0
  IsShown old step Done = Unit {0}
  IsShown old step (False n detail) =
      HoldsAtNumber (facts old.shape old.config step) n detail × Fits o old.shape detail
