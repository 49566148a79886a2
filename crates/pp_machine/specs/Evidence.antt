-- Meaning: the evidence of a rejection: what shows that a criterion of a step is false.
use Rattle.std.specs.Prelude.{◌==◌, ◌&&◌, ◌+◌, ℕ, zero, suc, Bool, false, true, cond, not, List, []}
use Rattle.std.specs.Prelude.{◌∷◌, IsTrue, Option, None, Some, take, drop, filter}
use Rattle.std.specs.List.{position_or_len}
use Rattle.std.specs.Ordering.{int_eq}
use Rattle.pp_core.specs.declared.answer.Answer.{Answer}
use Rattle.pp_core.specs.declared.answer.Answer.TheVariants as answers
use Rattle.pp_core.specs.declared.entry.Item.{Item}
use Rattle.pp_model.specs.Config.{Config, LocalEntry, Unpushed, Pushed, Pulled, Step, Begin, App}
use Rattle.pp_model.specs.Config.{Unapp, Push, Unpush, Pull, Unpull, Cmt, Quit, Note, at_mark}
use Rattle.pp_model.specs.Config.{is_mark, item, local_ops, of_other, own, shared_item, shared_ops}
use Rattle.pp_model.specs.Config.{tx, without_local, without_shared}
use Rattle.pp_model.specs.Lists.{Each}
use Rattle.pp_model.specs.Names.{◌=ⁿ◌}
use Rattle.pp_kind.specs.Object.{Object, state_after}
use Rattle.pp_machine.specs.declared.detail.Detail.{Detail}
use Rattle.pp_machine.specs.declared.detail.Detail.TheVariants.{Nothing, Entry, Gives, Swap}
use Rattle.pp_machine.specs.Standing.{stands_committed}

-- The first of these entries.
abbrev pub first_entry : {Op : Type 0} → List (LocalEntry Op) → Detail Op
first_entry [] = Nothing
first_entry (e ∷ l) = Entry e.id

-- The lists that refute the pair of the entry of this id, or else the evidence from the other
-- entries.
abbrev pub swap_or : {Op : Type 0} → ℕ → Option (List Op × List Op) → Detail Op → Detail Op
swap_or id None others = others
swap_or id (Some lists) others = Swap id (record { before = lists.0; after = lists.1 })

-- The first of these entries whose pair does not swap, with the lists that refute the pair.
abbrev pub first_swap : {Op E : Type 0} → (E → ℕ) → (E → Option (List Op × List Op)) → List E →
    Detail Op
first_swap id_of refuting [] = Nothing
first_swap id_of refuting (e ∷ l) =
    swap_or (id_of e) (refuting e) (first_swap id_of refuting l)

-- whether two results are one
abbrev pub is_same : Answer → Answer → Bool
is_same answers.None answers.None = true
is_same (answers.Number x) (answers.Number y) = int_eq x y
is_same (answers.Truth true) (answers.Truth y) = y
is_same (answers.Truth false) (answers.Truth y) = not y
is_same answers.None (answers.Number y) = false
is_same answers.None (answers.Truth y) = false
is_same (answers.Number x) answers.None = false
is_same (answers.Number x) (answers.Truth y) = false
is_same (answers.Truth x) answers.None = false
is_same (answers.Truth x) (answers.Number y) = false

-- From this state on, the first item whose result differs from what the object returns there, with
-- what it returns.
abbrev pub first_differing : {Shape State Op Undo E : Type 0} → Object Shape State Op Undo →
    (E → Item Op) → State → List E → Detail Op
first_differing o item_of s [] = Nothing
first_differing o item_of s (e ∷ l) =
    cond (is_same (o.gives s (item_of e).op) (o.recorded (item_of e).op))
    (first_differing o item_of (o.next s (item_of e).op) l)
    (Gives (item_of e).id (o.gives s (item_of e).op))

-- the entries of a local log before the one of this id
abbrev pub entries_before : {Op : Type 0} → ℕ → List (LocalEntry Op) → List (LocalEntry Op)
entries_before id l = take (position_or_len (λ e. e.id == id) l) l

-- the entries of a local log after the one of this id
abbrev pub entries_behind : {Op : Type 0} → ℕ → List (LocalEntry Op) → List (LocalEntry Op)
entries_behind id l = drop (position_or_len (λ e. e.id == id) l + 1) l

-- If the entry is not there, there is no evidence. If it is, this is the evidence for its
-- conditions.
abbrev pub if_there : {A Op : Type 0} → Option A → (A → List (Detail Op)) → List (Detail Op)
if_there None f = Nothing ∷ []
if_there (Some x) f = Nothing ∷ f x

-- the evidence of this place, from 1
abbrev pub at_number : {Op : Type 0} → List (Detail Op) → ℕ → Detail Op
at_number [] n = Nothing
at_number (d ∷ ds) zero = Nothing
at_number (d ∷ ds) (suc zero) = d
at_number (d ∷ ds) (suc (suc n)) = at_number ds (suc n)

module _ {Shape State Op Undo : Type 0} (o : Object Shape State Op Undo) where
  -- The operations that the evidence shows are of the objects of the shape.
  abbrev pub Fits : Shape → Detail Op → Type 0
  Fits shape Nothing = Unit {0}
  Fits shape (Entry id) = Unit {0}
  Fits shape (Gives id answer) = Unit {0}
  Fits shape (Swap id context) =
      Each (λ op. IsTrue (o.fits shape op)) context.before
      × Each (λ op. IsTrue (o.fits shape op)) context.after

module _ {Shape State Op Undo : Type 0} (o : Object Shape State Op Undo) (shape : Shape) where
  -- The operation of this id, with what the object returns for it after these.
  abbrev pub gives_behind : ℕ → List Op → Op → Detail Op
  gives_behind id ops op = Gives id (o.gives (state_after o shape ops) op)

  -- The evidence of each criterion of a step if it is the first false one, in the order of the
  -- criteria.
  abbrev pub evidences : Config Op → Step Op → List (Detail Op)
  evidences c (Begin t p b) = Nothing ∷ Nothing ∷ []
  evidences c (App t id op) = if_there (tx t c.opened) λ x.
      Nothing
      ∷ Nothing
      ∷ gives_behind id (local_ops x.local) op
      ∷ []
  evidences c (Unapp t id) = if_there (tx t c.opened) λ x. Nothing ∷ []
  evidences c (Push t id) = if_there (tx t c.opened) λ x.
      if_there (at_mark id Unpushed x.local) λ e.
      first_swap (λ a. a.id) (λ a. o.refuting e.op a.op)
      (filter (λ a. is_mark a.mark Unpushed) (entries_before id x.local))
      ∷ first_swap (λ u. u.id) (λ u. o.refuting u.op e.op)
      (filter (λ u. not u.committed && not (u.owner =ⁿ t)) c.shared)
      ∷ gives_behind id (shared_ops c.shared) e.op
      ∷ []
  evidences c (Unpush t id) = if_there (tx t c.opened) λ x.
      if_there (at_mark id Pushed x.local) λ e.
      first_swap (λ b. b.id) (λ b. o.refuting b.op e.op)
      (filter (λ b. is_mark b.mark Pushed) (entries_behind id x.local))
      ∷ first_differing o shared_item (o.start shape) (without_shared id c.shared)
      ∷ []
  evidences c (Pull t id) = if_there (tx t c.opened) λ x.
      if_there (of_other t id c.shared) λ g.
      Nothing
      ∷ gives_behind id (local_ops x.local) g.op
      ∷ first_swap (λ a. a.id) (λ a. o.refuting a.op g.op) (own x.local)
      ∷ []
  evidences c (Unpull t id) = if_there (tx t c.opened) λ x.
      if_there (at_mark id Pulled x.local) λ e.
      first_differing o item (o.start shape) (without_local id x.local)
      ∷ []
  evidences c (Cmt t) = if_there (tx t c.opened) λ x.
      Nothing
      ∷ first_entry (filter (λ e. is_mark e.mark Unpushed) x.local)
      ∷ first_entry (filter (λ e. is_mark e.mark Pulled && not (stands_committed e.id c.shared))
      x.local)
      ∷ []
  evidences c (Quit t) = if_there (tx t c.opened) λ x. first_entry x.local ∷ []
  evidences c (Note t) = if_there (tx t c.opened) λ x. []

  -- The evidence of a step whose first false criterion has this number, from 1.
  abbrev pub evidence : Config Op → Step Op → ℕ → Detail Op
  evidence c step n = at_number (evidences c step) n
