-- The results of an object after a log are those after the view of the summary.
use Rattle.std.specs.Prelude.{◌≡◌, ℕ, List, [], ◌∷◌, ◌++◌, cond, Bool, Some}
use Rattle.std.proofs.Common.{sym, ap, subst, ◌∙◌}
use Rattle.std.proofs.lemmas.Bool.{eq-eqb}
use mathlib.Core.Logic.{inl, inr}
use Rattle.pp_kind.specs.Object.{Object, IsLawful, IsPlaced, rules_of, state_after, state_from}
use Rattle.pp_kind.proofs.Lists.{state-append}
use Rattle.pp_kind.proofs.Places.{tells_states}
use Rattle.pp_model.specs.Config.{Config, Tx, local_ops, tx}
use Rattle.pp_model.specs.Names.{Name}
use Rattle.pp_records.specs.Fronts.{Front}
use Rattle.pp_laws_summary.specs.LocalLogs.{Summable}
use Rattle.pp_laws_summary.specs.Places.{ops_at}
use Rattle.pp_laws_summary.specs.Summary.{open_summary, summary_view}
use Rattle.pp_laws_summary.specs.Views.{log_at}
use Rattle.pp_laws_summary.proofs.Entries.{same_or_not}
use Rattle.pp_laws_summary.proofs.Parts.{AllAt, at-append, at_all, not_eq}
use Rattle.pp_laws_summary.proofs.Placed.{next_at, next_off, parts_of}
use Rattle.pp_laws_summary.proofs.SummaryViews.{same_state}

module _ {Shape State Op Undo : Type 0} (o : Object Shape State Op Undo) (place : Op → ℕ) (SameAt : ℕ → State → State → Type 0) (laws : IsLawful o) (places : IsPlaced o place SameAt) where
  -- a list and its operations at a place leave states that are the same there
  part_state : (p : ℕ) (s t : State) (l : List Op) → SameAt p s t → SameAt p (state_from o s l) (state_from o t (ops_at place p l))
  part_state p s t [] h = h
  part_state p s t (a ∷ l) h = elim (same_or_not (place a) p) [
    | inl e ↦ subst (λ (w : List Op). SameAt p (state_from o (o.next s a) l) (state_from o t w)) (sym (ap (λ (b : Bool). cond b (a ∷ ops_at place p l) (ops_at place p l)) (eq-eqb (place a) p e)))
        (part_state p (o.next s a) (o.next t a) l (next_at o place SameAt laws places p s t a e h))
    | inr n ↦ subst (λ (w : List Op). SameAt p (state_from o (o.next s a) l) (state_from o t w)) (sym (ap (λ (b : Bool). cond b (a ∷ ops_at place p l) (ops_at place p l)) (not_eq (place a) p n)))
        (part_state p (o.next s a) t l (next_off o place SameAt laws places p s t a n h))
  ]

  module _ (shape : Shape) (f : Front) (c : Config Op) (b : Summable (rules_of o shape) place f c) (t : Name) (x : Tx Op) (lookup : tx t c.opened ≡ Some x) where
    -- An operation has the same result after the log and after the view, if entries of its object follow.
    pub gives_view : (k : List Op) (a : Op) → AllAt place (place a) k →
        o.gives (state_after o shape (local_ops x.local ++ k)) a ≡ o.gives (state_after o shape (summary_view place (place a) c.done (open_summary place f x) ++ k)) a
    gives_view k a at =
        let p = place a in
        let v = summary_view place p c.done (open_summary place f x) in
        let e : ops_at place p (local_ops x.local ++ k) ≡ log_at place p x.local ++ k = at-append place p (local_ops x.local) k ∙ ap (λ (w : List Op). log_at place p x.local ++ w) (at_all place p k at) in
        let h : state_after o shape (log_at place p x.local) ≡ state_after o shape v =
        same_state (rules_of o shape) place (parts_of o place SameAt laws places shape) (tells_states o laws shape) f c b t x lookup p in
        places.gives_there (state_after o shape (local_ops x.local ++ k)) (state_after o shape (ops_at place p (local_ops x.local ++ k))) a
        (part_state p (o.start shape) (o.start shape) (local_ops x.local ++ k) (places.same p (o.start shape)))
        ∙ ap (λ (w : List Op). o.gives (state_after o shape w) a) e
        ∙ ap (λ (s : State). o.gives s a) (state-append o (o.start shape) (log_at place p x.local) k)
        ∙ ap (λ (s : State). o.gives (state_from o s k) a) h
        ∙ sym (ap (λ (s : State). o.gives s a) (state-append o (o.start shape) v k))
