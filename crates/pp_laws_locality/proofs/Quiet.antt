-- An object that a run is not on: nothing can fail there.
use Rattle.std.specs.Prelude.{◌≡◌, ◌≢◌, Bool, true, false, cond, not, ℕ, zero, suc, List, [], ◌∷◌, ◌++◌, map, take, Option, None, Some}
use Rattle.std.proofs.Common.{refl, sym, ap, subst, ◌∙◌}
use mathlib.Core.Logic.{inl, inr}
use Rattle.pp_core.specs.declared.call.Style.{Style}
use Rattle.pp_core.specs.declared.call.Style.TheVariants.{Rules, Boosted, Optimistic, Hardware, Dependent}
use Rattle.pp_model.specs.Config.{App, Begin, Cmt, LocalEntry, Note, Pull, Push, Quit, SharedEntry, Step, Unapp, Unpull, Unpush, commit_all, local_ops, shared_ops}
use Rattle.pp_model.specs.Lists.{In}
use Rattle.pp_model.specs.Names.{Name, ◌=ⁿ◌}
use Rattle.pp_model.specs.Object.{Allowed, Object}
use Rattle.pp_model.proofs.Lists.{from_filter, from_map, in_cases, in_map}
use Rattle.pp_model.proofs.Logs.{found}
use Rattle.pp_records.specs.Records.{RunRecord}
use Rattle.pp_records.specs.Records as records
use Rattle.pp_laws_summary.specs.LocalLogs.{HasSummary, as_pushed, posted, unpushed, without_ids}
use Rattle.pp_laws_summary.specs.Places.{PlacesPart}
use Rattle.pp_laws_summary.specs.Summary.{OfOpenSummary, OpenSummary, Summary, SummaryCommit, SummaryPushes, at_open, begun_section, ended, new_open, next_summary, open_named, own_held, own_of, taken_back, taken_to_held, without_open}
use Rattle.pp_laws_summary.proofs.Parts.{not_eq}
use Rattle.pp_laws_locality.specs.Bookkeeping.{Bookkeeping}
use Rattle.pp_laws_locality.specs.Restricted.{restricted, without_body}
use Rattle.pp_laws_locality.proofs.Parts.{found_at, named_at, open_at, own_at, summary_at}
use Rattle.pp_laws_locality.proofs.PartRecords.{RestrictedGood, alone_to, plain_to}
use Rattle.pp_laws_locality.proofs.PartSteps.{after_restricted}

-- The record is not on the object.
abbrev pub IsElsewhere : {Op : Type 0} → (Op → ℕ) → ℕ → RunRecord Op → Type 0
IsElsewhere place o (records.Plain step) = Unit {0}
IsElsewhere place o (records.Op t id op) = place op ≢ o
IsElsewhere place o (records.Commit t) = Unit {0}
IsElsewhere place o (records.Abort t) = Unit {0}
IsElsewhere place o (records.Retry t) = Unit {0}
IsElsewhere place o (records.Refresh t p) = p ≢ o
IsElsewhere place o (records.XBegin t) = Unit {0}
IsElsewhere place o (records.XEnd t) = Unit {0}
IsElsewhere place o (records.XAbort t) = Unit {0}
IsElsewhere place o (records.Depend t source) = Unit {0}
IsElsewhere place o (records.Publish t) = Unit {0}
IsElsewhere place o (records.DropSource t source) = Unit {0}

-- No transaction has an own entry, and the shared log is empty.
pub record IsQuiet {Op : Type 0} (C : Summary Op) : Type 0 where
  pub none : (y : OpenSummary Op) → In y C.opened → y.own ≡ []
  pub empty : C.shared ≡ []

-- nothing of nothing
take_none : {A : Type 0} (n : ℕ) (l : List A) → l ≡ [] → take n l ≡ []
take_none {A} n l e = ap (λ (w : List A). take n w) e ∙ by n [] refl
  where
    by : (n : ℕ) (k : List A) → k ≡ [] → take n k ≡ []
    by zero k e = refl
    by (suc n) [] e = refl
    by (suc n) (x ∷ k) e = absurd (cc)

module _ {Op : Type 0} (C : Summary Op) (quiet : IsQuiet C) where
  -- the own entries of a transaction are none
  own_none : (t : Name) → own_of (open_named t C.opened) ≡ []
  own_none t = by (open_named t C.opened) refl
    where
      by : (w : Option (OpenSummary Op)) → open_named t C.opened ≡ w → own_of w ≡ []
      by None e = refl
      by (Some x) e = quiet.none x (found (λ (y : OpenSummary Op). y.name =ⁿ t) C.opened x e).0

  -- a change of a transaction
  changed_none : (t : Name) (f : OpenSummary Op → OpenSummary Op) → ((x : OpenSummary Op) → x.own ≡ [] → (f x).own ≡ []) → (y : OpenSummary Op) → In y (at_open t f C.opened) → y.own ≡ []
  changed_none t f h y i =
      let m = from_map (λ (x : OpenSummary Op). cond (x.name =ⁿ t) (f x) x) y C.opened i in
      ap (λ (z : OpenSummary Op). z.own) m.2 ∙ by m.0 (quiet.none m.0 m.1) (m.0.name =ⁿ t)
    where
      by : (x : OpenSummary Op) → x.own ≡ [] → (b : Bool) → (cond b (f x) x).own ≡ []
      by x e true = h x e
      by x e false = e

  closed_none : (t : Name) (y : OpenSummary Op) → In y (without_open t C.opened) → y.own ≡ []
  closed_none t y i = quiet.none y (from_filter (λ (x : OpenSummary Op). not (x.name =ⁿ t)) y C.opened i).0

  begun_none : (t p : Name) (y : OpenSummary Op) → In y (C.opened ++ new_open t p None ∷ []) → y.own ≡ []
  begun_none t p y i = elim (in_cases y C.opened (new_open t p None ∷ []) i) [
    | inl j ↦ quiet.none y j
    | inr (inl e) ↦ ap (λ (z : OpenSummary Op). z.own) e
    | inr (inr k) ↦ absurd k
  ]

  posts_none : (t : Name) → C.shared ++ posted t (unpushed (own_of (open_named t C.opened))) ≡ []
  posts_none t = ap (λ (w : List (SharedEntry Op)). w ++ posted t (unpushed (own_of (open_named t C.opened)))) quiet.empty ∙ ap (λ (w : List (LocalEntry Op)). posted t (unpushed w)) (own_none t)

  kept_none : (js : List ℕ) → without_ids js C.shared ≡ []
  kept_none js = ap (λ (w : List (SharedEntry Op)). without_ids js w) quiet.empty

  module _ (place : Op → ℕ) (style : Style) (o : ℕ) where
    plain_quiet : (step : Step Op) → IsQuiet (next_summary place style C (records.Plain (without_body step)))
    plain_quiet (Begin t p b) = record { none = begun_none t p; empty = quiet.empty }
    plain_quiet (App t id op) = quiet
    plain_quiet (Unapp t id) = quiet
    plain_quiet (Push t id) = quiet
    plain_quiet (Unpush t id) = quiet
    plain_quiet (Pull t id) = quiet
    plain_quiet (Unpull t id) = quiet
    plain_quiet (Cmt t) = quiet
    plain_quiet (Quit t) = quiet
    plain_quiet (Note t) = quiet

    -- It is so after the restriction of a record that is elsewhere.
    pub stays_quiet : (r : RunRecord Op) → IsElsewhere place o r → IsQuiet (after_restricted place style C (restricted place o r))
    stays_quiet (records.Plain step) h = plain_quiet step
    stays_quiet (records.Op t id op) h = subst (λ (b : Bool). IsQuiet (after_restricted place style C (cond b (Some (records.Op t id op)) None))) (sym (not_eq (place op) o h)) quiet
    stays_quiet (records.Commit t) h = record { none = closed_none t; empty = ap (λ (w : List (SharedEntry Op)). commit_all t w) (posts_none t) }
    stays_quiet (records.Abort t) h = record { none = closed_none t; empty = kept_none _ }
    stays_quiet (records.Retry t) h = record { none = changed_none t (taken_back None) (λ x e. take_none zero x.own e); empty = kept_none _ }
    stays_quiet (records.Refresh t p) h = subst (λ (b : Bool). IsQuiet (after_restricted place style C (cond b (Some (records.Refresh t p)) None))) (sym (not_eq p o h)) quiet
    stays_quiet (records.XBegin t) h = record { none = changed_none t begun_section (λ x e. e); empty = quiet.empty }
    stays_quiet (records.XEnd t) h = record { none = changed_none t ended (λ x e. ap (λ (w : List (LocalEntry Op)). map as_pushed w) e); empty = posts_none t }
    stays_quiet (records.XAbort t) h = record { none = changed_none t taken_to_held (λ x e. take_none (own_held x.held) x.own e); empty = kept_none _ }
    stays_quiet (records.Depend t source) h = quiet
    stays_quiet (records.Publish t) h = quiet
    stays_quiet (records.DropSource t source) h = quiet

module _ {Op State : Type 0} (style : Style) (has : HasSummary style) (O : Object Op State) (place : Op → ℕ) (part : PlacesPart O place) (B : Summary Op) (o : ℕ) (js : List ℕ) (known : (i : ℕ) → In i js → In i B.ids) (quiet : IsQuiet (summary_at place o js B)) where
  abbrev C : Summary Op
  C = summary_at place o js B

  pushes_good : (y : OpenSummary Op) → y.own ≡ [] → SummaryPushes O place C y
  pushes_good y e = record {
    passes = λ a u i. absurd (subst (λ (w : List (LocalEntry Op)). In a (unpushed w)) e i);
    allowed = subst (λ (w : List (SharedEntry Op)). Allowed O (shared_ops w ++ local_ops (unpushed y.own))) (sym quiet.empty) (subst (λ (w : List (LocalEntry Op)). Allowed O (local_ops (unpushed w))) (sym e) tt);
  }

  commit_good : (style : Style) → HasSummary style → (x : OpenSummary Op) → own_at place o x.own ≡ [] → SummaryCommit style O place C (open_at place o x)
  commit_good Rules h x e = absurd h
  commit_good Boosted h x e = record { word = tt; pushed = λ a i. absurd (subst (λ (w : List (LocalEntry Op)). In a w) e i) }
  commit_good Optimistic h x e = record { word = tt; pushed = pushes_good (open_at place o x) e }
  commit_good Hardware h x e = record { word = tt; pushed = pushes_good (open_at place o x) e }
  commit_good Dependent h x e = absurd h

  open_good : (t : Name) (P Q : OpenSummary Op → Type 0) → ((x : OpenSummary Op) → own_at place o x.own ≡ [] → Q (open_at place o x)) → OfOpenSummary B t P → OfOpenSummary C t Q
  open_good t P Q h k =
      let i : In k.0 B.opened = (found (λ (y : OpenSummary Op). y.name =ⁿ t) B.opened k.0 k.1).0 in
      (open_at place o k.0, named_at place o t B.opened ∙ ap (λ (w : Option (OpenSummary Op)). found_at place o w) k.1, h k.0 (quiet.none (open_at place o k.0) (in_map (open_at place o) k.0 B.opened i)))

  -- The restriction of a record that is elsewhere is good if its bookkeeping is right.
  pub quiet_good : (r : RunRecord Op) → IsElsewhere place o r → Bookkeeping O B r → RestrictedGood style O place C (restricted place o r)
  quiet_good (records.Plain step) h b = plain_to style has O place part B o js known step b
  quiet_good (records.Op t id op) h b = subst (λ (z : Bool). RestrictedGood style O place C (cond z (Some (records.Op t id op)) None)) (sym (not_eq (place op) o h)) tt
  quiet_good (records.Commit t) h b = open_good t _ (SummaryCommit style O place C) (λ x e. commit_good style has x e) b
  quiet_good (records.Abort t) h b = alone_to style has O place part B o js known t b
  quiet_good (records.Retry t) h b = alone_to style has O place part B o js known t b
  quiet_good (records.Refresh t p) h b = subst (λ (z : Bool). RestrictedGood style O place C (cond z (Some (records.Refresh t p)) None)) (sym (not_eq p o h)) tt
  quiet_good (records.XBegin t) h b = alone_to style has O place part B o js known t b
  quiet_good (records.XEnd t) h b = open_good t _ (SummaryPushes O place C) (λ x e. pushes_good (open_at place o x) e) b
  quiet_good (records.XAbort t) h b = alone_to style has O place part B o js known t b
  quiet_good (records.Depend t source) h b = b
  quiet_good (records.Publish t) h b = b
  quiet_good (records.DropSource t source) h b = b
