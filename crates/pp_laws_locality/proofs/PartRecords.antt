-- A record is good exactly if its bookkeeping is right and its restriction to each object is good.
use Rattle.std.specs.Prelude.{◌≡◌, ◌≤◌, ◌==◌, Bool, true, false, cond, ℕ, List, ◌∷◌, length, take, Option, None, Some}
use Rattle.std.proofs.Common.{refl, sym, ap, subst, ◌∙◌}
use Rattle.std.proofs.lemmas.Bool.{eq-eqb}
use Rattle.std.proofs.lemmas.Bool.Decides.{eqb_tells}
use Rattle.std.proofs.lemmas.Option.{same_Some}
use mathlib.Core.Logic.{inl, inr}
use Rattle.pp_core.specs.declared.call.Style.{Style}
use Rattle.pp_model.specs.Config.{App, Begin, Cmt, Config, LocalEntry, Note, Pull, Push, Quit, SharedEntry, Step, Tx, Unapp, Unpull, Unpush, as_shared, is_own, item, own}
use Rattle.pp_model.specs.Lists.{In}
use Rattle.pp_model.specs.Names.{Name}
use Rattle.pp_model.specs.Object.{Object}
use Rattle.pp_model.proofs.Lists.{by_key, from_filter, from_map}
use Rattle.pp_records.specs.Fronts.{Front}
use Rattle.pp_records.specs.Records.{RunRecord}
use Rattle.pp_records.specs.Records as records
use Rattle.pp_laws_summary.specs.LocalLogs.{HasSummary, Summable}
use Rattle.pp_laws_summary.specs.Places.{PlacesPart}
use Rattle.pp_laws_summary.specs.Summary.{Held, OfOpenSummary, OpenSummary, Summary, SummaryCommit, SummaryGood, SummaryMeets, SummaryOp, SummaryPushes, SummaryRefresh, held_of, next_summary, open_named, open_summary, summary_of}
use Rattle.pp_laws_locality.specs.Bookkeeping.{Bookkeeping}
use Rattle.pp_laws_locality.specs.Restricted.{restricted, without_body}
use Rattle.pp_laws_locality.proofs.Filtered.{length_passed}
use Rattle.pp_laws_locality.proofs.Parts.{HeldWithin, found_at, named_at, open_at, summary_at}
use Rattle.pp_laws_locality.proofs.PartLogs.{commit_from, commit_to, op_from, op_to, pushes_from, pushes_to, refresh_from, refresh_to}
use Rattle.pp_laws_locality.proofs.PartSteps.{IsFit, ids_after}

-- the summary of a configuration is fit
pub fits : {Op State : Type 0} (O : Object Op State) (place : Op → ℕ) (f : Front) (c : Config Op) → Summable O place f c → IsFit O place (summary_of place (record { front = f; config = c }))
fits {Op} O place f c b =
    record {
      within = λ x i. let m = from_map (open_summary place f) x c.opened i in subst (λ (y : OpenSummary Op). HeldWithin y) (sym m.2) (began m.0 (f.section m.0.name));
      placed = λ x e g i j m k n.
          let y = from_map (open_summary place f) x c.opened i in
          let w = from_filter (λ (a : LocalEntry Op). is_own a.mark) e y.0.local (subst (λ (z : OpenSummary Op). In e z.own) y.2 j) in
          ap (λ (h : SharedEntry Op). place h.op) (by_key (λ (h : SharedEntry Op). h.id) c.shared b.sound.shared_ids g (as_shared y.0.name false (item e)) k (b.sound.pushed_stand y.0 y.1 e w.0 m) n);
      allowed = b.sound.shared_allowed;
    }
  where
    began : (y : Tx Op) (w : Option ℕ) (h : Held) → held_of place w y.local ≡ Some h → h.own ≤ length (own y.local)
    began y None h e = absurd (cc)
    began y (Some m) h e =
        let k : length (own (take m y.local)) ≡ h.own = ap (λ (z : Held). z.own) (same_Some _ h e) in
        subst (λ (n : ℕ). n ≤ length (own y.local)) k (length_passed (λ (a : LocalEntry Op). is_own a.mark) m y.local)

-- A good record has right bookkeeping.
pub has_bookkeeping : {Op State : Type 0} (style : Style) (O : Object Op State) (place : Op → ℕ) (B : Summary Op) (r : RunRecord Op) → SummaryGood style O place B r → Bookkeeping O B r
has_bookkeeping style O place B (records.Plain step) g = g
has_bookkeeping style O place B (records.Op t id op) g = (g.0, g.1, record { new = g.2.new; begins = g.2.begins })
has_bookkeeping style O place B (records.Commit t) g = (g.0, g.1, g.2.word)
has_bookkeeping style O place B (records.Abort t) g = g
has_bookkeeping style O place B (records.Retry t) g = g
has_bookkeeping style O place B (records.Refresh t o) g = (g.0, g.1, tt)
has_bookkeeping style O place B (records.XBegin t) g = g
has_bookkeeping style O place B (records.XEnd t) g = (g.0, g.1, tt)
has_bookkeeping style O place B (records.XAbort t) g = g
has_bookkeeping style O place B (records.Depend t source) g = g
has_bookkeeping style O place B (records.Publish t) g = g
has_bookkeeping style O place B (records.DropSource t source) g = g

-- The ids on the object are known after a record.
pub known_after : {Op : Type 0} (place : Op → ℕ) (style : Style) (o : ℕ) (js : List ℕ) (B : Summary Op) (r : RunRecord Op) → ((i : ℕ) → In i js → In i B.ids) →
    (i : ℕ) → In i (ids_after place o js r) → In i (next_summary place style B r).ids
known_after {Op} place style o js B (records.Plain step) known = by step
  where
    by : (step : Step Op) (i : ℕ) → In i js → In i (next_summary place style B (records.Plain step)).ids
    by (Begin t p b) = known
    by (App t id op) = known
    by (Unapp t id) = known
    by (Push t id) = known
    by (Unpush t id) = known
    by (Pull t id) = known
    by (Unpull t id) = known
    by (Cmt t) = known
    by (Quit t) = known
    by (Note t) = known
known_after place style o js B (records.Op t id op) known = by (place op == o)
  where
    by : (b : Bool) (i : ℕ) → In i (cond b (id ∷ js) js) → In i (id ∷ B.ids)
    by true i (inl e) = inl e
    by true i (inr k) = inr (known i k)
    by false i k = inr (known i k)
known_after place style o js B (records.Commit t) known = known
known_after place style o js B (records.Abort t) known = known
known_after place style o js B (records.Retry t) known = known
known_after place style o js B (records.Refresh t p) known = known
known_after place style o js B (records.XBegin t) known = known
known_after place style o js B (records.XEnd t) known = known
known_after place style o js B (records.XAbort t) known = known
known_after place style o js B (records.Depend t source) known = known
known_after place style o js B (records.Publish t) known = known
known_after place style o js B (records.DropSource t source) known = known

module _ {Op : Type 0} (place : Op → ℕ) (o : ℕ) (js : List ℕ) (B : Summary Op) (t : Name) where
  -- A transaction is open on the object if it is open.
  open_to : (P Q : OpenSummary Op → Type 0) → ((x : OpenSummary Op) → P x → Q (open_at place o x)) → OfOpenSummary B t P → OfOpenSummary (summary_at place o js B) t Q
  open_to P Q h k = (open_at place o k.0, named_at place o t B.opened ∙ ap (λ (w : Option (OpenSummary Op)). found_at place o w) k.1, h k.0 k.2)

  -- A property of t in the part of a summary on the object is one of the part of t's open transaction.
  open_from : (Q : OpenSummary Op → Type 0) (x : OpenSummary Op) → open_named t B.opened ≡ Some x → OfOpenSummary (summary_at place o js B) t Q → Q (open_at place o x)
  open_from Q x e k = subst Q (same_Some k.0 (open_at place o x) (sym k.1 ∙ named_at place o t B.opened ∙ ap (λ (w : Option (OpenSummary Op)). found_at place o w) e)) k.2

-- The restriction of a record is good.
abbrev pub RestrictedGood : {Op State : Type 0} → Style → Object Op State → (Op → ℕ) → Summary Op → Option (RunRecord Op) → Type 0
RestrictedGood style O place C None = Unit {0}
RestrictedGood style O place C (Some r) = SummaryGood style O place C r

module _ {Op State : Type 0} (style : Style) (has : HasSummary style) (O : Object Op State) (place : Op → ℕ) (part : PlacesPart O place) (B : Summary Op) where
  module _ (o : ℕ) (js : List ℕ) (known : (i : ℕ) → In i js → In i B.ids) where
    abbrev C : Summary Op
    C = summary_at place o js B

    -- A good plain step is good on each object, without its body.
    pub plain_to : (step : Step Op) → SummaryMeets B step → SummaryMeets C (without_body step)
    plain_to (Begin t p b) k = (k.0, (λ y i e. let m = from_map (open_at place o) y B.opened i in k.1 m.0 m.1 (ap (λ (z : OpenSummary Op). z.thread) (sym m.2) ∙ e)))
    plain_to (App t id op) k = k
    plain_to (Unapp t id) k = k
    plain_to (Push t id) k = k
    plain_to (Unpush t id) k = k
    plain_to (Pull t id) k = k
    plain_to (Unpull t id) k = k
    plain_to (Cmt t) k = k
    plain_to (Quit t) k = k
    plain_to (Note t) k = k

    -- A transaction that is open is open on each object.
    pub alone_to : (t : Name) → OfOpenSummary B t (λ x. Unit {0}) → OfOpenSummary C t (λ x. Unit {0})
    alone_to t g = open_to place o js B t (λ x. Unit {0}) (λ x. Unit {0}) (λ x k. k) g

    op_good : (t : Name) (id : ℕ) (op : Op) → OfOpenSummary B t (SummaryOp O place style B id op) → RestrictedGood style O place C (cond (place op == o) (Some (records.Op t id op)) None)
    op_good t id op g = elim (eqb_tells (place op) o) [
      | inl r ↦ subst (λ (b : Bool). RestrictedGood style O place C (cond b (Some (records.Op t id op)) None)) (sym r.0)
          (subst (λ (q : ℕ). OfOpenSummary (summary_at place q js B) t (SummaryOp O place style (summary_at place q js B) id op)) r.1
          (open_to place (place op) js B t (SummaryOp O place style B id op) (SummaryOp O place style (summary_at place (place op) js B) id op) (λ x k. op_to O place part js B x style op id known k) g))
      | inr r ↦ subst (λ (b : Bool). RestrictedGood style O place C (cond b (Some (records.Op t id op)) None)) (sym r.0) tt
    ]

    refresh_good : (t : Name) (p : ℕ) → OfOpenSummary B t (SummaryRefresh O place B p) → RestrictedGood style O place C (cond (p == o) (Some (records.Refresh t p)) None)
    refresh_good t p g = elim (eqb_tells p o) [
      | inl r ↦ subst (λ (b : Bool). RestrictedGood style O place C (cond b (Some (records.Refresh t p)) None)) (sym r.0)
          (subst (λ (q : ℕ). OfOpenSummary (summary_at place q js B) t (SummaryRefresh O place (summary_at place q js B) p)) r.1
          (open_to place p js B t (SummaryRefresh O place B p) (SummaryRefresh O place (summary_at place p js B) p) (λ x k. refresh_to O place part js B x p k) g))
      | inr r ↦ subst (λ (b : Bool). RestrictedGood style O place C (cond b (Some (records.Refresh t p)) None)) (sym r.0) tt
    ]

    -- The restriction of a good record is good.
    pub restriction_good : (r : RunRecord Op) → SummaryGood style O place B r → RestrictedGood style O place C (restricted place o r)
    restriction_good (records.Plain step) g = plain_to step g
    restriction_good (records.Op t id op) g = op_good t id op g
    restriction_good (records.Commit t) g = open_to place o js B t (SummaryCommit style O place B) (SummaryCommit style O place C) (λ x k. commit_to O place part B x style has o js k) g
    restriction_good (records.Abort t) g = alone_to t g
    restriction_good (records.Retry t) g = alone_to t g
    restriction_good (records.Refresh t p) g = refresh_good t p g
    restriction_good (records.XBegin t) g = alone_to t g
    restriction_good (records.XEnd t) g = open_to place o js B t (SummaryPushes O place B) (SummaryPushes O place C) (λ x k. pushes_to O place part js B x o k) g
    restriction_good (records.XAbort t) g = alone_to t g
    restriction_good (records.Depend t source) g = g
    restriction_good (records.Publish t) g = g
    restriction_good (records.DropSource t source) g = g

  module _ (fit : IsFit O place B) where
    -- An operation is good if its restriction to its object is.
    pub op_back : (js : List ℕ) (t : Name) (id : ℕ) (op : Op) → Bookkeeping O B (records.Op t id op) → RestrictedGood style O place (summary_at place (place op) js B) (restricted place (place op) (records.Op t id op)) → SummaryGood style O place B (records.Op t id op)
    op_back js t id op book g =
        let D = summary_at place (place op) js B in
        let k = subst (λ (b : Bool). RestrictedGood style O place D (cond b (Some (records.Op t id op)) None)) (eq-eqb (place op) (place op) refl) g in
        (book.0, book.1, op_from O place part js B book.0 style op id fit.allowed book.2 (open_from place (place op) js B t (SummaryOp O place style D id op) book.0 book.1 k))

    -- A refresh is good if its restriction to its object is.
    pub refresh_back : (js : List ℕ) (t : Name) (p : ℕ) → Bookkeeping O B (records.Refresh t p) → RestrictedGood style O place (summary_at place p js B) (restricted place p (records.Refresh t p)) → SummaryGood style O place B (records.Refresh t p)
    refresh_back js t p book g =
        let D = summary_at place p js B in
        let k = subst (λ (b : Bool). RestrictedGood style O place D (cond b (Some (records.Refresh t p)) None)) (eq-eqb p p refl) g in
        (book.0, book.1, refresh_from O place part js B book.0 p (open_from place p js B t (SummaryRefresh O place D p) book.0 book.1 k))

    -- A record whose bookkeeping is right is good if its restriction to each object is.
    pub good_back : (js : ℕ → List ℕ) (r : RunRecord Op) → Bookkeeping O B r → ((o : ℕ) → RestrictedGood style O place (summary_at place o (js o) B) (restricted place o r)) → SummaryGood style O place B r
    good_back js (records.Plain step) book g = book
    good_back js (records.Op t id op) book g = op_back (js (place op)) t id op book (g (place op))
    good_back js (records.Commit t) book g = (book.0, book.1, commit_from O place part B book.0 style has js book.2 (λ o. open_from place o (js o) B t (SummaryCommit style O place (summary_at place o (js o) B)) book.0 book.1 (g o)))
    good_back js (records.Abort t) book g = book
    good_back js (records.Retry t) book g = book
    good_back js (records.Refresh t p) book g = refresh_back (js p) t p book (g p)
    good_back js (records.XBegin t) book g = book
    good_back js (records.XEnd t) book g = (book.0, book.1, pushes_from O place part js B book.0 (λ o. open_from place o (js o) B t (SummaryPushes O place (summary_at place o (js o) B)) book.0 book.1 (g o)))
    good_back js (records.XAbort t) book g = book
    good_back js (records.Depend t source) book g = book
    good_back js (records.Publish t) book g = book
    good_back js (records.DropSource t source) book g = book
