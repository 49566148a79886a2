-- A record of a boosted, an optimistic or a hardware run is good exactly if each of its steps meets its criteria.
use Rattle.std.specs.Prelude.{◌≡◌, ℕ, zero, List, [], ◌∷◌, ◌++◌, length, Option, Some, None}
use Rattle.std.proofs.Common.{refl, sym, subst}
use Rattle.pp_core.specs.declared.call.Kind.{Kind}
use Rattle.pp_core.specs.declared.call.Style.{Style}
use Rattle.pp_core.specs.declared.call.Style.TheVariants.{Rules, Boosted, Optimistic, Hardware, Dependent}
use Rattle.pp_model.specs.Body.{Tree}
use Rattle.pp_model.specs.Names.{Name}
use Rattle.pp_model.specs.Object.{Object}
use Rattle.pp_model.specs.Config.{LocalEntry, Tx, Config, Start, Step, Begin, App, Unapp, Push, Unpush, Pull, Unpull, Cmt, Quit, Note, tx, first, after_from}
use Rattle.pp_model.specs.Rules.{FirstFalse, there, Meets, RunsFrom, StartMeets}
use Rattle.pp_model.proofs.Alone.{there_is}
use Rattle.pp_model.proofs.Begin.{start_sound}
use Rattle.pp_model.proofs.Steps.{there_holds}
use Rattle.pp_records.specs.Expansions.{IsOfStyle, expand, steps_of_open, front_of_open, front_after, op_steps, commit_steps, refresh, pushall, back}
use Rattle.pp_records.specs.Fronts.{Front, new_front, with_section, with_sources, opened_at, mark_of}
use Rattle.pp_records.specs.Records.{RunRecord}
use Rattle.pp_records.specs.Records as records
use Rattle.pp_laws_summary.specs.Places.{PlacesPart}
use Rattle.pp_laws_summary.specs.LocalLogs.{OfOpen, HasSummary, Summable, push_mode, LocalGood, LocalOp, LocalCommit, LocalRefresh, LocalPushes}
use Rattle.pp_laws_summary.specs.Laws.{LocalLogsDecide}
use Rattle.pp_laws_summary.proofs.Steps as steps
use Rattle.pp_laws_summary.proofs.Keeps.{note_kept, op_kept, retry_kept, abandon_kept, abort_runs, abort_kept, pushall_kept, section_kept, back_runs}
use Rattle.pp_laws_summary.proofs.Commit.{begin_kept, commit_runs, commit_good, commit_kept}

-- a record of one of the three styles
abbrev IsAny : {Op : Type 0} → RunRecord Op → Type 0
IsAny (records.Plain (Begin t p w)) = Unit {0}
IsAny (records.Op t id op) = Unit {0}
IsAny (records.Commit t) = Unit {0}
IsAny (records.Abort t) = Unit {0}
IsAny (records.Retry t) = Unit {0}
IsAny (records.Refresh t g) = Unit {0}
IsAny (records.XBegin t) = Unit {0}
IsAny (records.XEnd t) = Unit {0}
IsAny (records.XAbort t) = Unit {0}
IsAny (records.Plain (App t id op)) = ⊥
IsAny (records.Plain (Unapp t id)) = ⊥
IsAny (records.Plain (Push t id)) = ⊥
IsAny (records.Plain (Unpush t id)) = ⊥
IsAny (records.Plain (Pull t id)) = ⊥
IsAny (records.Plain (Unpull t id)) = ⊥
IsAny (records.Plain (Cmt t)) = ⊥
IsAny (records.Plain (Quit t)) = ⊥
IsAny (records.Plain (Note t)) = ⊥
IsAny (records.Depend t u) = ⊥
IsAny (records.Publish t) = ⊥
IsAny (records.DropSource t u) = ⊥

of_style : (style : Style) → HasSummary style → {Op : Type 0} → (r : RunRecord Op) → IsOfStyle style r → IsAny r
of_style Rules h r s = absurd h
of_style Dependent h r s = absurd h
of_style Boosted h (records.Plain (Begin t p w)) s = tt
of_style Boosted h (records.Op t id op) s = tt
of_style Boosted h (records.Commit t) s = tt
of_style Boosted h (records.Abort t) s = tt
of_style Boosted h (records.Retry t) s = tt
of_style Boosted h (records.Refresh t g) s = absurd s
of_style Boosted h (records.XBegin t) s = absurd s
of_style Boosted h (records.XEnd t) s = absurd s
of_style Boosted h (records.XAbort t) s = absurd s
of_style Boosted h (records.Plain (App t id op)) s = absurd s
of_style Boosted h (records.Plain (Unapp t id)) s = absurd s
of_style Boosted h (records.Plain (Push t id)) s = absurd s
of_style Boosted h (records.Plain (Unpush t id)) s = absurd s
of_style Boosted h (records.Plain (Pull t id)) s = absurd s
of_style Boosted h (records.Plain (Unpull t id)) s = absurd s
of_style Boosted h (records.Plain (Cmt t)) s = absurd s
of_style Boosted h (records.Plain (Quit t)) s = absurd s
of_style Boosted h (records.Plain (Note t)) s = absurd s
of_style Boosted h (records.Depend t u) s = absurd s
of_style Boosted h (records.Publish t) s = absurd s
of_style Boosted h (records.DropSource t u) s = absurd s
of_style Optimistic h (records.Plain (Begin t p w)) s = tt
of_style Optimistic h (records.Op t id op) s = tt
of_style Optimistic h (records.Commit t) s = tt
of_style Optimistic h (records.Abort t) s = tt
of_style Optimistic h (records.Retry t) s = tt
of_style Optimistic h (records.Refresh t g) s = tt
of_style Optimistic h (records.XBegin t) s = absurd s
of_style Optimistic h (records.XEnd t) s = absurd s
of_style Optimistic h (records.XAbort t) s = absurd s
of_style Optimistic h (records.Plain (App t id op)) s = absurd s
of_style Optimistic h (records.Plain (Unapp t id)) s = absurd s
of_style Optimistic h (records.Plain (Push t id)) s = absurd s
of_style Optimistic h (records.Plain (Unpush t id)) s = absurd s
of_style Optimistic h (records.Plain (Pull t id)) s = absurd s
of_style Optimistic h (records.Plain (Unpull t id)) s = absurd s
of_style Optimistic h (records.Plain (Cmt t)) s = absurd s
of_style Optimistic h (records.Plain (Quit t)) s = absurd s
of_style Optimistic h (records.Plain (Note t)) s = absurd s
of_style Optimistic h (records.Depend t u) s = absurd s
of_style Optimistic h (records.Publish t) s = absurd s
of_style Optimistic h (records.DropSource t u) s = absurd s
of_style Hardware h (records.Plain (Begin t p w)) s = tt
of_style Hardware h (records.Op t id op) s = tt
of_style Hardware h (records.Commit t) s = tt
of_style Hardware h (records.Abort t) s = tt
of_style Hardware h (records.Retry t) s = tt
of_style Hardware h (records.Refresh t g) s = absurd s
of_style Hardware h (records.XBegin t) s = tt
of_style Hardware h (records.XEnd t) s = tt
of_style Hardware h (records.XAbort t) s = tt
of_style Hardware h (records.Plain (App t id op)) s = absurd s
of_style Hardware h (records.Plain (Unapp t id)) s = absurd s
of_style Hardware h (records.Plain (Push t id)) s = absurd s
of_style Hardware h (records.Plain (Unpush t id)) s = absurd s
of_style Hardware h (records.Plain (Pull t id)) s = absurd s
of_style Hardware h (records.Plain (Unpull t id)) s = absurd s
of_style Hardware h (records.Plain (Cmt t)) s = absurd s
of_style Hardware h (records.Plain (Quit t)) s = absurd s
of_style Hardware h (records.Plain (Note t)) s = absurd s
of_style Hardware h (records.Depend t u) s = absurd s
of_style Hardware h (records.Publish t) s = absurd s
of_style Hardware h (records.DropSource t u) s = absurd s

-- A property of the nine kinds of records is a property of each record.
by_any : {Op : Type 0} (P : RunRecord Op → Type 0) → ((t p : Name) (w : Option Tree) → P (records.Plain (Begin t p w))) →
    ((t : Name) (id : ℕ) (op : Op) → P (records.Op t id op)) → ((t : Name) → P (records.Commit t)) → ((t : Name) → P (records.Abort t)) →
    ((t : Name) → P (records.Retry t)) → ((t : Name) (o : ℕ) → P (records.Refresh t o)) → ((t : Name) → P (records.XBegin t)) → ((t : Name) → P (records.XEnd t)) → ((t : Name) → P (records.XAbort t)) →
    (r : RunRecord Op) → IsAny r → P r
by_any P b o k a y z xb xe xa (records.Plain (Begin t p w)) s = b t p w
by_any P b o k a y z xb xe xa (records.Op t id op) s = o t id op
by_any P b o k a y z xb xe xa (records.Commit t) s = k t
by_any P b o k a y z xb xe xa (records.Abort t) s = a t
by_any P b o k a y z xb xe xa (records.Retry t) s = y t
by_any P b o k a y z xb xe xa (records.Refresh t g) s = z t g
by_any P b o k a y z xb xe xa (records.XBegin t) s = xb t
by_any P b o k a y z xb xe xa (records.XEnd t) s = xe t
by_any P b o k a y z xb xe xa (records.XAbort t) s = xa t
by_any P b o k a y z xb xe xa (records.Plain (App t id op)) s = absurd s
by_any P b o k a y z xb xe xa (records.Plain (Unapp t id)) s = absurd s
by_any P b o k a y z xb xe xa (records.Plain (Push t id)) s = absurd s
by_any P b o k a y z xb xe xa (records.Plain (Unpush t id)) s = absurd s
by_any P b o k a y z xb xe xa (records.Plain (Pull t id)) s = absurd s
by_any P b o k a y z xb xe xa (records.Plain (Unpull t id)) s = absurd s
by_any P b o k a y z xb xe xa (records.Plain (Cmt t)) s = absurd s
by_any P b o k a y z xb xe xa (records.Plain (Quit t)) s = absurd s
by_any P b o k a y z xb xe xa (records.Plain (Note t)) s = absurd s
by_any P b o k a y z xb xe xa (records.Depend t u) s = absurd s
by_any P b o k a y z xb xe xa (records.Publish t) s = absurd s
by_any P b o k a y z xb xe xa (records.DropSource t u) s = absurd s

-- P is true of each record of the three styles, if it is true of each form of them.
pub by_record : (style : Style) → HasSummary style → {Op : Type 0} (P : RunRecord Op → Type 0) → ((t p : Name) (w : Option Tree) → P (records.Plain (Begin t p w))) →
    ((t : Name) (id : ℕ) (op : Op) → P (records.Op t id op)) → ((t : Name) → P (records.Commit t)) → ((t : Name) → P (records.Abort t)) →
    ((t : Name) → P (records.Retry t)) → ((t : Name) (o : ℕ) → P (records.Refresh t o)) → ((t : Name) → P (records.XBegin t)) → ((t : Name) → P (records.XEnd t)) → ((t : Name) → P (records.XAbort t)) →
    (r : RunRecord Op) → IsOfStyle style r → P r
by_record style h P b o k a y z xb xe xa r s = by_any P b o k a y z xb xe xa r (of_style style h r s)

none_open : {Op State : Type 0} (O : Object Op State) (place : Op → ℕ) (ks : List Kind) (h : Option (Start Op)) → StartMeets O h → Summable O place (new_front ks) (first h)
none_open O place ks None h = record { sound = start_sound O None h; pulls_committed = λ x i. absurd i; snapshots = λ x i. absurd i; sections = λ x i. absurd i; fresh = λ t n. refl }
none_open O place ks (Some z) h = record { sound = start_sound O (Some z) h; pulls_committed = λ x i. absurd i; snapshots = λ x i. absurd i; sections = λ x i. absurd i; fresh = λ t n. refl }

not_open : {A : Type 0} (o : Option A) (F : A → List (Type 0)) → o ≡ None → FirstFalse (there o F) 0 → ⊥
not_open {A} o F e h = (subst (λ (w : Option A). FirstFalse (there w F) 0) e h).0

module _ {Op State : Type 0} (style : Style) (has : HasSummary style) (O : Object Op State) (place : Op → ℕ) (part : PlacesPart O place) where
  module _ (f : Front) (c : Config Op) (b : Summable O place f c) where
    -- if t is open, these steps
    abbrev Opened : Name → Step Op → (List (LocalEntry Op) → List (Step Op)) → List (Step Op)
    Opened t alone ss = steps_of_open (tx t c.opened) alone ss

    to_run : (t : Name) (alone : Step Op) (ss : List (LocalEntry Op) → List (Step Op)) (P : Tx Op → Type 0) → ((x : Tx Op) → tx t c.opened ≡ Some x → P x → RunsFrom O c (ss x.local)) →
        OfOpen c t P → RunsFrom O c (Opened t alone ss)
    to_run t alone ss P k g = subst (λ (w : Option (Tx Op)). RunsFrom O c (steps_of_open w alone ss)) (sym g.1) (k g.0 g.1 g.2)

    of_run : (t : Name) (alone : Step Op) (ss : List (LocalEntry Op) → List (Step Op)) (P : Tx Op → Type 0) → (tx t c.opened ≡ None → Meets O c alone → ⊥) →
        ((x : Tx Op) → tx t c.opened ≡ Some x → RunsFrom O c (ss x.local) → P x) → RunsFrom O c (Opened t alone ss) → OfOpen c t P
    of_run t alone ss P never k = by (tx t c.opened) refl
      where
        by : (o : Option (Tx Op)) → tx t c.opened ≡ o → RunsFrom O c (steps_of_open o alone ss) → OfOpen c t P
        by None e r = absurd (never e r.0)
        by (Some x) e r = (x, e, k x e r)

    to_keep : (t : Name) (alone : Step Op) (ss : List (LocalEntry Op) → List (Step Op)) (g : List (LocalEntry Op) → Front) (x : Tx Op) → tx t c.opened ≡ Some x → Summable O place (g x.local) (after_from c (ss x.local)) →
        Summable O place (front_of_open (tx t c.opened) f g) (after_from c (Opened t alone ss))
    to_keep t alone ss g x e = subst (λ (w : Option (Tx Op)). Summable O place (front_of_open w f g) (after_from c (steps_of_open w alone ss))) (sym e)

    to_keep_front : (t : Name) (alone : Step Op) (ss : List (LocalEntry Op) → List (Step Op)) (x : Tx Op) → tx t c.opened ≡ Some x → Summable O place f (after_from c (ss x.local)) →
        Summable O place f (after_from c (Opened t alone ss))
    to_keep_front t alone ss x e = subst (λ (w : Option (Tx Op)). Summable O place f (after_from c (steps_of_open w alone ss))) (sym e)

    module _ (t : Name) (id : ℕ) (op : Op) (x : Tx Op) (e : tx t c.opened ≡ Some x) where
      abbrev mode : Option ℕ
      mode = push_mode style f t (place op)

      are : op_steps place style f c.shared x.local t id op ≡ steps.steps O place part t c b.sound x e (push_mode style f t (place op)) id op
      are = steps.style_steps O place part t c b.sound x e style has f id op

      op_runs : LocalOp O place (push_mode style f t (place op)) c id op x → RunsFrom O c (op_steps place style f c.shared x.local t id op)
      op_runs g = subst (λ (w : List (Step Op)). RunsFrom O c w) (sym are) (steps.op_runs O place part t c b.sound x e (push_mode style f t (place op)) id op g)

      op_good : RunsFrom O c (op_steps place style f c.shared x.local t id op) → LocalOp O place (push_mode style f t (place op)) c id op x
      op_good r = steps.op_good O place part t c b.sound x e (push_mode style f t (place op)) id op (subst (λ (w : List (Step Op)). RunsFrom O c w) are r)

      op_keeps : RunsFrom O c (op_steps place style f c.shared x.local t id op) → Summable O place f (after_from c (op_steps place style f c.shared x.local t id op))
      op_keeps r = subst (λ (w : List (Step Op)). Summable O place f (after_from c w)) (sym are)
          (op_kept O place part f c b t x e (push_mode style f t (place op)) id op (subst (λ (w : List (Step Op)). RunsFrom O c w) are r))

    note_holds : (t : Name) (x : Tx Op) → tx t c.opened ≡ Some x → Meets O c (Note t)
    note_holds t x e = there_is (tx t c.opened) _ x e refl

    note_open : (t : Name) → Meets O c (Note t) → OfOpen c t (λ x. Unit {0})
    note_open t m = let k = there_holds (tx t c.opened) _ m in (k.0, k.1, tt)

    good_runs : (r : RunRecord Op) → IsOfStyle style r → LocalGood style O place f c r → RunsFrom O c (expand place style f c r)
    good_runs = by_record style has (λ r. LocalGood style O place f c r → RunsFrom O c (expand place style f c r))
        (λ t p w g. (g, tt))
        (λ t id op g. to_run t (App t id op) (λ l. op_steps place style f c.shared l t id op) (LocalOp O place (push_mode style f t (place op)) c id op) (λ x e k. op_runs t id op x e k) g)
        (λ t g. to_run t (Cmt t) (λ l. commit_steps style l t) (LocalCommit style O place c) (λ x e k. commit_runs O place part f c b t x e style has k) g)
        (λ t g. to_run t (Quit t) (λ l. back t 0 l ++ Quit t ∷ []) (λ x. Unit {0}) (λ x e k. abort_runs O place part f c b t x e) g)
        (λ t g. to_run t (Note t) (λ l. Note t ∷ back t 0 l) (λ x. Unit {0}) (λ x e k. back_runs O place part f c b t x e zero) g)
        (λ t o g. to_run t (Note t) (λ l. Note t ∷ refresh place t o c.shared l) (LocalRefresh O place c o) (λ x e k. steps.note_runs O place part t c b.sound x e o k) g)
        (λ t g. (note_holds t g.0 g.1, tt))
        (λ t g. to_run t (Note t) (λ l. Note t ∷ pushall t l) (LocalPushes O place c) (λ x e k. (note_holds t x e, steps.pushes_run O place part t c b.sound x e k)) g)
        (λ t g. to_run t (Note t) (λ l. Note t ∷ back t (mark_of (f.section t)) l) (λ x. Unit {0}) (λ x e k. back_runs O place part f c b t x e (mark_of (f.section t))) g)

    runs_good : (r : RunRecord Op) → IsOfStyle style r → RunsFrom O c (expand place style f c r) → LocalGood style O place f c r
    runs_good = by_record style has (λ r. RunsFrom O c (expand place style f c r) → LocalGood style O place f c r)
        (λ t p w h. h.0)
        (λ t id op h. of_run t (App t id op) (λ l. op_steps place style f c.shared l t id op) (LocalOp O place (push_mode style f t (place op)) c id op) (λ e m. not_open (tx t c.opened) _ e m) (λ x e r. op_good t id op x e r) h)
        (λ t h. of_run t (Cmt t) (λ l. commit_steps style l t) (LocalCommit style O place c) (λ e m. not_open (tx t c.opened) _ e m) (λ x e r. commit_good O place part f c b t x e style has r) h)
        (λ t h. of_run t (Quit t) (λ l. back t 0 l ++ Quit t ∷ []) (λ x. Unit {0}) (λ e m. not_open (tx t c.opened) _ e m) (λ x e r. tt) h)
        (λ t h. of_run t (Note t) (λ l. Note t ∷ back t 0 l) (λ x. Unit {0}) (λ e m. not_open (tx t c.opened) _ e m) (λ x e r. tt) h)
        (λ t o h. of_run t (Note t) (λ l. Note t ∷ refresh place t o c.shared l) (LocalRefresh O place c o) (λ e m. not_open (tx t c.opened) _ e m) (λ x e r. steps.note_good O place part t c b.sound x e o r) h)
        (λ t h. note_open t h.0)
        (λ t h. of_run t (Note t) (λ l. Note t ∷ pushall t l) (LocalPushes O place c) (λ e m. not_open (tx t c.opened) _ e m) (λ x e r. steps.pushes_good O place part t c b.sound x e r.1) h)
        (λ t h. of_run t (Note t) (λ l. Note t ∷ back t (mark_of (f.section t)) l) (λ x. Unit {0}) (λ e m. not_open (tx t c.opened) _ e m) (λ x e r. tt) h)

    good_kept : (r : RunRecord Op) → IsOfStyle style r → LocalGood style O place f c r → Summable O place (front_after f c r) (after_from c (expand place style f c r))
    good_kept = by_record style has (λ r. LocalGood style O place f c r → Summable O place (front_after f c r) (after_from c (expand place style f c r)))
        (λ t p w g. begin_kept O place part f c b t p w g)
        (λ t id op g. to_keep_front t (App t id op) (λ l. op_steps place style f c.shared l t id op) g.0 g.1 (op_keeps t id op g.0 g.1 (op_runs t id op g.0 g.1 g.2)))
        (λ t g. to_keep_front t (Cmt t) (λ l. commit_steps style l t) g.0 g.1 (commit_kept O place part f c b t g.0 g.1 style has (commit_runs O place part f c b t g.0 g.1 style has g.2)))
        (λ t g. to_keep_front t (Quit t) (λ l. back t 0 l ++ Quit t ∷ []) g.0 g.1 (abort_kept O place part f c b t g.0 g.1))
        (λ t g. to_keep t (Note t) (λ l. Note t ∷ back t 0 l) (λ l. with_sources (with_section f t None) t []) g.0 g.1 (retry_kept O place part f c b t g.0 g.1))
        (λ t o g. to_keep_front t (Note t) (λ l. Note t ∷ refresh place t o c.shared l) g.0 g.1 (note_kept O place part f c b t g.0 g.1 o (steps.note_runs O place part t c b.sound g.0 g.1 o g.2)))
        (λ t g. subst (λ (w : Option (Tx Op)). Summable O place (front_of_open w f (λ l. with_section f t (opened_at (length l) (f.section t)))) c) (sym g.1) (section_kept O place part f c b t g.0 g.1))
        (λ t g. to_keep t (Note t) (λ l. Note t ∷ pushall t l) (λ l. with_section f t None) g.0 g.1 (pushall_kept O place part f c b t g.0 g.1 (note_holds t g.0 g.1, steps.pushes_run O place part t c b.sound g.0 g.1 g.2)))
        (λ t g. to_keep t (Note t) (λ l. Note t ∷ back t (mark_of (f.section t)) l) (λ l. with_section f t None) g.0 g.1 (abandon_kept O place part f c b t g.0 g.1))

  -- The local logs decide each record of the three styles.
  pub keeps : LocalLogsDecide style O place
  keeps =
      record {
        start = λ ks h k. none_open O place ks h k;
        good = λ f c r s b. (good_runs f c b r s, runs_good f c b r s);
        kept = λ f c r s b g. good_kept f c b r s g;
      }
