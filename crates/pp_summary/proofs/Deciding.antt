-- A boosted record is good exactly if every step of its expansion holds, and keeps a configuration boosted.
use Rattle.std.specs.Prelude.{◌≡◌, ◌≢◌, ◌⊎◌, ℕ, true, not, List, [], ◌∷◌, ◌++◌, Option, Some, None}
use Rattle.std.proofs.Common.{refl, sym, subst, ◌∙◌}
use mathlib.Core.Logic.{inl, inr}
use Rattle.pp_model.specs.Body.{IsWord}
use Rattle.pp_model.specs.Lists.{In}
use Rattle.pp_model.specs.Names.{Name, ◌=ⁿ◌}
use Rattle.pp_model.specs.Object.{Object}
use Rattle.pp_model.specs.Config.{LocalEntry, Tx, Config, Start, Begin, App, Unapp, Push, Unpush, Pull, Unpull, Cmt, Quit, Note, own_items, tx, then, first, after_from, without_tx}
use Rattle.pp_model.specs.Rules.{FirstFalse, there, Meets, RunsFrom, StartMeets, calls}
use Rattle.pp_model.proofs.Lists.{from_filter, by_key}
use Rattle.pp_model.proofs.Logs.{found_tx}
use Rattle.pp_model.proofs.Names.{not_names}
use Rattle.pp_model.proofs.Begin.{start_sound}
use Rattle.pp_model.proofs.Alone.{there_is}
use Rattle.pp_model.proofs.Keeps.{step_keeps}
use Rattle.pp_core.specs.declared.call.Style.TheVariants as styles
use Rattle.pp_model.specs.Body.{Tree}
use Rattle.pp_records.specs.Expansions.{expand, op_at_once, steps_of_open, taken_out}
use Rattle.pp_records.specs.Fronts.{Front}
use Rattle.pp_records.specs.Records.{RunRecord}
use Rattle.pp_records.specs.Records as records
use Rattle.pp_summary.specs.Runs.{IsBoosted}
use Rattle.pp_summary.specs.Boosted.{PlacesSwap, Boosted, Anchored, Good, GoodOp, OfOpen}
use Rattle.pp_summary.specs.Laws.{KeepsBoosted}
use Rattle.pp_summary.proofs.OnOp.{as_boosted_but, op_runs, op_good, op_boosted}
use Rattle.pp_summary.proofs.OnCommit.{begin_boosted, cmt_holds, cmt_word, cmt_boosted}
use Rattle.pp_summary.proofs.Back.{Left, all_back}
use Rattle.pp_records.proofs.Ends.{after_append, runs_append}
use Rattle.pp_model.proofs.Names.{name_or_not}

-- A property of the five kinds of records of a boosted run is a property of each record of such a run.
pub by_record : {Op : Type 0} (P : RunRecord Op → Type 0) → ((t p : Name) (w : Option Tree) → P (records.Plain (Begin t p w))) →
    ((t : Name) (id : ℕ) (op : Op) → P (records.Op t id op)) → ((t : Name) → P (records.Commit t)) → ((t : Name) → P (records.Abort t)) →
    ((t : Name) → P (records.Retry t)) → (r : RunRecord Op) → IsBoosted r → P r
by_record P b o k a y (records.Plain (Begin t p w)) s = b t p w
by_record P b o k a y (records.Plain (App t id op)) s = absurd s
by_record P b o k a y (records.Plain (Unapp t id)) s = absurd s
by_record P b o k a y (records.Plain (Push t id)) s = absurd s
by_record P b o k a y (records.Plain (Unpush t id)) s = absurd s
by_record P b o k a y (records.Plain (Pull t id)) s = absurd s
by_record P b o k a y (records.Plain (Unpull t id)) s = absurd s
by_record P b o k a y (records.Plain (Cmt t)) s = absurd s
by_record P b o k a y (records.Plain (Quit t)) s = absurd s
by_record P b o k a y (records.Plain (Note t)) s = absurd s
by_record P b o k a y (records.Op t id op) s = o t id op
by_record P b o k a y (records.Commit t) s = k t
by_record P b o k a y (records.Abort t) s = a t
by_record P b o k a y (records.Retry t) s = y t
by_record P b o k a y (records.Refresh t g) s = absurd s
by_record P b o k a y (records.XBegin t) s = absurd s
by_record P b o k a y (records.XEnd t) s = absurd s
by_record P b o k a y (records.XAbort t) s = absurd s
by_record P b o k a y (records.Depend t u) s = absurd s
by_record P b o k a y (records.Publish t) s = absurd s
by_record P b o k a y (records.DropSource t u) s = absurd s

-- The configuration before the first record is boosted if the start meets its criteria.
pub none_open : {Op State : Type 0} (O : Object Op State) (place : Op → ℕ) (h : Option (Start Op)) → StartMeets O h → Boosted O place (first h)
none_open O place None h = record { sound = start_sound O None h; follows = λ x i. absurd i; anchored = λ x i. absurd i }
none_open O place (Some z) h = record { sound = start_sound O (Some z) h; follows = λ x i. absurd i; anchored = λ x i. absurd i }

not_open : {A : Type 0} (o : Option A) (F : A → List (Type 0)) → o ≡ None → FirstFalse (there o F) 0 → ⊥
not_open {A} o F e h = (subst (λ (w : Option A). FirstFalse (there w F) 0) e h).0

module _ {Op State : Type 0} (O : Object Op State) (place : Op → ℕ) (apart : PlacesSwap O place) where
  -- The QUIT of a transaction with an empty local log meets its criteria.
  quit_holds : (t : Name) (c : Config Op) → Left O place apart t [] c → Meets O c (Quit t)
  quit_holds t c h = there_is (tx t c.opened) _ h.1.0 h.1.1 (h.1.2, refl)

  quit_boosted : (t : Name) (c : Config Op) → Left O place apart t [] c → Boosted O place (then c (Quit t))
  quit_boosted t c h =
      record {
        sound = step_keeps O c (Quit t) h.0.sound (quit_holds t c h);
        follows = λ y i. h.0.follows y (of y i).0;
        anchored = λ y i. h.0.anchored y (of y i).0 (not_names y.name t (of y i).1);
      }
    where
      of : (y : Tx Op) → In y (without_tx t c.opened) → In y c.opened × (not (y.name =ⁿ t) ≡ true)
      of y i = from_filter (λ (w : Tx Op). not (w.name =ⁿ t)) y c.opened i

  empty_boosted : (t : Name) (c : Config Op) → Left O place apart t [] c → Boosted O place c
  empty_boosted t c h =
      record {
        sound = h.0.sound;
        follows = h.0.follows;
        anchored = λ y i. by y i (name_or_not y.name t);
      }
    where
      by : (y : Tx Op) → In y c.opened → (y.name ≡ t) ⊎ (y.name ≢ t) → Anchored place y.local
      by y i (inl n) =
          let x = h.1.0 in
          let f = found_tx t c.opened x h.1.1 in
          subst (λ (w : Tx Op). Anchored place w.local) (by_key (λ (w : Tx Op). w.name) c.opened h.0.sound.open_names x y f.0 i (f.1 ∙ sym n))
          (subst (λ (w : List (LocalEntry Op)). Anchored place w) (sym h.1.2) (λ p j m. absurd j))
      by y i (inr n) = h.0.anchored y i n

  module _ (c : Config Op) (b : Boosted O place c) where
    -- The steps that take a whole local log back meet their criteria, and leave it empty.
    pub whole : (t : Name) (x : Tx Op) → tx t c.opened ≡ Some x → RunsFrom O c (taken_out t x.local) × Left O place apart t [] (after_from c (taken_out t x.local))
    whole t x e = all_back O place apart t x.local [] c (as_boosted_but O place t c b, (x, e, refl))

    abort_runs : (t : Name) (x : Tx Op) → tx t c.opened ≡ Some x → RunsFrom O c (taken_out t x.local ++ Quit t ∷ [])
    abort_runs t x e = let k = whole t x e in runs_append O c (taken_out t x.local) (Quit t ∷ []) k.0 (quit_holds t (after_from c (taken_out t x.local)) k.1, tt)

    abort_boosted : (t : Name) (x : Tx Op) → tx t c.opened ≡ Some x → Boosted O place (after_from c (taken_out t x.local ++ Quit t ∷ []))
    abort_boosted t x e =
        subst (λ (w : Config Op). Boosted O place w) (sym (after_append c (taken_out t x.local) (Quit t ∷ []))) (quit_boosted t (after_from c (taken_out t x.local)) (whole t x e).1)

    retry_runs : (t : Name) (x : Tx Op) → tx t c.opened ≡ Some x → RunsFrom O c (Note t ∷ taken_out t x.local)
    retry_runs t x e = (there_is (tx t c.opened) _ x e refl, (whole t x e).0)

    good_runs : (f : Front) (r : RunRecord Op) → IsBoosted r → Good O place c r → RunsFrom O c (expand place styles.Boosted f c r)
    good_runs f = by_record (λ r. Good O place c r → RunsFrom O c (expand place styles.Boosted f c r))
        (λ t p w g. (g, tt))
        (λ t id op g. subst (λ (w : Option (Tx Op)). RunsFrom O c (steps_of_open w (App t id op) (λ l. op_at_once place c.shared l t id op))) (sym g.1) (op_runs O place apart c b t id op g.0 g.1 g.2))
        (λ t g. subst (λ (w : Option (Tx Op)). RunsFrom O c (steps_of_open w (Cmt t) (λ l. Cmt t ∷ []))) (sym g.1) (cmt_holds O place apart c b t g.0 g.1 g.2, tt))
        (λ t g. subst (λ (w : Option (Tx Op)). RunsFrom O c (steps_of_open w (Quit t) (λ l. taken_out t l ++ Quit t ∷ []))) (sym g.1) (abort_runs t g.0 g.1))
        (λ t g. subst (λ (w : Option (Tx Op)). RunsFrom O c (steps_of_open w (Note t) (λ l. Note t ∷ taken_out t l))) (sym g.1) (retry_runs t g.0 g.1))

    op_of : (t : Name) (id : ℕ) (op : Op) (o : Option (Tx Op)) → tx t c.opened ≡ o → RunsFrom O c (steps_of_open o (App t id op) (λ l. op_at_once place c.shared l t id op)) → OfOpen c t (GoodOp O place c id op)
    op_of t id op None e h = absurd (not_open (tx t c.opened) _ e h.0)
    op_of t id op (Some x) e h = (x, e, op_good O place apart c b t id op x e h)

    cmt_of : (t : Name) (o : Option (Tx Op)) → tx t c.opened ≡ o → RunsFrom O c (steps_of_open o (Cmt t) (λ l. Cmt t ∷ [])) → OfOpen c t (λ x. IsWord x.body (calls O (own_items x.local)))
    cmt_of t None e h = absurd (not_open (tx t c.opened) _ e h.0)
    cmt_of t (Some x) e h = (x, e, cmt_word O place apart c b t x e h.0)

    abort_of : (t : Name) (o : Option (Tx Op)) → tx t c.opened ≡ o → RunsFrom O c (steps_of_open o (Quit t) (λ l. taken_out t l ++ Quit t ∷ [])) → OfOpen c t (λ x. Unit {0})
    abort_of t None e h = absurd (not_open (tx t c.opened) _ e h.0)
    abort_of t (Some x) e h = (x, e, tt)

    retry_of : (t : Name) (o : Option (Tx Op)) → tx t c.opened ≡ o → RunsFrom O c (steps_of_open o (Note t) (λ l. Note t ∷ taken_out t l)) → OfOpen c t (λ x. Unit {0})
    retry_of t None e h = absurd (not_open (tx t c.opened) _ e h.0)
    retry_of t (Some x) e h = (x, e, tt)

    runs_good : (f : Front) (r : RunRecord Op) → IsBoosted r → RunsFrom O c (expand place styles.Boosted f c r) → Good O place c r
    runs_good f = by_record (λ r. RunsFrom O c (expand place styles.Boosted f c r) → Good O place c r)
        (λ t p w h. h.0)
        (λ t id op h. op_of t id op (tx t c.opened) refl h)
        (λ t h. cmt_of t (tx t c.opened) refl h)
        (λ t h. abort_of t (tx t c.opened) refl h)
        (λ t h. retry_of t (tx t c.opened) refl h)

    good_boosted : (f : Front) (r : RunRecord Op) → IsBoosted r → Good O place c r → Boosted O place (after_from c (expand place styles.Boosted f c r))
    good_boosted f = by_record (λ r. Good O place c r → Boosted O place (after_from c (expand place styles.Boosted f c r)))
        (λ t p w g. begin_boosted O place c b t p w g)
        (λ t id op g. subst (λ (w : Option (Tx Op)). Boosted O place (after_from c (steps_of_open w (App t id op) (λ l. op_at_once place c.shared l t id op)))) (sym g.1)
        (op_boosted O place apart c b t id op g.0 g.1 (op_runs O place apart c b t id op g.0 g.1 g.2)))
        (λ t g. subst (λ (w : Option (Tx Op)). Boosted O place (after_from c (steps_of_open w (Cmt t) (λ l. Cmt t ∷ [])))) (sym g.1)
        (cmt_boosted O place apart c b t g.0 g.1 (cmt_holds O place apart c b t g.0 g.1 g.2)))
        (λ t g. subst (λ (w : Option (Tx Op)). Boosted O place (after_from c (steps_of_open w (Quit t) (λ l. taken_out t l ++ Quit t ∷ [])))) (sym g.1) (abort_boosted t g.0 g.1))
        (λ t g. subst (λ (w : Option (Tx Op)). Boosted O place (after_from c (steps_of_open w (Note t) (λ l. Note t ∷ taken_out t l)))) (sym g.1)
        (empty_boosted t (after_from c (taken_out t (g.0).local)) (whole t g.0 g.1).1))

  -- A record is good exactly if its steps hold, and then it keeps a configuration boosted.
  pub quick : KeepsBoosted O place
  quick =
      record {
        start = λ h k. none_open O place h k;
        good = λ f c r s b. (good_runs c b f r s, runs_good c b f r s);
        kept = λ f c r s b g. good_boosted c b f r s g;
      }
