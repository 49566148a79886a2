-- A commit and a begin: when their steps hold, and what they keep.
use Rattle.std.specs.Prelude.{◌≡◌, ◌≤◌, ℕ, Bool, true, false, cond, List, [], ◌∷◌, ◌++◌, map, take, length, Option, Some, None}
use Rattle.std.proofs.Common.{refl, sym, ap, subst, ◌∙◌}
use Rattle.std.proofs.lemmas.List.{append-nil}
use mathlib.Core.Logic.{inr}
use Rattle.pp_core.specs.declared.call.Style.{Style}
use Rattle.pp_core.specs.declared.call.Style.TheVariants.{Rules, Boosted, Optimistic, Hardware, Dependent}
use Rattle.pp_model.specs.Body.{Tree, IsWord}
use Rattle.pp_model.specs.Lists.{In}
use Rattle.pp_model.specs.Names.{Name, ◌=ⁿ◌}
use Rattle.pp_model.specs.Object.{Object, Item}
use Rattle.pp_model.specs.Config.{Mark, Unpushed, Pushed, Pulled, is_own, is_mark, LocalEntry, SharedEntry, Tx, Config, Begin, Cmt, item, as_shared, own_items, tx, commit_effect, commit_all, then, relog, without_tx, after_from}
use Rattle.pp_model.specs.Rules.{Meets, RunsFrom, calls}
use Rattle.pp_model.specs.Sound.{Sound}
use Rattle.pp_model.proofs.Lists.{in_left, in_map, from_map}
use Rattle.pp_model.proofs.Logs.{found_tx}
use Rattle.pp_model.proofs.Alone.{there_is}
use Rattle.pp_model.proofs.Begin.{each_added}
use Rattle.pp_model.proofs.Commit.{commit}
use Rattle.pp_model.proofs.Keeps.{step_keeps, run_keeps}
use Rattle.pp_records.specs.Expansions.{pushall, commit_steps}
use Rattle.pp_records.specs.Fronts.{Front}
use Rattle.pp_records.proofs.Ends.{after_append, runs_append, runs_front, runs_back}
use Rattle.pp_records.proofs.Taking.{tx_on}
use Rattle.pp_laws_summary.specs.Places.{PlacesPart}
use Rattle.pp_laws_summary.specs.LocalLogs.{HasSummary, Summable, HasSnapshots, as_pushed, posted, unpushed, LocalPushes, LocalCommit}
use Rattle.pp_laws_summary.proofs.Lookups.{there_of}
use Rattle.pp_laws_summary.proofs.Relog.{without_on, filter_none}
use Rattle.pp_laws_summary.proofs.Pushes.{led}
use Rattle.pp_laws_summary.proofs.Pushed.{own_pushed, was_own, was_pulled}
use Rattle.pp_laws_summary.proofs.Steps as steps
use Rattle.pp_laws_summary.proofs.Snapshots.{no_snapshots, more_snapshots}
use Rattle.pp_laws_summary.proofs.Keeps.{kept_without}

module _ {Op State : Type 0} (O : Object Op State) (place : Op → ℕ) (part : PlacesPart O place) (f : Front) (c : Config Op) (b : Summable O place f c) where
  -- a begin
  pub begin_kept : (t p : Name) (w : Option Tree) → Meets O c (Begin t p w) → Summable O place f (after_from c (Begin t p w ∷ []))
  begin_kept t p w h =
      let y : Tx Op = record { name = t; thread = p; body = w; local = [] } in
      record {
        sound = step_keeps O c (Begin t p w) b.sound h;
        pulls_committed = each_added c.opened y (λ (z : Tx Op). (e : LocalEntry Op) → In e z.local → e.mark ≡ Pulled → In (as_shared e.owner true (item e)) c.shared) b.pulls_committed (λ e i. absurd i);
        snapshots = each_added c.opened y (λ (z : Tx Op). HasSnapshots O place c.done z.local) b.snapshots (no_snapshots O place c.done);
        sections = each_added c.opened y (λ (z : Tx Op). (m : ℕ) → f.section z.name ≡ Some m → (m ≤ length z.local) × HasSnapshots O place c.done (take m z.local)) b.sections
            (λ m e. absurd (let z : None ≡ Some m = sym (b.fresh t h.0) ∙ e in cc));
        fresh = λ u n. b.fresh u (λ i. n (inr i));
      }

  module _ (t : Name) (x : Tx Op) (lookup : tx t c.opened ≡ Some x) where
    ix : In x c.opened
    ix = (found_tx t c.opened x lookup).0

    -- The configuration after a commit.
    abbrev pub committed : Config Op
    committed = record c {
      opened = without_tx t c.opened;
      shared = commit_all t (c.shared ++ posted t (unpushed x.local));
      done = c.done ++ record { name = t; entries = own_items x.local } ∷ [];
    }

    -- A pulled entry is committed in G.
    pub stand_done : (e : LocalEntry Op) → In e x.local → e.mark ≡ Pulled → (g : SharedEntry Op) × In g c.shared × (g.id ≡ e.id) × (g.committed ≡ true)
    stand_done e i m = (as_shared e.owner true (item e), b.pulls_committed x ix e i m, refl, refl)

    -- all pushed before
    alone_holds : IsWord x.body (calls O (own_items x.local)) → ((e : LocalEntry Op) → In e x.local → is_own e.mark ≡ true → e.mark ≡ Pushed) → Meets O c (Cmt t)
    alone_holds w p = there_is (tx t c.opened) _ x lookup (w, (p, ((λ e i m. stand_done e i m), refl)))

    alone_good : Meets O c (Cmt t) → LocalCommit Boosted O place c x
    alone_good m = let k = there_of (tx t c.opened) _ x lookup m in record { word = k.0; pushed = k.1.0 }

    none_unpushed : ((e : LocalEntry Op) → In e x.local → is_own e.mark ≡ true → e.mark ≡ Pushed) → unpushed x.local ≡ []
    none_unpushed p = filter_none (λ (e : LocalEntry Op). is_mark e.mark Unpushed) x.local (λ e i. by e.mark (p e i))
      where
        by : (m : Mark) → (is_own m ≡ true → m ≡ Pushed) → is_mark m Unpushed ≡ false
        by Unpushed q = absurd (let z : Unpushed ≡ Pushed = q refl in cc)
        by Pushed q = refl
        by Pulled q = refl

    alone_leads : Meets O c (Cmt t) → (then) c (Cmt t) ≡ committed
    alone_leads m =
        let k = there_of (tx t c.opened) _ x lookup m in
        ap (λ (w : Option (Tx Op)). commit_effect c t w) lookup
        ∙ ap (λ (w : List (SharedEntry Op)). record c { opened = without_tx t c.opened; shared = commit_all t w; done = c.done ++ record { name = t; entries = own_items x.local } ∷ [] })
        (sym (append-nil c.shared) ∙ ap (λ (w : List (LocalEntry Op)). c.shared ++ posted t w) (sym (none_unpushed k.1.0)))

    -- pushed now
    abbrev pub c1 : Config Op
    c1 = led O t c (map as_pushed x.local) (posted t (unpushed x.local))

    -- the transaction after them
    abbrev pub x1 : Tx Op
    x1 = relog (λ l. map as_pushed x.local) x

    -- The transaction is found then.
    pub l1 : tx t c1.opened ≡ Some x1
    l1 = tx_on t (λ l. map as_pushed x.local) c.opened x lookup

    -- Its own entries are pushed then.
    pub late_pushed : (e : LocalEntry Op) → In e (map as_pushed x.local) → is_own e.mark ≡ true → e.mark ≡ Pushed
    late_pushed e i o =
        let r = from_map as_pushed e x.local i in
        ap (λ (w : LocalEntry Op). w.mark) r.2 ∙ was_own r.0 (r.0).mark refl (ap (λ (w : LocalEntry Op). is_own w.mark) (sym r.2) ∙ o)

    -- An entry that the transaction pulled is committed.
    pub late_done : (e : LocalEntry Op) → In e (map as_pushed x.local) → e.mark ≡ Pulled → (g : SharedEntry Op) × In g (c.shared ++ posted t (unpushed x.local)) × (g.id ≡ e.id) × (g.committed ≡ true)
    late_done e i m =
        let r = from_map as_pushed e x.local i in
        let k = was_pulled r.0 (r.0).mark refl (ap (λ (w : LocalEntry Op). w.mark) (sym r.2) ∙ m) in
        let d = stand_done r.0 r.1 k.0 in
        (d.0, in_left d.0 c.shared (posted t (unpushed x.local)) d.1, d.2 ∙ ap (λ (w : LocalEntry Op). w.id) (sym (r.2 ∙ k.1)), d.3)

    late_holds : IsWord x.body (calls O (own_items x.local)) → Meets O c1 (Cmt t)
    late_holds w = there_is (tx t c1.opened) _ x1 l1 (subst (λ (w : List (Item Op)). IsWord x.body (calls O w)) (sym (own_pushed x.local)) w, (late_pushed, (late_done, refl)))

    late_word : Meets O c1 (Cmt t) → IsWord x.body (calls O (own_items x.local))
    late_word m = subst (λ (w : List (Item Op)). IsWord x.body (calls O w)) (own_pushed x.local) (there_of (tx t c1.opened) _ x1 l1 m).0

    late_leads : (then) c1 (Cmt t) ≡ committed
    late_leads = ap (λ (w : Option (Tx Op)). commit_effect c1 t w) l1
        ∙ ap (λ (w : List (Tx Op)). record c { opened = w; shared = commit_all t (c.shared ++ posted t (unpushed x.local)); done = c.done ++ record { name = t; entries = own_items (map as_pushed x.local) } ∷ [] })
        (without_on t (λ l. map as_pushed x.local) c.opened)
        ∙ ap (λ (w : List (Item Op)). record c { opened = without_tx t c.opened; shared = commit_all t (c.shared ++ posted t (unpushed x.local)); done = c.done ++ record { name = t; entries = w } ∷ [] }) (own_pushed x.local)

    late_runs : LocalPushes O place c x → IsWord x.body (calls O (own_items x.local)) → RunsFrom O c (pushall t x.local ++ Cmt t ∷ [])
    late_runs g w =
        let r = steps.pushes_run O place part t c b.sound x lookup g in
        runs_append O c (pushall t x.local) (Cmt t ∷ []) r (subst (λ (w : Config Op). RunsFrom O w (Cmt t ∷ [])) (sym (steps.pushes_lead O place part t c b.sound x lookup r)) (late_holds w, tt))

    late_pushes : RunsFrom O c (pushall t x.local ++ Cmt t ∷ []) → LocalPushes O place c x
    late_pushes r = steps.pushes_good O place part t c b.sound x lookup (runs_front O c (pushall t x.local) (Cmt t ∷ []) r)

    late_is : RunsFrom O c (pushall t x.local ++ Cmt t ∷ []) → IsWord x.body (calls O (own_items x.local))
    late_is r = late_word (subst (λ (w : Config Op). RunsFrom O w (Cmt t ∷ [])) (steps.pushes_lead O place part t c b.sound x lookup (runs_front O c (pushall t x.local) (Cmt t ∷ []) r)) (runs_back O c (pushall t x.local) (Cmt t ∷ []) r)).0

    late_after : RunsFrom O c (pushall t x.local ++ Cmt t ∷ []) → after_from c (pushall t x.local ++ Cmt t ∷ []) ≡ committed
    late_after r = after_append c (pushall t x.local) (Cmt t ∷ [])
        ∙ ap (λ (w : Config Op). (then) w (Cmt t)) (steps.pushes_lead O place part t c b.sound x lookup (runs_front O c (pushall t x.local) (Cmt t ∷ []) r)) ∙ late_leads

    -- The steps of a good commit meet their criteria.
    pub commit_runs : (style : Style) → HasSummary style → LocalCommit style O place c x → RunsFrom O c (commit_steps style x.local t)
    commit_runs Rules h g = absurd h
    commit_runs Boosted h g = (alone_holds g.word g.pushed, tt)
    commit_runs Optimistic h g = late_runs g.pushed g.word
    commit_runs Hardware h g = late_runs g.pushed g.word
    commit_runs Dependent h g = absurd h

    -- If the steps of a commit meet their criteria, it is good.
    pub commit_good : (style : Style) → HasSummary style → RunsFrom O c (commit_steps style x.local t) → LocalCommit style O place c x
    commit_good Rules h r = absurd h
    commit_good Boosted h r = alone_good r.0
    commit_good Optimistic h r = record { word = late_is r; pushed = late_pushes r }
    commit_good Hardware h r = record { word = late_is r; pushed = late_pushes r }
    commit_good Dependent h r = absurd h

    -- The steps of a commit lead to `committed`.
    pub commit_leads : (style : Style) → HasSummary style → RunsFrom O c (commit_steps style x.local t) → after_from c (commit_steps style x.local t) ≡ committed
    commit_leads Rules h r = absurd h
    commit_leads Boosted h r = alone_leads r.0
    commit_leads Optimistic h r = late_after r
    commit_leads Hardware h r = late_after r
    commit_leads Dependent h r = absurd h

    stays : (h : SharedEntry Op) → In h c.shared → h.committed ≡ true → In h (commit_all t (c.shared ++ posted t (unpushed x.local)))
    stays h i u = subst (λ (w : SharedEntry Op). In w (commit_all t (c.shared ++ posted t (unpushed x.local)))) (one (h.owner =ⁿ t))
        (in_map (commit t) h (c.shared ++ posted t (unpushed x.local)) (in_left h c.shared (posted t (unpushed x.local)) i))
      where
        one : (z : Bool) → cond z (record h { committed = true }) h ≡ h
        one true = ap (λ (z : Bool). record h { committed = z }) (sym u)
        one false = refl

    -- A commit keeps the configuration summable.
    pub commit_kept : (style : Style) → HasSummary style → RunsFrom O c (commit_steps style x.local t) → Summable O place f (after_from c (commit_steps style x.local t))
    commit_kept style h r =
        let e = commit_leads style h r in
        subst (λ (w : Config Op). Summable O place f w) (sym e)
        (kept_without O place part f c b t x lookup (commit_all t (c.shared ++ posted t (unpushed x.local))) (c.done ++ record { name = t; entries = own_items x.local } ∷ [])
        (subst (λ (w : Config Op). Sound O w) e (run_keeps O (commit_steps style x.local t) c b.sound r)) stays
        (λ l v. more_snapshots O place c.done (record { name = t; entries = own_items x.local }) l v))
