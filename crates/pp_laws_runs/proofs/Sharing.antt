-- In style optimistic all entries of the shared log are committed between records.
use Rattle.std.specs.Prelude.{◌≡◌, ◌⊎◌, ◌==◌, ◌&&◌, ℕ, Bool, true, false, cond, not, List, [], ◌∷◌, ◌++◌, filter}
use Rattle.std.specs.Prelude.{drop, map, Option, None, Some}
use Rattle.std.proofs.Common.{refl, sym, ap, subst, ◌∙◌}
use mathlib.Core.Logic.{inl, inr}
use Rattle.pp_core.specs.declared.call.Style.TheVariants as styles
use Rattle.pp_model.specs.Config.{Begin, App, Unapp, Push, Unpush, Pull, Unpull, Cmt, Quit, Note}
use Rattle.pp_model.specs.Config.{Config, LocalEntry, Mark, Pulled, Pushed, SharedEntry, Step, Tx}
use Rattle.pp_model.specs.Config.{Unpushed, after_from, as_shared, commit_effect, entry_of}
use Rattle.pp_model.specs.Config.{is_mark, item, of_other, pull_effect, push_effect, then, tx}
use Rattle.pp_model.specs.Lists.{Each, In}
use Rattle.pp_model.specs.Names.{Name, ◌=ⁿ◌}
use Rattle.pp_model.specs.Object.{Object}
use Rattle.pp_model.specs.Rules.{Meets, RunsFrom}
use Rattle.pp_model.proofs.Lists.{from_filter, from_map, in_cases}
use Rattle.pp_model.proofs.Names.{eq-names}
use Rattle.pp_model.proofs.Steps.{there_holds}
use Rattle.pp_records.specs.Effects.{missing}
use Rattle.pp_records.specs.Expansions.{IsOfStyle, back, expand, op_later, pushall, refresh, refresh_unless}
use Rattle.pp_records.specs.Expansions.{taken_at, taken_out, touches}
use Rattle.pp_records.specs.Fronts.{Front}
use Rattle.pp_records.specs.Records.{RunRecord}
use Rattle.pp_records.specs.Records as records
use Rattle.pp_records.proofs.Ends.{after_append, runs_back}
use Rattle.pp_laws_runs.proofs.Pulling.{AllShared}
use Rattle.pp_laws_runs.proofs.Records.{only_begin, open_all}
use Rattle.pp_judge.proofs.Stating.{each_append}

-- the step pushes nothing
abbrev NotPush : {Op : Type 0} → Step Op → Type 0
NotPush (Begin t p b) = Unit {0}
NotPush (App t id op) = Unit {0}
NotPush (Unapp t id) = Unit {0}
NotPush (Push t id) = ⊥
NotPush (Unpush t id) = Unit {0}
NotPush (Pull t id) = Unit {0}
NotPush (Unpull t id) = Unit {0}
NotPush (Cmt t) = Unit {0}
NotPush (Quit t) = Unit {0}
NotPush (Note t) = Unit {0}

-- If all of the shared log is committed, it still is after a step that pushes nothing.
shared_step : {Op : Type 0} (c : Config Op) (s : Step Op) → NotPush s → AllShared c → AllShared (then c s)
shared_step c (Begin t p b) n all = all
shared_step c (App t id op) n all = all
shared_step c (Unapp t id) n all = all
shared_step c (Push t id) n all = absurd n
shared_step {Op} c (Unpush t id) n all = λ u i. all u (from_filter (λ (g : SharedEntry Op). not (g.id == id)) u c.shared i).0
shared_step {Op} c (Pull t id) n all = by (of_other t id c.shared)
  where
    by : (o : Option (SharedEntry Op)) → AllShared (pull_effect c t id o)
    by None = all
    by (Some g) = all
shared_step c (Unpull t id) n all = all
shared_step {Op} c (Cmt t) n all = by (tx t c.opened)
  where
    marked : (g : SharedEntry Op) → g.committed ≡ true → (b : Bool) → (cond b (record g { committed = true }) g).committed ≡ true
    marked g k true = refl
    marked g k false = k

    by : (o : Option (Tx Op)) → AllShared (commit_effect c t o)
    by None = all
    by (Some x) = λ u i.
        let m = from_map (λ (g : SharedEntry Op). cond (g.owner =ⁿ t) (record g { committed = true }) g) u c.shared i in
        ap (λ (w : SharedEntry Op). w.committed) m.2 ∙ marked m.0 (all m.0 m.1) ((m.0).owner =ⁿ t)
shared_step c (Quit t) n all = all
shared_step c (Note t) n all = all

shared_after : {Op : Type 0} (ss : List (Step Op)) (c : Config Op) → Each NotPush ss → AllShared c → AllShared (after_from c ss)
shared_after [] c n all = all
shared_after (s ∷ ss) c n all = shared_after ss (then c s) n.1 (shared_step c s n.0 all)

-- ---- pushes, and the commit after them

abbrev CommittedOrOwn : {Op : Type 0} → Name → Config Op → Type 0
CommittedOrOwn {Op} t c = (u : SharedEntry Op) → In u c.shared → (u.committed ≡ true) ⊎ (u.owner ≡ t)

after_pushes : {Op : Type 0} (t : Name) (es : List (LocalEntry Op)) (c : Config Op) → CommittedOrOwn t c → CommittedOrOwn t (after_from c (map (λ e. Push t e.id) es))
after_pushes t [] c own = own
after_pushes {Op} t (e ∷ es) c own = after_pushes t es (then c (Push t e.id)) (by (entry_of e.id Unpushed (tx t c.opened)))
  where
    by : (o : Option (LocalEntry Op)) → CommittedOrOwn t (push_effect c t e.id o)
    by None = own
    by (Some d) = λ u i. elim (in_cases u c.shared (as_shared t false (item d) ∷ []) i) [
      | inl j ↦ own u j
      | inr (inl j) ↦ inr (ap (λ (w : SharedEntry Op). w.owner) j)
      | inr (inr j) ↦ absurd j
    ]

after_commit : {Op State : Type 0} (O : Object Op State) (c : Config Op) (t : Name) → Meets O c (Cmt t) → CommittedOrOwn t c → AllShared (then c (Cmt t))
after_commit {Op} O c t m own =
    let x = there_holds (tx t c.opened) _ m in
    subst (λ (d : Config Op). AllShared d) (sym (ap (λ (o : Option (Tx Op)). commit_effect c t o) x.1))
    (λ u i.
    let f = from_map (λ (g : SharedEntry Op). cond (g.owner =ⁿ t) (record g { committed = true }) g) u c.shared i in
    ap (λ (w : SharedEntry Op). w.committed) f.2 ∙ by f.0 (own f.0 f.1))
  where
    same : (g : SharedEntry Op) → g.committed ≡ true → (b : Bool) → (cond b (record g { committed = true }) g).committed ≡ true
    same g k true = refl
    same g k false = k

    by : (g : SharedEntry Op) → (g.committed ≡ true) ⊎ (g.owner ≡ t) → (cond (g.owner =ⁿ t) (record g { committed = true }) g).committed ≡ true
    by g (inl k) = same g k (g.owner =ⁿ t)
    by g (inr k) = ap (λ (b : Bool). (cond b (record g { committed = true }) g).committed) (eq-names g.owner t k)

-- ---- records

taken_push_nothing : {Op : Type 0} (t : Name) (l : List (LocalEntry Op)) → Each NotPush (taken_out t l)
taken_push_nothing t [] = tt
taken_push_nothing {Op} t (e ∷ l) = each_append NotPush (taken_out t l) (taken_at t e.id e.mark) (taken_push_nothing t l) (by e.mark)
  where
    by : (m : Mark) → Each {A = Step Op} NotPush (taken_at t e.id m)
    by Pulled = (tt, tt)
    by Pushed = (tt, (tt, tt))
    by Unpushed = (tt, tt)

pulls_push_nothing : {Op : Type 0} (t : Name) (gs : List (SharedEntry Op)) → Each {A = Step Op} NotPush (map (λ g. Pull t g.id) gs)
pulls_push_nothing t [] = tt
pulls_push_nothing t (g ∷ gs) = (tt, pulls_push_nothing t gs)

module _ {Op State : Type 0} (O : Object Op State) (place : Op → ℕ) (f : Front) (c : Config Op) (all : AllShared c) where
  abbrev Shares : List (Step Op) → Type 0
  Shares ss = RunsFrom O c ss → AllShared (after_from c ss)

  quiet : (ss : List (Step Op)) → Each NotPush ss → Shares ss
  quiet ss n r = shared_after ss c n all

  refresh_quiet : (t : Name) (o : ℕ) (l : List (LocalEntry Op)) → Each NotPush (refresh place t o c.shared l)
  refresh_quiet t o l = pulls_push_nothing t (missing (λ g. g.committed && (place g.op == o)) c.shared l)

  unless_quiet : (t : Name) (o : ℕ) (l : List (LocalEntry Op)) (seen : Bool) → Each NotPush (cond seen [] (refresh place t o c.shared l))
  unless_quiet t o l true = tt
  unless_quiet t o l false = refresh_quiet t o l

  committed : (t : Name) (l : List (LocalEntry Op)) → Shares (pushall t l ++ Cmt t ∷ [])
  committed t l r =
      let m = runs_back O c (pushall t l) (Cmt t ∷ []) r in
      subst (λ (d : Config Op). AllShared d) (sym (after_append c (pushall t l) (Cmt t ∷ [])))
      (after_commit O (after_from c (pushall t l)) t m.0 (after_pushes t (filter (λ e. is_mark e.mark Unpushed) l) c (λ u i. inl (all u i))))

  -- Records of style `optimistic` keep all entries of the shared log committed.
  pub optimistic_keeps : (r : RunRecord Op) → IsOfStyle styles.Optimistic r → Shares (expand place styles.Optimistic f c r)
  optimistic_keeps (records.Plain step) i =
      let b = only_begin O place styles.Optimistic (λ e. cc) step i in
      subst (λ (w : Step Op). Shares (w ∷ [])) (sym b.3) (quiet (Begin b.0 b.1 b.2 ∷ []) (tt, tt))
  optimistic_keeps (records.Op t id op) i =
      open_all O place Shares c t (App t id op) (λ l. op_later place l c.shared l t id op) (λ e. quiet (App t id op ∷ []) (tt, tt))
      (λ x h. quiet (op_later place x.local c.shared x.local t id op)
      (each_append NotPush (refresh_unless place t (place op) x.local c.shared x.local) (App t id op ∷ []) (unless_quiet t (place op) x.local (touches place (place op) x.local)) (tt, tt)))
  optimistic_keeps (records.Commit t) i =
      open_all O place Shares c t (Cmt t) (λ l. pushall t l ++ Cmt t ∷ []) (λ e. quiet (Cmt t ∷ []) (tt, tt)) (λ x h. committed t x.local)
  optimistic_keeps (records.Abort t) i =
      open_all O place Shares c t (Quit t) (λ l. back t 0 l ++ Quit t ∷ []) (λ e. quiet (Quit t ∷ []) (tt, tt))
      (λ x h. quiet (back t 0 x.local ++ Quit t ∷ []) (each_append NotPush (back t 0 x.local) (Quit t ∷ []) (taken_push_nothing t (drop 0 x.local)) (tt, tt)))
  optimistic_keeps (records.Retry t) i =
      open_all O place Shares c t (Note t) (λ l. Note t ∷ back t 0 l) (λ e. quiet (Note t ∷ []) (tt, tt))
      (λ x h. quiet (Note t ∷ back t 0 x.local) (tt, taken_push_nothing t (drop 0 x.local)))
  optimistic_keeps (records.Refresh t o) i =
      open_all O place Shares c t (Note t) (λ l. Note t ∷ refresh place t o c.shared l) (λ e. quiet (Note t ∷ []) (tt, tt))
      (λ x h. quiet (Note t ∷ refresh place t o c.shared x.local) (tt, refresh_quiet t o x.local))
  optimistic_keeps (records.XBegin t) i = absurd i
  optimistic_keeps (records.XEnd t) i = absurd i
  optimistic_keeps (records.XAbort t) i = absurd i
  optimistic_keeps (records.Depend t source) i = absurd i
  optimistic_keeps (records.Publish t) i = absurd i
  optimistic_keeps (records.DropSource t source) i = absurd i
