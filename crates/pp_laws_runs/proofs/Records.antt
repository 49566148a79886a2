-- The steps of a record break only breakable criteria.
use Rattle.std.specs.Prelude.{◌≡◌, ◌≢◌, ◌==◌, ◌&&◌, ◌++◌, ◌∷◌, [], ℕ, Bool, true, false}
use Rattle.std.specs.Prelude.{cond, drop, filter, not, reverse, List, map, Option, None, Some}
use Rattle.std.proofs.Common.{refl, sym, ap, subst, ◌∙◌}
use Rattle.pp_core.specs.declared.call.Style.{Style}
use Rattle.pp_core.specs.declared.call.Style.TheVariants as styles
use Rattle.pp_model.specs.Body.{Tree}
use Rattle.pp_model.specs.Config.{Begin, App, Push, Unpull, Cmt, Quit, Note}
use Rattle.pp_model.specs.Config.{Config, LocalEntry, SharedEntry, Step, Tx, Unpushed, after_from}
use Rattle.pp_model.specs.Config.{Mark, Pulled, Pushed, is_mark, tx}
use Rattle.pp_model.specs.Lists.{Each, In}
use Rattle.pp_model.specs.Names.{Name}
use Rattle.pp_model.specs.Object.{Object, Swaps}
use Rattle.pp_model.specs.Sound.{Sound}
use Rattle.pp_model.proofs.Lists.{from_filter}
use Rattle.pp_model.proofs.Logs.{found_tx}
use Rattle.std.proofs.lemmas.Bool.{and_parts}
use Rattle.pp_records.specs.Expansions.{IsOfStyle, back, commit_steps, expand, hardware_op}
use Rattle.pp_records.specs.Expansions.{op_steps, pulls, pushall, refresh, refresh_unless}
use Rattle.pp_records.specs.Expansions.{is_followed, is_pulled_from, stands_in, steps_of_open, taken_at}
use Rattle.pp_records.specs.Expansions.{taken_out, touches, unpulls, where_open}
use Rattle.pp_records.specs.Effects.{missing}
use Rattle.pp_records.specs.Fronts.{Front, is_mem, mark_of}
use Rattle.pp_records.specs.Records.{RunRecord}
use Rattle.pp_records.specs.Records as records
use Rattle.pp_records.proofs.Pushing.{pushall_law}
use Rattle.pp_laws_runs.proofs.Ending.{abort_only, cmt_only, unpulls_only}
use Rattle.pp_laws_runs.proofs.Only.{OnlyBreaks, app_only, begin_only, cmt_alone, note_only, only_append}
use Rattle.pp_laws_runs.proofs.Only.{quit_alone}
use Rattle.pp_laws_runs.proofs.Pulling.{AllShared, OnlyOwnOpen, at_once_only, later_only, pulls_only}
use Rattle.pp_laws_runs.proofs.Pushing.{NoneUnpushed, pushall_only}
use Rattle.pp_laws_runs.proofs.Settled.{AllCommitted, NotPull, PulledCommitted, committed_append, no_pull}
use Rattle.pp_laws_runs.proofs.Settled.{no_pulls, pulls_committed, run_pulled}
use Rattle.pp_laws_runs.proofs.Undoing.{back_only}
use Rattle.pp_judge.proofs.Stating.{each_append}

-- ---- steps that pull nothing

taken_pull_nothing : {Op : Type 0} (t : Name) (l : List (LocalEntry Op)) → Each NotPull (taken_out t l)
taken_pull_nothing t [] = tt
taken_pull_nothing {Op} t (e ∷ l) = each_append NotPull (taken_out t l) (taken_at t e.id e.mark) (taken_pull_nothing t l) (by e.mark)
  where
    by : (m : Mark) → Each {A = Step Op} NotPull (taken_at t e.id m)
    by Pulled = (tt, tt)
    by Pushed = (tt, (tt, tt))
    by Unpushed = (tt, tt)

pushes_pull_nothing : {Op : Type 0} (t : Name) (es : List (LocalEntry Op)) → Each {A = Step Op} NotPull (map (λ e. Push t e.id) es)
pushes_pull_nothing t [] = tt
pushes_pull_nothing t (e ∷ es) = (tt, pushes_pull_nothing t es)

module _ {Op State : Type 0} (O : Object Op State) (place : Op → ℕ) where
  -- A property is proved for an open transaction and for one that is not open.
  pub open_all : (P : List (Step Op) → Type 0) (c : Config Op) (t : Name) (alone : Step Op) (steps : List (LocalEntry Op) → List (Step Op)) → (tx t c.opened ≡ None → P (alone ∷ [])) →
      ((x : Tx Op) → tx t c.opened ≡ Some x → P (steps x.local)) → P (where_open c t alone steps)
  open_all P c t alone steps a b = elim (tx t c.opened) as (λ o. tx t c.opened ≡ o → P (steps_of_open o alone steps)) [ None ↦ λ e. a e | Some x ↦ λ e. b x e ] refl

  note_alone : (style : Style) → style ≢ styles.Rules → (c : Config Op) (t : Name) → OnlyBreaks O style c (Note t ∷ [])
  note_alone style recorded c t = note_only O style recorded c t [] (λ m. tt)

  -- the operation may move before each unpushed entry of the transaction's log
  abbrev MayPass : Config Op → Name → Op → Type 0
  MayPass c t op = (x : Tx Op) → tx t c.opened ≡ Some x → (a : LocalEntry Op) → In a x.local → a.mark ≡ Unpushed → Swaps O op a.op

  -- if all of the shared log is committed, no uncommitted entry is of another transaction
  calm_own : (style : Style) (c : Config Op) (t : Name) → (style ≡ styles.Optimistic → AllShared c) → style ≡ styles.Optimistic → OnlyOwnOpen t c
  calm_own style c t calm e u i k = absurd (let z : true ≡ false = sym (calm e u i) ∙ k in cc)

  -- ---- commits

  pushed_commit : (style : Style) (c : Config Op) (t : Name) (x : Tx Op) → style ≢ styles.Rules → (style ≡ styles.Optimistic → AllShared c) → Sound O c → (style ≢ styles.Dependent → PulledCommitted c) → tx t c.opened ≡ Some x → OnlyBreaks O style c (pushall t x.local ++ Cmt t ∷ [])
  pushed_commit style c t x recorded calm s pulled h =
      only_append O style c (pushall t x.local) (Cmt t ∷ []) (pushall_only O style recorded c t x (calm_own style c t calm) s h)
      (λ r.
      let y = pushall_law O c t x h r in
      cmt_only O (after_from c (pushall t x.local)) t y.0 y.1 y.2 style recorded
      (λ n. run_pulled O c (pushall t x.local) s (pulled n) r (no_pulls c (pushall t x.local) (pushes_pull_nothing t (filter (λ e. is_mark e.mark Unpushed) x.local))) y.0 (found_tx t (after_from c (pushall t x.local)).opened y.0 y.1).0))

  commit_only : (style : Style) (c : Config Op) (t : Name) → style ≢ styles.Rules → (style ≡ styles.Optimistic → AllShared c) → Sound O c → (style ≢ styles.Dependent → PulledCommitted c) → (style ≡ styles.Boosted → (x : Tx Op) → In x c.opened → NoneUnpushed x.local) →
      OnlyBreaks O style c (where_open c t (Cmt t) (λ l. commit_steps style l t))
  commit_only style c t recorded calm s pulled none =
      open_all (λ ss. OnlyBreaks O style c ss) c t (Cmt t) (λ l. commit_steps style l t) (λ e. cmt_alone O style recorded c t e) (λ x h. by style recorded calm pulled none x h)
    where
      by : (style : Style) → style ≢ styles.Rules → (style ≡ styles.Optimistic → AllShared c) → (style ≢ styles.Dependent → PulledCommitted c) → (style ≡ styles.Boosted → (x : Tx Op) → In x c.opened → NoneUnpushed x.local) → (x : Tx Op) → tx t c.opened ≡ Some x →
          OnlyBreaks O style c (commit_steps style x.local t)
      by styles.Rules recorded calm pulled none x h = absurd (recorded refl)
      by styles.Boosted recorded calm pulled none x h =
          let there = (found_tx t c.opened x h).0 in
          cmt_only O c t x h (none refl x there) styles.Boosted recorded (λ n. pulled n x there)
      by styles.Optimistic recorded calm pulled none x h = pushed_commit styles.Optimistic c t x recorded calm s pulled h
      by styles.Hardware recorded calm pulled none x h = pushed_commit styles.Hardware c t x recorded calm s pulled h
      by styles.Dependent recorded calm pulled none x h = pushed_commit styles.Dependent c t x recorded calm s pulled h

  -- ---- operations

  -- A condition between records: an operation that is published at once may move before the unpushed entries.
  abbrev pub PassesAtOnce : Style → Front → Config Op → Type 0
  PassesAtOnce styles.Rules f c = Unit {0}
  PassesAtOnce styles.Boosted f c = (x : Tx Op) → In x c.opened → NoneUnpushed x.local
  PassesAtOnce styles.Optimistic f c = Unit {0}
  PassesAtOnce styles.Hardware f c = (x : Tx Op) → In x c.opened → (a : LocalEntry Op) → In a x.local → a.mark ≡ Unpushed → (is_mem f (place a.op) ≡ true) × (f.section x.name ≢ None)
  PassesAtOnce styles.Dependent f c = Unit {0}

  module _ (apart : (a b : Op) → place a ≢ place b → Swaps O a b) where
    op_only : (style : Style) (f : Front) (c : Config Op) (t : Name) (id : ℕ) (op : Op) → style ≢ styles.Rules → Sound O c → PassesAtOnce style f c →
        OnlyBreaks O style c (where_open c t (App t id op) (λ l. op_steps place style f c.shared l t id op))
    op_only style f c t id op recorded s passes =
        open_all (λ ss. OnlyBreaks O style c ss) c t (App t id op) (λ l. op_steps place style f c.shared l t id op) (λ e. app_only O style recorded c t id op) (λ x h. by style recorded passes x h)
      where
        in_section : (x : Tx Op) → tx t c.opened ≡ Some x → PassesAtOnce styles.Hardware f c → (memory : Bool) → is_mem f (place op) ≡ memory → (section : Option ℕ) → f.section t ≡ section →
            OnlyBreaks O styles.Hardware c (hardware_op place memory section c.shared x.local t id op)
        in_section x h passes true m (Some mark) e = later_only O styles.Hardware (λ e. cc) place (drop mark x.local) c t x id op s h
        in_section x h passes true m None e =
            at_once_only O styles.Hardware (λ e. cc) (λ n i. i) place c t x id op s h
            (λ a i k. let g = found_tx t c.opened x h in absurd ((passes x g.0 a i k).1 (ap f.section g.1 ∙ e)))
        in_section x h passes false m section e =
            at_once_only O styles.Hardware (λ e. cc) (λ n i. i) place c t x id op s h
            (λ a i k. let g = found_tx t c.opened x h in
            apart op a.op (λ z. let bad : false ≡ true = sym m ∙ ap (λ o. is_mem f o) z ∙ (passes x g.0 a i k).0 in cc))

        by : (style : Style) → style ≢ styles.Rules → PassesAtOnce style f c → (x : Tx Op) → tx t c.opened ≡ Some x → OnlyBreaks O style c (op_steps place style f c.shared x.local t id op)
        by styles.Rules recorded passes x h = absurd (recorded refl)
        by styles.Boosted recorded passes x h = at_once_only O styles.Boosted recorded (λ n i. i) place c t x id op s h (λ a i k. absurd (passes x (found_tx t c.opened x h).0 a i k))
        by styles.Optimistic recorded passes x h = later_only O styles.Optimistic recorded place x.local c t x id op s h
        by styles.Hardware recorded passes x h = in_section x h passes (is_mem f (place op)) refl (f.section t) refl
        by styles.Dependent recorded passes x h =
            let wanted : SharedEntry Op → Bool = λ g. is_followed (f.sources t) g && (place g.op == place op) in
            let first : List (Step Op) = pulls t wanted c.shared x.local in
            only_append O styles.Dependent c first (App t id op ∷ []) (pulls_only O styles.Dependent recorded c t x wanted s h) (λ r. app_only O styles.Dependent recorded (after_from c first) t id op)

  -- ---- records

  -- The facts about the logs and the pulled entries that are kept between records.
  pub only_begin : (style : Style) → style ≢ styles.Rules → (step : Step Op) → IsOfStyle style (records.Plain step) → (t p : Name) × (b : Option Tree) × (step ≡ Begin t p b)
  only_begin styles.Rules recorded step i = absurd (recorded refl)
  only_begin styles.Boosted recorded (Begin t p b) i = (t, p, b, refl)
  only_begin styles.Boosted recorded _ i = absurd i
  only_begin styles.Optimistic recorded (Begin t p b) i = (t, p, b, refl)
  only_begin styles.Optimistic recorded _ i = absurd i
  only_begin styles.Hardware recorded (Begin t p b) i = (t, p, b, refl)
  only_begin styles.Hardware recorded _ i = absurd i
  only_begin styles.Dependent recorded (Begin t p b) i = (t, p, b, refl)
  only_begin styles.Dependent recorded _ i = absurd i

  module _ (apart : (a b : Op) → place a ≢ place b → Swaps O a b) (style : Style) (recorded : style ≢ styles.Rules) (f : Front) (c : Config Op) (s : Sound O c) where
    drop_only : (t source : Name) → IsOfStyle {Op = Op} style (records.DropSource t source) → OnlyBreaks O style c (where_open c t (Note t) (λ l. Note t ∷ unpulls t source l))
    drop_only t source i = by style recorded i
      where
        by : (style : Style) → style ≢ styles.Rules → IsOfStyle {Op = Op} style (records.DropSource t source) → OnlyBreaks O style c (where_open c t (Note t) (λ l. Note t ∷ unpulls t source l))
        by styles.Rules r i = absurd (r refl)
        by styles.Boosted r i = absurd i
        by styles.Optimistic r i = absurd i
        by styles.Hardware r i = absurd i
        by styles.Dependent r i =
            open_all (λ ss. OnlyBreaks O styles.Dependent c ss) c t (Note t) (λ l. Note t ∷ unpulls t source l) (λ e. note_alone styles.Dependent r c t)
            (λ x h. note_only O styles.Dependent r c t (unpulls t source x.local) (λ m. unpulls_only O c t source x s h))

    -- A Note and then these steps.
    noted : (t : Name) (steps : List (LocalEntry Op) → List (Step Op)) → ((x : Tx Op) → tx t c.opened ≡ Some x → OnlyBreaks O style c (steps x.local)) → OnlyBreaks O style c (where_open c t (Note t) (λ l. Note t ∷ steps l))
    noted t steps k = open_all (λ ss. OnlyBreaks O style c ss) c t (Note t) (λ l. Note t ∷ steps l) (λ e. note_alone style recorded c t) (λ x h. note_only O style recorded c t (steps x.local) (λ m. k x h))

    -- The steps of a record break only breakable criteria, if what is true between records is.
    pub record_only : (style ≡ styles.Optimistic → AllShared c) → (style ≢ styles.Dependent → PulledCommitted c) → PassesAtOnce style f c → (style ≡ styles.Boosted → (x : Tx Op) → In x c.opened → NoneUnpushed x.local) → (r : RunRecord Op) → IsOfStyle style r →
        OnlyBreaks O style c (expand place style f c r)
    record_only calm pulled passes none (records.Plain step) i =
        let b = only_begin style recorded step i in
        subst (λ (w : Step Op). OnlyBreaks O style c (w ∷ [])) (sym b.3) (begin_only O style recorded c b.0 b.1 b.2)
    record_only calm pulled passes none (records.Op t id op) i = op_only apart style f c t id op recorded s passes
    record_only calm pulled passes none (records.Commit t) i = commit_only style c t recorded calm s pulled none
    record_only calm pulled passes none (records.Abort t) i =
        open_all (λ ss. OnlyBreaks O style c ss) c t (Quit t) (λ l. back t 0 l ++ Quit t ∷ []) (λ e. quit_alone O style recorded c t e) (λ x h. abort_only O style c t x s h)
    record_only calm pulled passes none (records.Retry t) i = noted t (λ l. back t 0 l) (λ x h. back_only O style c t 0 x s h)
    record_only calm pulled passes none (records.Refresh t o) i = noted t (λ l. refresh place t o c.shared l) (λ x h. pulls_only O style recorded c t x (λ g. g.committed && (place g.op == o)) s h)
    record_only calm pulled passes none (records.XBegin t) i = note_alone style recorded c t
    record_only calm pulled passes none (records.XEnd t) i = noted t (λ l. pushall t l) (λ x h. pushall_only O style recorded c t x (calm_own style c t calm) s h)
    record_only calm pulled passes none (records.XAbort t) i = noted t (λ l. back t (mark_of (f.section t)) l) (λ x h. back_only O style c t (mark_of (f.section t)) x s h)
    record_only calm pulled passes none (records.Depend t source) i = note_alone style recorded c t
    record_only calm pulled passes none (records.Publish t) i = noted t (λ l. pushall t l) (λ x h. pushall_only O style recorded c t x (calm_own style c t calm) s h)
    record_only calm pulled passes none (records.DropSource t source) i = drop_only t source i

  -- ---- the pulls of records

  unpulls_pull_nothing : (t : Name) (es : List (LocalEntry Op)) → Each {A = Step Op} NotPull (map (λ e. Unpull t e.id) es)
  unpulls_pull_nothing t [] = tt
  unpulls_pull_nothing t (e ∷ es) = (tt, unpulls_pull_nothing t es)

  pushall_pulls_nothing : (t : Name) (l : List (LocalEntry Op)) → Each NotPull (pushall t l)
  pushall_pulls_nothing t l = pushes_pull_nothing t (filter (λ e. is_mark e.mark Unpushed) l)

  module _ (style : Style) (recorded : style ≢ styles.Rules) (settled : style ≢ styles.Dependent) (f : Front) (c : Config Op) (s : Sound O c) where
    refresh_committed : (t : Name) (o : ℕ) (l : List (LocalEntry Op)) → AllCommitted c (refresh place t o c.shared l)
    refresh_committed t o l =
        let wanted = λ (g : SharedEntry Op). g.committed && (place g.op == o) in
        pulls_committed t (missing wanted c.shared l) c s.shared_ids
        (λ g i.
        let k = from_filter (λ (g : SharedEntry Op). wanted g && not (stands_in l g.id)) g c.shared i in
        (k.0, (and_parts g.committed (place g.op == o) (and_parts (wanted g) (not (stands_in l g.id)) k.1).0).0))

    unless_committed : (t : Name) (o : ℕ) (l : List (LocalEntry Op)) (seen : Bool) → AllCommitted c (cond seen [] (refresh place t o c.shared l))
    unless_committed t o l true = tt
    unless_committed t o l false = refresh_committed t o l

    op_committed : (t : Name) (id : ℕ) (op : Op) (l : List (LocalEntry Op)) → AllCommitted c (op_steps place style f c.shared l t id op)
    op_committed t id op l = by style recorded settled
      where
        last : (first : List (Step Op)) → AllCommitted c first → AllCommitted c (first ++ App t id op ∷ [])
        last first k = committed_append c first (App t id op ∷ []) k (no_pulls (after_from c first) (App t id op ∷ []) (tt, tt))

        both : (first : List (Step Op)) → AllCommitted c first → AllCommitted c (first ++ App t id op ∷ Push t id ∷ [])
        both first k = committed_append c first (App t id op ∷ Push t id ∷ []) k (no_pulls (after_from c first) (App t id op ∷ Push t id ∷ []) (tt, (tt, tt)))

        in_section : (memory : Bool) (section : Option ℕ) → AllCommitted c (hardware_op place memory section c.shared l t id op)
        in_section true (Some mark) = last (refresh_unless place t (place op) (drop mark l) c.shared l) (unless_committed t (place op) l (touches place (place op) (drop mark l)))
        in_section true None = both (refresh place t (place op) c.shared l) (refresh_committed t (place op) l)
        in_section false section = both (refresh place t (place op) c.shared l) (refresh_committed t (place op) l)

        by : (style : Style) → style ≢ styles.Rules → style ≢ styles.Dependent → AllCommitted c (op_steps place style f c.shared l t id op)
        by styles.Rules r d = absurd (r refl)
        by styles.Boosted r d = both (refresh place t (place op) c.shared l) (refresh_committed t (place op) l)
        by styles.Optimistic r d = last (refresh_unless place t (place op) l c.shared l) (unless_committed t (place op) l (touches place (place op) l))
        by styles.Hardware r d = in_section (is_mem f (place op)) (f.section t)
        by styles.Dependent r d = absurd (d refl)

    commit_committed : (t : Name) (l : List (LocalEntry Op)) → AllCommitted c (commit_steps style l t)
    commit_committed t l = by style
      where
        pushed : AllCommitted c (pushall t l ++ Cmt t ∷ [])
        pushed = no_pulls c (pushall t l ++ Cmt t ∷ []) (each_append NotPull (pushall t l) (Cmt t ∷ []) (pushall_pulls_nothing t l) (tt, tt))

        by : (style : Style) → AllCommitted c (commit_steps style l t)
        by styles.Rules = no_pulls c (Cmt t ∷ []) (tt, tt)
        by styles.Boosted = no_pulls c (Cmt t ∷ []) (tt, tt)
        by styles.Optimistic = pushed
        by styles.Hardware = pushed
        by styles.Dependent = pushed

    note_and : (t : Name) (steps : List (LocalEntry Op) → List (Step Op)) → ((l : List (LocalEntry Op)) → AllCommitted c (steps l)) → AllCommitted c (where_open c t (Note t) (λ l. Note t ∷ steps l))
    note_and t steps k = open_all (λ ss. AllCommitted c ss) c t (Note t) (λ l. Note t ∷ steps l) (λ e. no_pulls c (Note t ∷ []) (tt, tt)) (λ x h. (no_pull c (Note t) tt, k x.local))

    -- The steps of a record pull only committed entries, but in styles `rules` and `dependent`.
    pub record_committed : (r : RunRecord Op) → IsOfStyle style r → AllCommitted c (expand place style f c r)
    record_committed (records.Plain step) i =
        let b = only_begin style recorded step i in
        subst (λ (w : Step Op). AllCommitted c (w ∷ [])) (sym b.3) (no_pulls c (Begin b.0 b.1 b.2 ∷ []) (tt, tt))
    record_committed (records.Op t id op) i =
        open_all (λ ss. AllCommitted c ss) c t (App t id op) (λ l. op_steps place style f c.shared l t id op) (λ e. no_pulls c (App t id op ∷ []) (tt, tt)) (λ x h. op_committed t id op x.local)
    record_committed (records.Commit t) i = open_all (λ ss. AllCommitted c ss) c t (Cmt t) (λ l. commit_steps style l t) (λ e. no_pulls c (Cmt t ∷ []) (tt, tt)) (λ x h. commit_committed t x.local)
    record_committed (records.Abort t) i =
        open_all (λ ss. AllCommitted c ss) c t (Quit t) (λ l. back t 0 l ++ Quit t ∷ []) (λ e. no_pulls c (Quit t ∷ []) (tt, tt))
        (λ x h. no_pulls c (back t 0 x.local ++ Quit t ∷ []) (each_append NotPull (back t 0 x.local) (Quit t ∷ []) (taken_pull_nothing t (drop 0 x.local)) (tt, tt)))
    record_committed (records.Retry t) i = note_and t (λ l. back t 0 l) (λ l. no_pulls c (back t 0 l) (taken_pull_nothing t (drop 0 l)))
    record_committed (records.Refresh t o) i = note_and t (λ l. refresh place t o c.shared l) (λ l. refresh_committed t o l)
    record_committed (records.XBegin t) i = no_pulls c (Note t ∷ []) (tt, tt)
    record_committed (records.XEnd t) i = note_and t (λ l. pushall t l) (λ l. no_pulls c (pushall t l) (pushall_pulls_nothing t l))
    record_committed (records.XAbort t) i = note_and t (λ l. back t (mark_of (f.section t)) l) (λ l. no_pulls c (back t (mark_of (f.section t)) l) (taken_pull_nothing t (drop (mark_of (f.section t)) l)))
    record_committed (records.Depend t source) i = no_pulls c (Note t ∷ []) (tt, tt)
    record_committed (records.Publish t) i = note_and t (λ l. pushall t l) (λ l. no_pulls c (pushall t l) (pushall_pulls_nothing t l))
    record_committed (records.DropSource t source) i = note_and t (λ l. unpulls t source l) (λ l. no_pulls c (unpulls t source l) (unpulls_pull_nothing t (reverse (filter (is_pulled_from source) l))))
