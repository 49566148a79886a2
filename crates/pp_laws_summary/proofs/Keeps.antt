-- The facts between the records of a run stay true.
use Rattle.std.specs.Prelude.{◌≡◌, ◌≢◌, ◌≤◌, ◌+◌, ℕ, zero, ◌==◌, Bool, true, false, not, cond, ◌&&◌, List, [], ◌∷◌, ◌++◌, map, filter, take, drop, length, if◌then◌else◌, Option, Some, None}
use Rattle.std.proofs.Common.{refl, sym, ap, subst, ◌∙◌, arith, append_assoc, take-append-drop, length-append}
use Rattle.std.proofs.lemmas.List.{append-nil, take-append-le}
use Rattle.std.proofs.Math.Seq.{take-length}
use mathlib.Core.Logic.{inl, inr}
use Rattle.pp_model.specs.Lists.{In, Before}
use Rattle.pp_model.specs.Names.{Name, ◌=ⁿ◌}
use Rattle.pp_model.specs.Object.{Object, Item, Swaps, ops}
use Rattle.pp_model.specs.Config.{Mark, Unpushed, Pushed, Pulled, is_mark, is_own, LocalEntry, SharedEntry, CommittedTx, Tx, Config, Quit, Note, item, as_pulled, as_shared, local_ops, tx, then, on_log, relog, without_tx, after_from}
use Rattle.pp_model.specs.Rules.{RunsFrom}
use Rattle.pp_model.specs.Serial.{has_id}
use Rattle.pp_model.specs.Sound.{Sound}
use Rattle.pp_model.proofs.Lists.{before_across, before_left, in_left, in_right, in_cases, in_map, from_map, in_filter, from_filter}
use Rattle.pp_model.proofs.Logs.{found_tx, on_each, is_mark-true}
use Rattle.pp_model.proofs.Names.{eq-names, names_tell, name_or_not}
use Rattle.pp_model.proofs.Alone.{there_is}
use Rattle.pp_model.proofs.Keeps.{run_keeps}
use Rattle.pp_records.specs.Expansions.{touches, refresh, pushall, taken_out}
use Rattle.pp_records.specs.Fronts.{Front, with_section, with_sources, opened_at, mark_of}
use Rattle.pp_records.proofs.Ends.{after_append, runs_append}
use Rattle.pp_records.proofs.Taking.{tx_on}
use Rattle.pp_laws_summary.specs.Places.{PlacesPart, ops_at}
use Rattle.pp_laws_summary.specs.Views.{missing_at, pulled_at}
use Rattle.pp_laws_summary.specs.LocalLogs.{Summable, HasSnapshots, as_pushed, posted, pushed_ids, without_ids, new_entry, new_shared, pulled_before, unpushed}
use Rattle.pp_laws_summary.proofs.Relog.{on_log-same, without_on}
use Rattle.pp_laws_summary.proofs.Pushes.{led}
use Rattle.pp_laws_summary.proofs.Pushed.{was_pulled, as_pushed_at, own_pushed}
use Rattle.pp_laws_summary.proofs.Turning.{own_ops}
use Rattle.pp_laws_summary.proofs.BackAll.{all_back, left}
use Rattle.pp_laws_summary.proofs.Steps.{from_missing}
use Rattle.pp_laws_summary.proofs.Steps as steps
use Rattle.pp_laws_summary.proofs.Snapshots.{no_snapshots, same_snapshot, grown_snapshots, refreshed_snapshots, is_pulled}
use Rattle.pp_laws_summary.proofs.Entries.{has_in}

-- the section of t is changed, or no section is
abbrev pub SameElsewhere : Name → Front → Front → Type 0
SameElsewhere t f g = (u : Name) → u ≢ t → g.section u ≡ f.section u

module _ {Op State : Type 0} (O : Object Op State) (place : Op → ℕ) (part : PlacesPart O place) (f : Front) (c : Config Op) (b : Summable O place f c) where
  module _ (t : Name) (x : Tx Op) (lookup : tx t c.opened ≡ Some x) where
    ix : In x c.opened
    ix = (found_tx t c.opened x lookup).0

    nx : x.name ≡ t
    nx = (found_tx t c.opened x lookup).1

    begun : In t c.names
    begun = subst (λ (w : Name). In w c.names) nx (b.sound.open_known x ix)

    -- the log of t is K, and G is shared, and the section of t may have changed
    pub kept_on : (g : Front) (I : List ℕ) (K : List (LocalEntry Op)) (G : List (SharedEntry Op)) → SameElsewhere t f g →
        Sound O (record c { ids = I; opened = on_log t (λ l. K) c.opened; shared = G }) →
        ((h : SharedEntry Op) → In h c.shared → h.committed ≡ true → In h G) →
        ((e : LocalEntry Op) → In e K → e.mark ≡ Pulled → In (as_shared e.owner true (item e)) G) →
        HasSnapshots O place c.done K →
        ((m : ℕ) → g.section t ≡ Some m → (m ≤ length K) × HasSnapshots O place c.done (take m K)) →
        Summable O place g (record c { ids = I; opened = on_log t (λ l. K) c.opened; shared = G })
    kept_on g I K G same s stay stand views sections =
        record {
          sound = s;
          pulls_committed = on_each t (λ l. K) c.opened (λ (w : Tx Op). (e : LocalEntry Op) → In e w.local → e.mark ≡ Pulled → In (as_shared e.owner true (item e)) G)
              (λ w i n. stand) (λ w i n e j m. stay (as_shared e.owner true (item e)) (b.pulls_committed w i e j m) refl);
          snapshots = on_each t (λ l. K) c.opened (λ (w : Tx Op). HasSnapshots O place c.done w.local) (λ w i n. views) (λ w i n. b.snapshots w i);
          sections = on_each t (λ l. K) c.opened (λ (w : Tx Op). (m : ℕ) → g.section w.name ≡ Some m → (m ≤ length w.local) × HasSnapshots O place c.done (take m w.local))
              (λ w i n m e. sections m (ap g.section (sym n) ∙ e)) (λ w i n m e. b.sections w i m (sym (same w.name n) ∙ e));
          fresh = λ u n. elim (name_or_not u t) [
            | inl e ↦ absurd (n (subst (λ (w : Name). In w c.names) (sym e) begun))
            | inr e ↦ same u e ∙ b.fresh u n
          ];
        }

    still : SameElsewhere t f f
    still u n = refl

    -- a log with more entries
    more_section : (K : List (LocalEntry Op)) (m : ℕ) → f.section t ≡ Some m → (m ≤ length (x.local ++ K)) × HasSnapshots O place c.done (take m (x.local ++ K))
    more_section K m e =
        let k = b.sections x ix m (ap f.section nx ∙ e) in
        let le : m ≤ length x.local = k.0 in
        let z : length (x.local ++ K) ≡ length x.local + length K = length-append x.local K in (
          omega arith,
          subst (λ (w : List (LocalEntry Op)). HasSnapshots O place c.done w) (sym (take-append-le m x.local K le)) k.1,
        )

    stand_more : (M : List (SharedEntry Op)) → ((g : SharedEntry Op) → In g M → In g c.shared × (g.committed ≡ true)) → (e : LocalEntry Op) → In e (x.local ++ map as_pulled M) → e.mark ≡ Pulled →
        In (as_shared e.owner true (item e)) c.shared
    stand_more M h e i m = elim (in_cases e x.local (map as_pulled M) i) [
      | inl j ↦ b.pulls_committed x ix e j m
      | inr j ↦
          let k = from_map as_pulled e M j in
          let d = h k.0 k.1 in
          subst (λ (w : LocalEntry Op). In (as_shared w.owner true (item w)) c.shared) (sym k.2)
          (subst (λ (z : Bool). In (record { id = (k.0).id; owner = (k.0).owner; committed = z; op = (k.0).op }) c.shared) d.1 d.0)
    ]

    missed : (o : ℕ) (g : SharedEntry Op) → In g (missing_at place o c.shared x.local) → In g c.shared × (g.committed ≡ true)
    missed o g i = let k = from_missing place o c.shared x.local g i in (k.0, k.1)

    -- in a sound configuration each own entry of a log swaps with the pulled ones after it
    own_past : (I : List ℕ) (K : List (LocalEntry Op)) (G : List (SharedEntry Op)) → Sound O (record c { ids = I; opened = on_log t (λ l. K) c.opened; shared = G }) →
        (a p : LocalEntry Op) → Before a p K → is_own a.mark ≡ true → p.mark ≡ Pulled → Swaps O a.op p.op
    own_past I K G s = s.own_pulled (relog (λ l. K) x) (found_tx t (on_log t (λ l. K) c.opened) (relog (λ l. K) x) (tx_on t (λ l. K) c.opened x lookup)).0

    -- refresh
    pub note_kept : (o : ℕ) → RunsFrom O c (Note t ∷ refresh place t o c.shared x.local) → Summable O place f (after_from c (Note t ∷ refresh place t o c.shared x.local))
    note_kept o r =
        let M = missing_at place o c.shared x.local in
        let e = steps.note_leads O place part t c b.sound x lookup o r in
        let s = subst (λ (w : Config Op). Sound O w) e (run_keeps O (Note t ∷ refresh place t o c.shared x.local) c b.sound r) in
        subst (λ (w : Config Op). Summable O place f w) (sym e)
        (kept_on f c.ids (x.local ++ map as_pulled M) c.shared still s
        (λ h i u. i) (stand_more M (missed o))
        (refreshed_snapshots O place c b.sound x ix (b.pulls_committed x ix) (b.snapshots x ix) o
        (λ a g i w j. own_past c.ids (x.local ++ map as_pulled M) c.shared s a (as_pulled g) (before_across a (as_pulled g) x.local (map as_pulled M) i (in_map as_pulled g M j)) w refl))
        (more_section (map as_pulled M)))

    -- operation
    module _ (mode : Option ℕ) (id : ℕ) (op : Op) where
      abbrev M : List (SharedEntry Op)
      M = pulled_before place mode (place op) c.shared x.local

      abbrev new : LocalEntry Op
      new = new_entry mode t id op

      is_owned : is_own (new_entry mode t id op).mark ≡ true
      is_owned = by mode
        where
          by : (mode : Option ℕ) → is_own (new_entry mode t id op).mark ≡ true
          by None = refl
          by (Some m) = refl

      pulled_done : (g : SharedEntry Op) → In g M → In g c.shared × (g.committed ≡ true)
      pulled_done = by mode
        where
          two : (z : Bool) (g : SharedEntry Op) → In g (cond z [] (missing_at place (place op) c.shared x.local)) → In g c.shared × (g.committed ≡ true)
          two true g i = absurd i
          two false g i = missed (place op) g i

          by : (mode : Option ℕ) (g : SharedEntry Op) → In g (pulled_before place mode (place op) c.shared x.local) → In g c.shared × (g.committed ≡ true)
          by None = missed (place op)
          by (Some m) = two (touches place (place op) (drop m x.local))

      before : ((a : LocalEntry Op) (g : SharedEntry Op) → In a x.local → is_own a.mark ≡ true → In g M → Swaps O a.op g.op) → HasSnapshots O place c.done (x.local ++ map as_pulled M)
      before = by mode
        where
          Past : List (SharedEntry Op) → Type 0
          Past N = (a : LocalEntry Op) (g : SharedEntry Op) → In a x.local → is_own a.mark ≡ true → In g N → Swaps O a.op g.op

          none : HasSnapshots O place c.done (x.local ++ [])
          none = subst (λ (w : List (LocalEntry Op)). HasSnapshots O place c.done w) (sym (append-nil x.local)) (b.snapshots x ix)

          all : Past (missing_at place (place op) c.shared x.local) → HasSnapshots O place c.done (x.local ++ map as_pulled (missing_at place (place op) c.shared x.local))
          all w = refreshed_snapshots O place c b.sound x ix (b.pulls_committed x ix) (b.snapshots x ix) (place op) w

          two : (z : Bool) → Past (cond z [] (missing_at place (place op) c.shared x.local)) → HasSnapshots O place c.done (x.local ++ map as_pulled (cond z [] (missing_at place (place op) c.shared x.local)))
          two true w = none
          two false w = all w

          by : (mode : Option ℕ) → Past (pulled_before place mode (place op) c.shared x.local) → HasSnapshots O place c.done (x.local ++ map as_pulled (pulled_before place mode (place op) c.shared x.local))
          by None w = all w
          by (Some m) w = two (touches place (place op) (drop m x.local)) w

      -- An operation keeps the configuration summable.
      pub op_kept : RunsFrom O c (steps.steps O place part t c b.sound x lookup mode id op) → Summable O place f (after_from c (steps.steps O place part t c b.sound x lookup mode id op))
      op_kept r =
          let e = steps.op_leads O place part t c b.sound x lookup mode id op r in
          let K = (x.local ++ map as_pulled M) ++ new ∷ [] in
          let s = subst (λ (w : Config Op). Sound O w) e (run_keeps O (steps.steps O place part t c b.sound x lookup mode id op) c b.sound r) in
          subst (λ (w : Config Op). Summable O place f w) (sym e)
          (kept_on f (id ∷ c.ids) K (c.shared ++ new_shared mode t id op) still s
          (λ h i u. in_left h c.shared (new_shared mode t id op) i)
          (λ a i m. elim (in_cases a (x.local ++ map as_pulled M) (new ∷ []) i) [
            | inl j ↦ in_left (as_shared a.owner true (item a)) c.shared (new_shared mode t id op) (stand_more M pulled_done a j m)
            | inr (inl j) ↦ absurd (let z : false ≡ true = sym (ap (λ (w : Mark). is_own w) m) ∙ ap (λ (w : LocalEntry Op). is_own w.mark) j ∙ is_owned in cc)
            | inr (inr j) ↦ absurd j
          ])
          (grown_snapshots O place c.done (x.local ++ map as_pulled M) new is_owned (before (λ a g i w j.
          own_past (id ∷ c.ids) K (c.shared ++ new_shared mode t id op) s a (as_pulled g) (before_left a (as_pulled g) (x.local ++ map as_pulled M) (new ∷ [])
          (before_across a (as_pulled g) x.local (map as_pulled M) i (in_map as_pulled g M j))) w refl)))
          (λ m q. subst (λ (w : List (LocalEntry Op)). (m ≤ length w) × HasSnapshots O place c.done (take m w)) (sym (append_assoc x.local (map as_pulled M) (new ∷ []))) (more_section (map as_pulled M ++ new ∷ []) m q)))

    -- taking back
    own_ids : (S : List (LocalEntry Op)) → ((e : LocalEntry Op) → In e S → In e x.local) → (g : SharedEntry Op) → In g c.shared → g.committed ≡ true → not (has_id g.id (pushed_ids S)) ≡ true
    own_ids S within g i u = by (has_id g.id (pushed_ids S)) refl
      where
        by : (z : Bool) → has_id g.id (pushed_ids S) ≡ z → not z ≡ true
        by false e = refl
        by true e =
            let k = from_map (λ (a : LocalEntry Op). a.id) g.id (filter (λ a. is_mark a.mark Pushed) S) (has_in g.id (pushed_ids S) e) in
            let d = from_filter (λ (a : LocalEntry Op). is_mark a.mark Pushed) k.0 S k.1 in
            let p = is_pulled O place c b.sound x ix (b.pulls_committed x ix) g i u k.0 (within k.0 d.0) (sym k.2) in
            absurd (let z : Pushed ≡ Pulled = sym (is_mark-true (k.0).mark Pushed d.1) ∙ p.0 in cc)

    taken_kept : (g : Front) (P S : List (LocalEntry Op)) → x.local ≡ P ++ S → SameElsewhere t f g → g.section t ≡ None → HasSnapshots O place c.done P → Summable O place g (left O t c P S)
    taken_kept g P S cut same none views =
        let k = all_back O t S P c x b.sound lookup cut in
        kept_on g c.ids P (without_ids (pushed_ids S) c.shared) same (subst (λ (w : Config Op). Sound O w) k.1 (run_keeps O (taken_out t S) c b.sound k.0)) stay
        (λ e i m. stay (as_shared e.owner true (item e)) (b.pulls_committed x ix e (subst (λ (w : List (LocalEntry Op)). In e w) (sym cut) (in_left e P S i)) m) refl)
        views (λ m e. absurd (let z : None ≡ Some m = sym none ∙ e in cc))
      where
        stay : (h : SharedEntry Op) → In h c.shared → h.committed ≡ true → In h (without_ids (pushed_ids S) c.shared)
        stay h i u = in_filter (λ (w : SharedEntry Op). not (has_id w.id (pushed_ids S))) h c.shared i
            (own_ids S (λ e j. subst (λ (w : List (LocalEntry Op)). In e w) (sym cut) (in_right e P S j)) h i u)

    -- The end of a section changes the front at its transaction alone.
    pub closed : SameElsewhere t f (with_section f t None)
    closed u n = elim (names_tell u t) [ inl r ↦ absurd (n r.1) | inr r ↦ ap (λ (z : Bool). if z then None else f.section u) r.0 ]

    -- After it the transaction has no section.
    pub closed_here : (with_section f t None).section t ≡ None
    closed_here = ap (λ (z : Bool). if z then None else f.section t) (eq-names t t refl)

    -- The steps of a return meet their criteria.
    pub back_runs : (n : ℕ) → RunsFrom O c (Note t ∷ taken_out t (drop n x.local))
    back_runs n = (there_is (tx t c.opened) _ x lookup refl, (all_back O t (drop n x.local) (take n x.local) c x b.sound lookup (sym (take-append-drop n x.local))).0)

    -- The steps of a return lead to the configuration with the first n entries of the log.
    pub back_leads : (n : ℕ) → after_from c (taken_out t (drop n x.local)) ≡ left O t c (take n x.local) (drop n x.local)
    back_leads n = (all_back O t (drop n x.local) (take n x.local) c x b.sound lookup (sym (take-append-drop n x.local))).1

    -- A retry keeps the configuration summable.
    pub retry_kept : Summable O place (with_sources (with_section f t None) t []) (after_from c (Note t ∷ taken_out t (drop zero x.local)))
    retry_kept = subst (λ (w : Config Op). Summable O place (with_sources (with_section f t None) t []) w) (sym (back_leads zero))
        (taken_kept (with_sources (with_section f t None) t []) (take zero x.local) (drop zero x.local) (sym (take-append-drop zero x.local)) closed closed_here (no_snapshots O place c.done))

    mark_views : HasSnapshots O place c.done (take (mark_of (f.section t)) x.local)
    mark_views = by (f.section t) refl
      where
        by : (o : Option ℕ) → f.section t ≡ o → HasSnapshots O place c.done (take (mark_of o) x.local)
        by None e = no_snapshots O place c.done
        by (Some m) e = (b.sections x ix m (ap f.section nx ∙ e)).1

    -- An aborted section keeps the configuration summable.
    pub abandon_kept : Summable O place (with_section f t None) (after_from c (Note t ∷ taken_out t (drop (mark_of (f.section t)) x.local)))
    abandon_kept = subst (λ (w : Config Op). Summable O place (with_section f t None) w) (sym (back_leads (mark_of (f.section t))))
        (taken_kept (with_section f t None) (take (mark_of (f.section t)) x.local) (drop (mark_of (f.section t)) x.local) (sym (take-append-drop (mark_of (f.section t)) x.local)) closed closed_here mark_views)

    -- one transaction less
    pub kept_without : (G : List (SharedEntry Op)) (D : List (CommittedTx Op)) → Sound O (record c { opened = without_tx t c.opened; shared = G; done = D }) →
        ((h : SharedEntry Op) → In h c.shared → h.committed ≡ true → In h G) → ((l : List (LocalEntry Op)) → HasSnapshots O place c.done l → HasSnapshots O place D l) →
        Summable O place f (record c { opened = without_tx t c.opened; shared = G; done = D })
    kept_without G D s stay wider =
        record {
          sound = s;
          pulls_committed = λ w i e j m. stay (as_shared e.owner true (item e)) (b.pulls_committed w (was w i) e j m) refl;
          snapshots = λ w i. wider w.local (b.snapshots w (was w i));
          sections = λ w i m e. let k = b.sections w (was w i) m e in (k.0, wider (take m w.local) k.1);
          fresh = b.fresh;
        }
      where
        was : (y : Tx Op) → In y (without_tx t c.opened) → In y c.opened
        was y i = (from_filter (λ (w : Tx Op). not (w.name =ⁿ t)) y c.opened i).0

    -- abort
    pub abort_runs : RunsFrom O c (taken_out t (drop zero x.local) ++ Quit t ∷ [])
    abort_runs = runs_append O c (taken_out t (drop zero x.local)) (Quit t ∷ []) (back_runs zero).1 (subst (λ (w : Config Op). RunsFrom O w (Quit t ∷ [])) (sym (back_leads zero))
        (there_is (tx t (left O t c [] (drop zero x.local)).opened) _ (relog (λ l. []) x) (tx_on t (λ l. []) c.opened x lookup) (refl, refl), tt))

    -- the configuration after an abort
    abbrev pub aborted : Config Op
    aborted = record c { opened = without_tx t c.opened; shared = without_ids (pushed_ids x.local) c.shared }

    -- An abort leads there.
    pub abort_leads : after_from c (taken_out t (drop zero x.local) ++ Quit t ∷ []) ≡ aborted
    abort_leads = after_append c (taken_out t (drop zero x.local)) (Quit t ∷ []) ∙ ap (λ (w : Config Op). (then) w (Quit t)) (back_leads zero)
        ∙ ap (λ (w : List (Tx Op)). record c { opened = w; shared = without_ids (pushed_ids x.local) c.shared }) (without_on t (λ l. []) c.opened)

    -- An abort keeps the configuration summable.
    pub abort_kept : Summable O place f (after_from c (taken_out t (drop zero x.local) ++ Quit t ∷ []))
    abort_kept = subst (λ (w : Config Op). Summable O place f w) (sym abort_leads)
        (kept_without (without_ids (pushed_ids x.local) c.shared) c.done
        (subst (λ (w : Config Op). Sound O w) abort_leads (run_keeps O (taken_out t (drop zero x.local) ++ Quit t ∷ []) c b.sound abort_runs))
        (λ h i u. in_filter (λ (w : SharedEntry Op). not (has_id w.id (pushed_ids x.local))) h c.shared i (own_ids x.local (λ e j. j) h i u)) (λ l v. v))

    -- pushall
    pub pushed_pulled : (o : ℕ) (l : List (LocalEntry Op)) → pulled_at place o (map as_pushed l) ≡ pulled_at place o l
    pushed_pulled o [] = refl
    pushed_pulled o (e ∷ l) = by e.mark refl (pushed_pulled o l)
      where
        at : (a e : LocalEntry Op) (k l : List (LocalEntry Op)) (n m : Mark) → a.mark ≡ n → e.mark ≡ m → is_mark n Pulled ≡ false → is_mark m Pulled ≡ false → pulled_at place o k ≡ pulled_at place o l →
            pulled_at place o (a ∷ k) ≡ pulled_at place o (e ∷ l)
        at a e k l n m an em nf mf r =
            ap (λ (z : Mark). cond (is_mark z Pulled && (place a.op == o)) (a ∷ pulled_at place o k) (pulled_at place o k)) an
            ∙ ap (λ (z : Bool). cond (z && (place a.op == o)) (a ∷ pulled_at place o k) (pulled_at place o k)) nf
            ∙ r
            ∙ sym (ap (λ (z : Mark). cond (is_mark z Pulled && (place e.op == o)) (e ∷ pulled_at place o l) (pulled_at place o l)) em
            ∙ ap (λ (z : Bool). cond (z && (place e.op == o)) (e ∷ pulled_at place o l) (pulled_at place o l)) mf)

        by : (m : Mark) → e.mark ≡ m → pulled_at place o (map as_pushed l) ≡ pulled_at place o l → pulled_at place o (as_pushed e ∷ map as_pushed l) ≡ pulled_at place o (e ∷ l)
        by Unpushed h r = at (as_pushed e) e (map as_pushed l) l Pushed Unpushed (ap (λ (w : LocalEntry Op). w.mark) (as_pushed_at e Unpushed h)) h refl refl r
        by Pushed h r = at (as_pushed e) e (map as_pushed l) l Pushed Pushed (ap (λ (w : LocalEntry Op). w.mark) (as_pushed_at e Pushed h) ∙ h) h refl refl r
        by Pulled h r = ap (λ (w : LocalEntry Op). pulled_at place o (w ∷ map as_pushed l)) (as_pushed_at e Pulled h)
            ∙ ap (λ (w : List (LocalEntry Op)). cond (is_mark e.mark Pulled && (place e.op == o)) (e ∷ w) w) r

    pushed_ops : (l : List (LocalEntry Op)) → local_ops (map as_pushed l) ≡ local_ops l
    pushed_ops [] = refl
    pushed_ops (e ∷ l) = ap (λ (a : Op). a ∷ local_ops (map as_pushed l)) (one (is_mark e.mark Unpushed)) ∙ ap (λ (w : List Op). e.op ∷ w) (pushed_ops l)
      where
        one : (b : Bool) → (cond b (record e { mark = Pushed }) e).op ≡ e.op
        one true = refl
        one false = refl

    stand_pushed : (G : List (SharedEntry Op)) → ((h : SharedEntry Op) → In h c.shared → In h G) → (e : LocalEntry Op) → In e (map as_pushed x.local) → e.mark ≡ Pulled → In (as_shared e.owner true (item e)) G
    stand_pushed G stay e i m =
        let r = from_map as_pushed e x.local i in
        let k = was_pulled r.0 (r.0).mark refl (ap (λ (w : LocalEntry Op). w.mark) (sym r.2) ∙ m) in
        stay (as_shared e.owner true (item e)) (subst (λ (w : LocalEntry Op). In (as_shared w.owner true (item w)) c.shared) (sym (r.2 ∙ k.1)) (b.pulls_committed x ix r.0 r.1 k.0))

    -- the configuration after the push of all unpushed entries
    abbrev pub all_pushed : Config Op
    all_pushed = led O t c (map as_pushed x.local) (posted t (unpushed x.local))

    -- The end of a section keeps the configuration summable.
    pub pushall_kept : RunsFrom O c (Note t ∷ pushall t x.local) → Summable O place (with_section f t None) (after_from c (Note t ∷ pushall t x.local))
    pushall_kept r =
        let e = steps.pushes_lead O place part t c b.sound x lookup r.1 in
        subst (λ (w : Config Op). Summable O place (with_section f t None) w) (sym e)
        (kept_on (with_section f t None) c.ids (map as_pushed x.local) (c.shared ++ posted t (unpushed x.local)) closed (subst (λ (w : Config Op). Sound O w) e (run_keeps O (pushall t x.local) c b.sound r.1))
        (λ h i u. in_left h c.shared (posted t (unpushed x.local)) i)
        (stand_pushed (c.shared ++ posted t (unpushed x.local)) (λ h i. in_left h c.shared (posted t (unpushed x.local)) i))
        (λ o. same_snapshot O place c.done x.local (map as_pushed x.local) o (pushed_pulled o x.local) (ap (λ (w : List Op). ops_at place o w) (pushed_ops x.local))
        (ap (λ (w : List Op). ops_at place o w) (own_ops (map as_pushed x.local) ∙ ap (λ (w : List (Item Op)). ops w) (own_pushed x.local) ∙ sym (own_ops x.local))) (b.snapshots x ix o))
        (λ m q. absurd (let z : None ≡ Some m = sym closed_here ∙ q in cc)))

    -- the section begins
    pub opened : SameElsewhere t f (with_section f t (opened_at (length x.local) (f.section t)))
    opened u n = elim (names_tell u t) [ inl r ↦ absurd (n r.1) | inr r ↦ ap (λ (z : Bool). if z then opened_at (length x.local) (f.section t) else f.section u) r.0 ]

    -- The begin of a section keeps the configuration summable.
    pub section_kept : Summable O place (with_section f t (opened_at (length x.local) (f.section t))) c
    section_kept =
        let same : on_log t (λ l. x.local) c.opened ≡ c.opened = on_log-same O c b.sound t x ix nx in
        subst (λ (w : List (Tx Op)). Summable O place (with_section f t (opened_at (length x.local) (f.section t))) (record c { opened = w })) same
        (kept_on (with_section f t (opened_at (length x.local) (f.section t))) c.ids x.local c.shared opened (subst (λ (w : List (Tx Op)). Sound O (record c { opened = w })) (sym same) b.sound) (λ h i u. i) (b.pulls_committed x ix) (b.snapshots x ix)
        (λ m e. by (f.section t) refl m (sym (ap (λ (z : Bool). if z then opened_at (length x.local) (f.section t) else f.section t) (eq-names t t refl)) ∙ e)))
      where
        by : (o : Option ℕ) → f.section t ≡ o → (m : ℕ) → opened_at (length x.local) o ≡ Some m → (m ≤ length x.local) × HasSnapshots O place c.done (take m x.local)
        by (Some n) e m k = let z : n ≡ m = cc in b.sections x ix m (ap f.section nx ∙ e ∙ ap (λ (w : ℕ). Some w) z)
        by None e m k =
            let z : length x.local ≡ m = cc in
            (omega arith, subst (λ (w : ℕ). HasSnapshots O place c.done (take w x.local)) z (subst (λ (w : List (LocalEntry Op)). HasSnapshots O place c.done w) (sym (take-length x.local)) (b.snapshots x ix)))
