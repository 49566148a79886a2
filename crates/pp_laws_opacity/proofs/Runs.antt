-- Proof machinery: what is true after each prefix of an accepted run, and what a step changes.
use Rattle.std.specs.Prelude.{◌≡◌, ◌≢◌, ◌⊎◌, ◌≤◌, ◌+◌, ℕ, length, cond, List, [], ◌∷◌, ◌++◌, map, Option, None, Some}
use Rattle.std.proofs.Common.{refl, sym, ap, subst, ◌∙◌, arith, append_assoc}
use Rattle.std.proofs.lemmas.List.{append-nil, length-append, map-append}
use mathlib.Core.Logic.{inl, inr}
use Rattle.pp_model.specs.Body.{IsWord}
use Rattle.pp_model.specs.Config.{Begin, App, Unapp, Push, Unpush, Pull, Unpull, Cmt, Quit, Note}
use Rattle.pp_model.specs.Config.{CommittedTx, Config, LocalEntry, Mark, Start, Step, Tx}
use Rattle.pp_model.specs.Config.{after, after_from, but_last, first, is_own, item, last, own_items}
use Rattle.pp_model.specs.Config.{then, tx}
use Rattle.pp_model.specs.Lists.{Before, In}
use Rattle.pp_model.specs.Names.{Name}
use Rattle.pp_model.specs.Object.{Item, Object}
use Rattle.pp_model.specs.Rules.{calls, Meets, RunsFrom, StartMeets}
use Rattle.pp_model.specs.Serial.{Attempt, attempt_of, attempts, commits, committed_tx, own_of}
use Rattle.pp_model.specs.Serial.{start_attempts}
use Rattle.pp_model.specs.Sound.{Sound}
use Rattle.pp_model.proofs.Begin.{start_sound}
use Rattle.pp_model.proofs.Follow.{follow}
use Rattle.pp_model.proofs.Keeps.{step_keeps, run_keeps}
use Rattle.pp_model.proofs.Lists.{before_across, in_map, in_right}
use Rattle.pp_model.proofs.Logs.{but_last_is, found_tx, from_own}
use Rattle.pp_model.proofs.Names.{name_or_not}
use Rattle.pp_model.proofs.Steps.{last_holds, own_items-append, there_holds}
use Rattle.pp_model.proofs.Trace.{Traced, commits-append, old_attempts, own_app, own_quiet, own_unapp}
use Rattle.pp_model.proofs.Trace.{quiet_applied, quiet_dropped, subject, subject_open}
use Rattle.pp_laws_opacity.specs.Opacity.{IsPrefix}

module _ {Op State : Type 0} (O : Object Op State) where
  run_front : (c : Config Op) (p q : List (Step Op)) → RunsFrom O c (p ++ q) → RunsFrom O c p
  run_front c [] q r = tt
  run_front c (s ∷ p) q r = (r.0, run_front (then c s) p q r.1)

  run_at : (c : Config Op) (p q : List (Step Op)) (s : Step Op) → RunsFrom O c (p ++ s ∷ q) → Meets O (after_from c p) s
  run_at c [] q s r = r.0
  run_at c (a ∷ p) q s r = run_at (then c a) p q s r.1

  start_traced : (h : Option (Start Op)) → Traced O h [] (first h)
  start_traced None = record { lists = λ x i. absurd i; bodies = λ x i. absurd i; done = refl; words = λ a i. absurd i; fresh_list = λ t n. refl; fresh_bodies = λ t n. refl; drops = λ t i j. absurd j }
  start_traced (Some z) =
      record {
        lists = λ x i. absurd i;
        bodies = λ x i. absurd i;
        done = refl;
        words = λ a i. elim i [ inl e ↦ subst (λ (w : Attempt Op). IsWord w.body (calls O w.items)) (sym e) tt | inr j ↦ absurd j ];
        fresh_list = λ t n. refl;
        fresh_bodies = λ t n. refl;
        drops = λ t i j. absurd j;
      }

  run_traced : (h : Option (Start Op)) (ss past : List (Step Op)) (c : Config Op) → Sound O c → Traced O h past c → RunsFrom O c ss → Traced O h (past ++ ss) (after_from c ss)
  run_traced h [] past c s t r = subst (λ (w : List (Step Op)). Traced O h w c) (sym (append-nil past)) t
  run_traced h (a ∷ ss) past c s t r =
      subst (λ (w : List (Step Op)). Traced O h w (after_from (then c a) ss)) (append_assoc past (a ∷ []) ss)
      (run_traced h ss (past ++ a ∷ []) (then c a) (step_keeps O c a s r.0) (follow O h past c a s t r.0) r.1)

  module _ (h : Option (Start Op)) (met : StartMeets O h) where
    -- The configuration after an accepted run is sound.
    pub sound_at : (ss : List (Step Op)) → RunsFrom O (first h) ss → Sound O (after h ss)
    sound_at ss r = run_keeps O ss (first h) (start_sound O h met) r

    -- The configuration after an accepted run is what the steps say of it (`Traced`).
    pub traced_at : (ss : List (Step Op)) → RunsFrom O (first h) ss → Traced O h ss (after h ss)
    traced_at ss r = run_traced h ss [] (first h) (start_sound O h met) (start_traced h) r

    -- The first part of an accepted run is accepted.
    pub front : (p q : List (Step Op)) → RunsFrom O (first h) (p ++ q) → RunsFrom O (first h) p
    front p q r = run_front (first h) p q r

    -- Each step of an accepted run meets its criteria after the steps before it.
    pub meets_at : (p q : List (Step Op)) (s : Step Op) → RunsFrom O (first h) (p ++ s ∷ q) → Meets O (after h p) s
    meets_at p q s r = run_at (first h) p q s r

    -- A property of a prefix that each step keeps is true later.
    pub along_from : (P : List (Step Op) → Type 0)
        → ((past : List (Step Op)) (s : Step Op) → RunsFrom O (first h) (past ++ s ∷ []) → P past → P (past ++ s ∷ []))
        → (past ss : List (Step Op)) → P past → RunsFrom O (first h) (past ++ ss) → P (past ++ ss)
    along_from P f past [] p r = subst P (sym (append-nil past)) p
    along_from P f past (s ∷ ss) p r =
        let e : (past ++ s ∷ []) ++ ss ≡ past ++ s ∷ ss = append_assoc past (s ∷ []) ss in
        let q : RunsFrom O (first h) ((past ++ s ∷ []) ++ ss) = subst (λ (w : List (Step Op)). RunsFrom O (first h) w) (sym e) r in
        subst P e (along_from P f (past ++ s ∷ []) ss (f past s (front (past ++ s ∷ []) ss q) p) q)

    -- the subject of a step has not committed
    pub not_committed : (past : List (Step Op)) (s : Step Op) → RunsFrom O (first h) (past ++ s ∷ []) → (a : Attempt Op) → In a (attempts h past) → subject s ≢ a.name
    not_committed past s r a i e =
        let c = after h past in
        let p = front past (s ∷ []) r in
        let done : In (committed_tx a) c.done = subst (λ (w : List (CommittedTx Op)). In (committed_tx a) w) (sym (traced_at past p).done) (in_map committed_tx a (attempts h past) i) in
        let sound = sound_at past p in
        elim (subject_open O c s (meets_at past [] s r)) [
          | inl n ↦ n (subst (λ (w : Name). In w c.names) (sym e) (sound.done_known (committed_tx a) done))
          | inr x ↦ sound.apart x.0 (committed_tx a) x.1 done (x.2 ∙ e)
        ]

    -- a step adds the attempt that it commits
    pub attempts_step : (past : List (Step Op)) (s : Step Op) → RunsFrom O (first h) (past ++ s ∷ [])
        → attempts h (past ++ s ∷ []) ≡ attempts h past ++ map (attempt_of (past ++ s ∷ [])) (commits (s ∷ []))
    attempts_step past s r =
        let new = attempt_of (past ++ s ∷ []) in
        let old : map new (commits past) ≡ map (attempt_of past) (commits past) = old_attempts past s (λ t i. not_committed past s r (attempt_of past t)
        (in_right (attempt_of past t) (start_attempts h) (map (attempt_of past) (commits past)) (in_map (attempt_of past) t (commits past) i))) in
        ap (λ (w : List Name). start_attempts h ++ map new w) (commits-append past (s ∷ []))
        ∙ ap (λ (w : List (Attempt Op)). start_attempts h ++ w) (map-append new (commits past) (commits (s ∷ [])))
        ∙ ap (λ (w : List (Attempt Op)). start_attempts h ++ (w ++ map new (commits (s ∷ [])))) old
        ∙ sym (append_assoc (start_attempts h) (map (attempt_of past) (commits past)) (map new (commits (s ∷ []))))

    -- the attempts that are committed are first later
    pub attempts_more : (past ss : List (Step Op)) → RunsFrom O (first h) (past ++ ss) → (more : List (Attempt Op)) × (attempts h (past ++ ss) ≡ attempts h past ++ more)
    attempts_more past ss r = along_from (λ w. (more : List (Attempt Op)) × (attempts h w ≡ attempts h past ++ more))
        (λ p s q k.
        let one = map (attempt_of (p ++ s ∷ [])) (commits (s ∷ [])) in
        (k.0 ++ one, attempts_step p s q ∙ ap (λ (w : List (Attempt Op)). w ++ one) k.1 ∙ append_assoc (attempts h past) k.0 one))
        past ss ([], sym (append-nil (attempts h past))) r

    -- the attempts of a prefix
    pub attempts_within : (early past : List (Step Op)) → RunsFrom O (first h) past → IsPrefix early past → (more : List (Attempt Op)) × (attempts h past ≡ attempts h early ++ more)
    attempts_within early past r b =
        let m = attempts_more early b.0 (subst (λ (w : List (Step Op)). RunsFrom O (first h) w) b.1 r) in
        (m.0, ap (λ (w : List (Step Op)). attempts h w) b.1 ∙ m.1)

    -- A prefix of an accepted run has at most as many attempts as the run.
    pub fewer_before : (early past : List (Step Op)) → RunsFrom O (first h) past → IsPrefix early past → length (attempts h early) ≤ length (attempts h past)
    fewer_before early past r b =
        let m = attempts_within early past r b in
        let e : length (attempts h past) ≡ length (attempts h early) + length m.0 = ap (λ (w : List (Attempt Op)). length w) m.1 ∙ length-append (attempts h early) m.0 in
        omega (arith, e)

    -- t's own list after a step: as it was, one more by an APP, or one fewer by an UNAPP
    abbrev pub OwnStep : Name → List (Step Op) → Step Op → Type 0
    OwnStep t past s =
        (own_of t (past ++ s ∷ []) ≡ own_of t past)
        ⊎ ((id : ℕ) × (op : Op) × (s ≡ App t id op) × (own_of t (past ++ s ∷ []) ≡ own_of t past ++ record { id = id; op = op } ∷ []))
        ⊎ ((id : ℕ) × (p : Item Op) × (s ≡ Unapp t id) × (own_of t past ≡ own_of t (past ++ s ∷ []) ++ p ∷ []))

    -- An UNAPP of an accepted run removes the last item of an own list.
    pub own_undone : (t : Name) (past : List (Step Op)) (id : ℕ) → RunsFrom O (first h) (past ++ Unapp t id ∷ [])
        → (p : Item Op) × (own_of t past ≡ own_of t (past ++ Unapp t id ∷ []) ++ p ∷ [])
    own_undone t past id run =
        let c = after h past in
        let before = front past (Unapp t id ∷ []) run in
        let s = sound_at past before in
        let r = traced_at past before in
        let q = there_holds (tx t c.opened) _ (meets_at past [] (Unapp t id) run) in
        let x : Tx Op = q.0 in
        let g = found_tx t c.opened x q.1 in
        let k = last_holds id (last x.local) q.2.0 in
        let e : LocalEntry Op = k.0 in
        let is : x.local ≡ but_last x.local ++ e ∷ [] = but_last_is e x.local k.1 in
        let ow : own_items x.local ≡ own_items (but_last x.local) ++ item e ∷ [] =
        ap (λ (w : List (LocalEntry Op)). own_items w) is ∙ own_items-append (but_last x.local) (e ∷ []) ∙ ap (λ (w : Mark). own_items (but_last x.local) ++ map item (cond (is_own w) (e ∷ []) [])) k.3 in
        let apart : (p : Item Op) → In p (own_items (but_last x.local)) → p.id ≢ id = λ p i z.
        let m = from_own (but_last x.local) p i in
        s.local_ids x g.0 m.0 e (subst (λ (w : List (LocalEntry Op)). Before m.0 e w) (sym is) (before_across m.0 e (but_last x.local) (e ∷ []) m.1 (inl refl))) (ap (λ (w : Item Op). w.id) (sym m.3) ∙ z ∙ sym k.2) in
        let list : own_of t past ≡ own_items (but_last x.local) ++ item e ∷ [] = ap (λ (w : Name). own_of w past) (sym g.1) ∙ sym (r.lists x g.0) ∙ ow in
        let less : own_of t (past ++ Unapp t id ∷ []) ≡ own_items (but_last x.local) = own_unapp t id past (own_items (but_last x.local)) (item e) list k.2 apart in
        (item e, list ∙ ap (λ (w : List (Item Op)). w ++ item e ∷ []) (sym less))

    -- A step leaves an own list as it was, or adds one item, or removes the last one.
    pub own_step : (t : Name) (past : List (Step Op)) (s : Step Op) → RunsFrom O (first h) (past ++ s ∷ []) → OwnStep t past s
    own_step t past (App u id op) run = elim (name_or_not u t) [
      | inl n ↦
          let q = there_holds (tx u (after h past).opened) _ (meets_at past [] (App u id op) run) in
          let r = traced_at past (front past (App u id op ∷ []) run) in
          inr (inl (
            id,
            op,
            ap (λ (w : Name). App w id op) n,
            ap (λ (w : Name). own_of t (past ++ App w id op ∷ [])) n ∙ own_app t id op past (λ i. q.2.0 (r.drops t id i)),
          ))
      | inr n ↦ inl (own_quiet t past (App u id op) (quiet_applied t (App u id op) n) refl)
    ]
    own_step t past (Unapp u id) run = elim (name_or_not u t) [
      | inl n ↦
          let is : ◌≡◌ {A = Step Op} (Unapp u id) (Unapp t id) = ap (λ (w : Name). Unapp w id) n in
          let r = own_undone t past id (subst (λ (w : Step Op). RunsFrom O (first h) (past ++ w ∷ [])) is run) in
          inr (inr (id, r.0, is, r.1 ∙ ap (λ (w : Step Op). own_of t (past ++ w ∷ []) ++ (r.0) ∷ []) (sym is)))
      | inr n ↦ inl (own_quiet t past (Unapp u id) refl (quiet_dropped {Op = Op} t (Unapp u id) n))
    ]
    own_step t past (Begin u v b) run = inl (own_quiet t past (Begin u v b) refl refl)
    own_step t past (Push u id) run = inl (own_quiet t past (Push u id) refl refl)
    own_step t past (Unpush u id) run = inl (own_quiet t past (Unpush u id) refl refl)
    own_step t past (Pull u id) run = inl (own_quiet t past (Pull u id) refl refl)
    own_step t past (Unpull u id) run = inl (own_quiet t past (Unpull u id) refl refl)
    own_step t past (Cmt u) run = inl (own_quiet t past (Cmt u) refl refl)
    own_step t past (Quit u) run = inl (own_quiet t past (Quit u) refl refl)
    own_step t past (Note u) run = inl (own_quiet t past (Note u) refl refl)
