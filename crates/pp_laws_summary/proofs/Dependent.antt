-- A record of a dependent run is good exactly if each of its steps meets its criteria.
use Rattle.std.specs.Prelude.{◌≡◌, ◌≢◌, ℕ, zero, ◌==◌, Bool, true, false, not, ◌&&◌, List, [], ◌∷◌, ◌++◌, map, filter, reverse, Option, Some, None}
use Rattle.std.proofs.Common.{refl, sym, ap, subst, ◌∙◌}
use Rattle.std.proofs.lemmas.List.{reverse-append}
use Rattle.std.proofs.lemmas.Bool.{and_parts, eqb-true}
use mathlib.Core.Logic.{inl, inr}
use Rattle.pp_core.specs.declared.call.Style.TheVariants as styles
use Rattle.pp_model.specs.Body.{IsWord}
use Rattle.pp_model.specs.Lists.{In, Before}
use Rattle.pp_model.specs.Names.{Name, ◌=ⁿ◌}
use Rattle.pp_model.specs.Object.{Object, Allowed, Item}
use Rattle.pp_model.specs.Config.{Pulled, is_own, is_mark, LocalEntry, SharedEntry, Tx, Config, Step, Begin, App, Unapp, Push, Unpush, Pull, Unpull, Cmt, Quit, Note, item, as_shared, local_ops, tx, at_mark, without_local, then, relog}
use Rattle.pp_model.specs.Rules.{FirstFalse, there, Meets, RunsFrom, calls}
use Rattle.pp_model.specs.Sound.{Sound}
use Rattle.pp_model.proofs.Lists.{in_left, in_cases, in_map, from_map, in_filter, from_filter, before_cases, before_from_filter, by_key}
use Rattle.pp_model.proofs.Logs.{found_tx, is_mark-true, eqb_not}
use Rattle.pp_model.proofs.Alone.{there_is}
use Rattle.pp_model.proofs.Begin.{start_sound}
use Rattle.pp_model.proofs.Keeps.{step_keeps, run_keeps}
use Rattle.pp_model.proofs.Steps.{there_holds}
use Rattle.pp_records.specs.Expansions.{IsOfStyle, expand, steps_of_open, dependent_op, is_followed, is_pulled_from, stands_in, pushall, unpulls, taken_out, back}
use Rattle.pp_records.specs.Fronts.{Front}
use Rattle.pp_records.specs.Records.{RunRecord}
use Rattle.pp_records.specs.Records as records
use Rattle.pp_records.proofs.Ends.{runs_append, runs_front, runs_back}
use Rattle.pp_records.proofs.Taking.{tx_on}
use Rattle.pp_laws_summary.specs.Dependent.{followed_at, DependentOp, DependentCommit, Leaves, pulled_ids, DependentGood, DependentDecides}
use Rattle.pp_laws_summary.specs.LocalLogs.{OfOpen, as_pushed, posted, unpushed, LocalPushes}
use Rattle.pp_laws_summary.specs.Places.{PlacesPart}
use Rattle.pp_laws_summary.proofs.BackAll.{all_back, left}
use Rattle.pp_laws_summary.proofs.Pushed.{own_pushed, was_own, was_pulled, as_pushed_at}
use Rattle.pp_laws_summary.proofs.Entries.{is_there, was_false}
use Rattle.pp_laws_summary.proofs.Lookups.{done_by_other, mark_is, there_of}
use Rattle.pp_laws_summary.proofs.Steps as steps
use Rattle.pp_laws_summary.proofs.Pulls.{Pulling}
use Rattle.pp_laws_summary.proofs.Pushes.{led}

-- a list from its end
turned_cons : {A : Type 0} (x : A) (xs : List A) → reverse (x ∷ xs) ≡ reverse xs ++ x ∷ []
turned_cons x xs = reverse-append (x ∷ []) xs

in_turned : {A : Type 0} (x : A) (xs : List A) → In x (reverse xs) → In x xs
in_turned x [] i = i
in_turned {A} x (y ∷ xs) i = elim (in_cases x (reverse xs) (y ∷ []) (subst (λ (w : List A). In x w) (turned_cons y xs) i)) [
  | inl j ↦ inr (in_turned x xs j)
  | inr (inl j) ↦ inl j
  | inr (inr j) ↦ absurd j
]

before_turned : {A : Type 0} (x y : A) (xs : List A) → Before x y (reverse xs) → Before y x xs
before_turned x y [] i = i
before_turned {A} x y (z ∷ xs) i = elim (before_cases x y (reverse xs) (z ∷ []) (subst (λ (w : List A). Before x y w) (turned_cons z xs) i)) [
  | inl j ↦ inr (before_turned x y xs j)
  | inr (inl (inl j)) ↦ absurd j.1
  | inr (inl (inr j)) ↦ absurd j
  | inr (inr j) ↦ elim j.1 [ inl e ↦ inl (e, in_turned x xs j.0) | inr e ↦ absurd e ]
]

-- UNPULL of these entries, one after another
record Leaving {Op State : Type 0} (O : Object Op State) (t : Name) (c : Config Op) (x : Tx Op) (R : List (LocalEntry Op)) : Type 0 where
  sound : Sound O c
  lookup : tx t c.opened ≡ Some x
  here : (e : LocalEntry Op) → In e R → In e x.local × (e.mark ≡ Pulled)
  distinct : (a e : LocalEntry Op) → Before a e R → a.id ≢ e.id

module _ {Op State : Type 0} (O : Object Op State) (t : Name) where
  abbrev leaves : List (LocalEntry Op) → List (Step Op)
  leaves R = map (λ e. Unpull t e.id) R

  abbrev ids : List (LocalEntry Op) → List ℕ
  ids R = map (λ e. e.id) R

  left_out : (R : List (LocalEntry Op)) (c : Config Op) (x : Tx Op) → Leaving O t c x R → (Leaves O (ids R) x.local → RunsFrom O c (leaves R)) × (RunsFrom O c (leaves R) → Leaves O (ids R) x.local)
  left_out [] c x p = ((λ h. tt), (λ r. tt))
  left_out (e ∷ R) c x p = by_first (λ c x q. left_out R c x q)
    where
      f : In x c.opened × (x.name ≡ t)
      f = found_tx t c.opened x p.lookup

      found : at_mark e.id Pulled x.local ≡ Some e
      found = mark_is x.local (p.sound.local_ids x f.0) e.id Pulled e (p.here e (inl refl)).0 refl (p.here e (inl refl)).1

      holds : Allowed O (local_ops (without_local e.id x.local)) → Meets O c (Unpull t e.id)
      holds a = there_is (tx t c.opened) _ x p.lookup (there_is (at_mark e.id Pulled x.local) _ e found (a, refl))

      asks : Meets O c (Unpull t e.id) → Allowed O (local_ops (without_local e.id x.local))
      asks m = (there_of (at_mark e.id Pulled x.local) _ e found (there_of (tx t c.opened) _ x p.lookup m)).0

      next : Meets O c (Unpull t e.id) → Leaving O t (then c (Unpull t e.id)) (relog (without_local e.id) x) R
      next m = record {
        sound = step_keeps O c (Unpull t e.id) p.sound m;
        lookup = tx_on t (without_local e.id) c.opened x p.lookup;
        here = λ a i. (in_filter (λ (w : LocalEntry Op). not (w.id == e.id)) a x.local (p.here a (inr i)).0 (eqb_not a.id e.id (λ n. p.distinct e a (inl (refl, i)) (sym n))), (p.here a (inr i)).1);
        distinct = λ a b i. p.distinct a b (inr i);
      }

      by_first : ((c : Config Op) (x : Tx Op) → Leaving O t c x R → (Leaves O (ids R) x.local → RunsFrom O c (leaves R)) × (RunsFrom O c (leaves R) → Leaves O (ids R) x.local)) →
          (Leaves O (ids (e ∷ R)) x.local → RunsFrom O c (leaves (e ∷ R))) × (RunsFrom O c (leaves (e ∷ R)) → Leaves O (ids (e ∷ R)) x.local)
      by_first rec = (
        (λ h. let m = holds h.0 in (m, (rec (then c (Unpull t e.id)) (relog (without_local e.id) x) (next m)).0 h.1)),
        (λ r. (asks r.0, (rec (then c (Unpull t e.id)) (relog (without_local e.id) x) (next r.0)).1 r.1)),
      )

module _ {Op State : Type 0} (O : Object Op State) (place : Op → ℕ) (part : PlacesPart O place) (c : Config Op) (s : Sound O c) (t : Name) (x : Tx Op) (lookup : tx t c.opened ≡ Some x) where
  ix : In x c.opened
  ix = (found_tx t c.opened x lookup).0

  nx : x.name ≡ t
  nx = (found_tx t c.opened x lookup).1

  -- An entry that is followed is in the shared log, on the object, and not in the local log.
  from_followed : (sources : List Name) (o : ℕ) (g : SharedEntry Op) → In g (followed_at place o sources c.shared x.local) → In g c.shared × (place g.op ≡ o) × (stands_in x.local g.id ≡ false)
  from_followed sources o g i =
      let f = from_filter (λ (g : SharedEntry Op). (is_followed sources g && (place g.op == o)) && not (stands_in x.local g.id)) g c.shared i in
      let a = and_parts (is_followed sources g && (place g.op == o)) (not (stands_in x.local g.id)) f.1 in
      let b = and_parts (is_followed sources g) (place g.op == o) a.0 in
      (f.0, eqb-true (place g.op) o b.1, was_false (stands_in x.local g.id) a.1)

  not_there : (g : SharedEntry Op) → stands_in x.local g.id ≡ false → (e : LocalEntry Op) → In e x.local → e.id ≢ g.id
  not_there g h e i n = let z : true ≡ false = sym (is_there g.id x.local e i n) ∙ h in cc

  -- an entry that is not in L is not the transaction's own
  of_other : (g : SharedEntry Op) → In g c.shared → stands_in x.local g.id ≡ false → (z : Bool) → g.committed ≡ z → g.owner ≢ t
  of_other g i h true u e = done_by_other O c s x ix g i u (e ∙ sym nx)
  of_other g i h false u e =
      let r = s.uncommitted_from g i u in
      let y : r.0 ≡ x = by_key (λ (w : Tx Op). w.name) c.opened s.open_names r.0 x r.1 ix (ap (λ (w : SharedEntry Op). w.owner) (sym r.5) ∙ e ∙ sym nx) in
      not_there g h r.2 (subst (λ (w : Tx Op). In r.2 w.local) y r.3) (ap (λ (w : SharedEntry Op). w.id) (sym r.5))

  following : (sources : List Name) (o : ℕ) → Pulling O t c x (followed_at place o sources c.shared x.local)
  following sources o =
      record {
        sound = s;
        lookup = lookup;
        stand = λ g i. (from_followed sources o g i).0;
        other = λ g i. let k = from_followed sources o g i in of_other g k.0 k.2 g.committed refl;
        distinct = λ g h i. s.shared_ids g h (before_from_filter _ g h c.shared i);
        out = λ g i. not_there g (from_followed sources o g i).2;
      }

  op_runs : (sources : List Name) (id : ℕ) (op : Op) → DependentOp O place sources c id op x → RunsFrom O c (dependent_op place sources c.shared x.local t id op)
  op_runs sources id op = steps.over_runs O place part t c s x lookup (Some zero) id op (followed_at place (place op) sources c.shared x.local) (following sources (place op)) (λ g i. (from_followed sources (place op) g i).1)

  op_good : (sources : List Name) (id : ℕ) (op : Op) → RunsFrom O c (dependent_op place sources c.shared x.local t id op) → DependentOp O place sources c id op x
  op_good sources id op = steps.over_good O place part t c s x lookup (Some zero) id op (followed_at place (place op) sources c.shared x.local) (following sources (place op)) (λ g i. (from_followed sources (place op) g i).1)

  -- commit
  abbrev c1 : Config Op
  c1 = led O t c (map as_pushed x.local) (posted t (unpushed x.local))

  abbrev x1 : Tx Op
  x1 = relog (λ l. map as_pushed x.local) x

  l1 : tx t c1.opened ≡ Some x1
  l1 = tx_on t (λ l. map as_pushed x.local) c.opened x lookup

  cmt_holds : DependentCommit O place c x → Meets O c1 (Cmt t)
  cmt_holds g = there_is (tx t c1.opened) _ x1 l1 (
    subst (λ (w : List (Item Op)). IsWord x.body (calls O w)) (sym (own_pushed x.local)) g.word,
    (
      (λ e i o. let r = from_map as_pushed e x.local i in
          ap (λ (w : LocalEntry Op). w.mark) r.2 ∙ was_own r.0 (r.0).mark refl (ap (λ (w : LocalEntry Op). is_own w.mark) (sym r.2) ∙ o)),
      (
        (λ e i m. let r = from_map as_pushed e x.local i in
            let k = was_pulled r.0 (r.0).mark refl (ap (λ (w : LocalEntry Op). w.mark) (sym r.2) ∙ m) in
            let d = g.done r.0 r.1 k.0 in
            (d.0, in_left d.0 c.shared (posted t (unpushed x.local)) d.1, d.2 ∙ ap (λ (w : LocalEntry Op). w.id) (sym (r.2 ∙ k.1)), d.3)),
        refl,
      ),
    ),
  )

  commit_runs : DependentCommit O place c x → RunsFrom O c (pushall t x.local ++ Cmt t ∷ [])
  commit_runs g =
      let r = steps.pushes_run O place part t c s x lookup g.pushes in
      runs_append O c (pushall t x.local) (Cmt t ∷ []) r (subst (λ (w : Config Op). RunsFrom O w (Cmt t ∷ [])) (sym (steps.pushes_lead O place part t c s x lookup r)) (cmt_holds g, tt))

  commit_good : RunsFrom O c (pushall t x.local ++ Cmt t ∷ []) → DependentCommit O place c x
  commit_good r =
      let k = runs_front O c (pushall t x.local) (Cmt t ∷ []) r in
      let m = (subst (λ (w : Config Op). RunsFrom O w (Cmt t ∷ [])) (steps.pushes_lead O place part t c s x lookup k) (runs_back O c (pushall t x.local) (Cmt t ∷ []) r)).0 in
      let h = there_of (tx t c1.opened) _ x1 l1 m in
      record {
        word = subst (λ (w : List (Item Op)). IsWord x.body (calls O w)) (own_pushed x.local) h.0;
        pushes = steps.pushes_good O place part t c s x lookup k;
        done = λ e i n.
            let same : as_pushed e ≡ e = as_pushed_at e Pulled n in
            let d = h.1.1.0 e (subst (λ (w : LocalEntry Op). In w (map as_pushed x.local)) same (in_map as_pushed e x.local i)) n in
            elim (in_cases d.0 c.shared (posted t (unpushed x.local)) d.1) [
              | inl j ↦ (d.0, j, d.2, d.3)
              | inr j ↦
                  let q = from_map (λ (e : LocalEntry Op). as_shared t false (item e)) d.0 (unpushed x.local) j in
                  absurd (let z : true ≡ false = sym d.3 ∙ ap (λ (w : SharedEntry Op). w.committed) q.2 in cc)
            ];
      }

  -- taking back, and leaving
  back_runs : RunsFrom O c (Note t ∷ taken_out t x.local)
  back_runs = (there_is (tx t c.opened) _ x lookup refl, (all_back O t x.local [] c x s lookup refl).0)

  abort_runs : RunsFrom O c (taken_out t x.local ++ Quit t ∷ [])
  abort_runs =
      let k = all_back O t x.local [] c x s lookup refl in
      runs_append O c (taken_out t x.local) (Quit t ∷ []) k.0 (subst (λ (w : Config Op). RunsFrom O w (Quit t ∷ [])) (sym k.1)
      (there_is (tx t (left O t c [] x.local).opened) _ (relog (λ l. []) x) (tx_on t (λ l. []) c.opened x lookup) (refl, refl), tt))

  drop_leaving : (source : Name) → Leaving O t c x (reverse (filter (is_pulled_from source) x.local))
  drop_leaving source =
      record {
        sound = s;
        lookup = lookup;
        here = λ e i.
            let f = from_filter (is_pulled_from source) e x.local (in_turned e (filter (is_pulled_from source) x.local) i) in
            (f.0, is_mark-true e.mark Pulled (and_parts (is_mark e.mark Pulled) (e.owner =ⁿ source) f.1).0);
        distinct = λ a e i n. s.local_ids x ix e a (before_from_filter (is_pulled_from source) e a x.local (before_turned a e (filter (is_pulled_from source) x.local) i)) (sym n);
      }

  drop_runs : (source : Name) → Leaves O (pulled_ids source x.local) x.local → RunsFrom O c (Note t ∷ unpulls t source x.local)
  drop_runs source h = (there_is (tx t c.opened) _ x lookup refl, (left_out O t (reverse (filter (is_pulled_from source) x.local)) c x (drop_leaving source)).0 h)

  drop_good : (source : Name) → RunsFrom O c (Note t ∷ unpulls t source x.local) → Leaves O (pulled_ids source x.local) x.local
  drop_good source r = (left_out O t (reverse (filter (is_pulled_from source) x.local)) c x (drop_leaving source)).1 r.1

not_open : {A : Type 0} (o : Option A) (F : A → List (Type 0)) → o ≡ None → FirstFalse (there o F) 0 → ⊥
not_open {A} o F e h = (subst (λ (w : Option A). FirstFalse (there w F) 0) e h).0

module _ {Op State : Type 0} (O : Object Op State) (place : Op → ℕ) (part : PlacesPart O place) (f : Front) (c : Config Op) (s : Sound O c) where
  to_run : (t : Name) (alone : Step Op) (ss : List (LocalEntry Op) → List (Step Op)) (P : Tx Op → Type 0) → ((x : Tx Op) → tx t c.opened ≡ Some x → P x → RunsFrom O c (ss x.local)) →
      OfOpen c t P → RunsFrom O c (steps_of_open (tx t c.opened) alone ss)
  to_run t alone ss P k g = subst (λ (w : Option (Tx Op)). RunsFrom O c (steps_of_open w alone ss)) (sym g.1) (k g.0 g.1 g.2)

  of_run : (t : Name) (alone : Step Op) (ss : List (LocalEntry Op) → List (Step Op)) (P : Tx Op → Type 0) → (tx t c.opened ≡ None → Meets O c alone → ⊥) →
      ((x : Tx Op) → tx t c.opened ≡ Some x → RunsFrom O c (ss x.local) → P x) → RunsFrom O c (steps_of_open (tx t c.opened) alone ss) → OfOpen c t P
  of_run t alone ss P never k = by (tx t c.opened) refl
    where
      by : (o : Option (Tx Op)) → tx t c.opened ≡ o → RunsFrom O c (steps_of_open o alone ss) → OfOpen c t P
      by None e r = absurd (never e r.0)
      by (Some x) e r = (x, e, k x e r)

  note_open : (t : Name) → Meets O c (Note t) → OfOpen c t (λ x. Unit {0})
  note_open t m = let k = there_holds (tx t c.opened) _ m in (k.0, k.1, tt)

  good_runs : (r : RunRecord Op) → IsOfStyle styles.Dependent r → DependentGood O place f c r → RunsFrom O c (expand place styles.Dependent f c r)
  good_runs (records.Plain (Begin t p w)) h g = (g, tt)
  good_runs (records.Plain (App t id op)) h g = absurd h
  good_runs (records.Plain (Unapp t id)) h g = absurd h
  good_runs (records.Plain (Push t id)) h g = absurd h
  good_runs (records.Plain (Unpush t id)) h g = absurd h
  good_runs (records.Plain (Pull t id)) h g = absurd h
  good_runs (records.Plain (Unpull t id)) h g = absurd h
  good_runs (records.Plain (Cmt t)) h g = absurd h
  good_runs (records.Plain (Quit t)) h g = absurd h
  good_runs (records.Plain (Note t)) h g = absurd h
  good_runs (records.Op t id op) h g = to_run t (App t id op) (λ l. dependent_op place (f.sources t) c.shared l t id op) (DependentOp O place (f.sources t) c id op) (λ x e k. op_runs O place part c s t x e (f.sources t) id op k) g
  good_runs (records.Commit t) h g = to_run t (Cmt t) (λ l. pushall t l ++ Cmt t ∷ []) (DependentCommit O place c) (λ x e k. commit_runs O place part c s t x e k) g
  good_runs (records.Abort t) h g = to_run t (Quit t) (λ l. back t 0 l ++ Quit t ∷ []) (λ x. Unit {0}) (λ x e k. abort_runs O place part c s t x e) g
  good_runs (records.Retry t) h g = to_run t (Note t) (λ l. Note t ∷ back t 0 l) (λ x. Unit {0}) (λ x e k. back_runs O place part c s t x e) g
  good_runs (records.Refresh t o) h g = absurd h
  good_runs (records.XBegin t) h g = absurd h
  good_runs (records.XEnd t) h g = absurd h
  good_runs (records.XAbort t) h g = absurd h
  good_runs (records.Depend t u) h g = (there_is (tx t c.opened) _ g.0 g.1 refl, tt)
  good_runs (records.Publish t) h g = to_run t (Note t) (λ l. Note t ∷ pushall t l) (LocalPushes O place c) (λ x e k. (there_is (tx t c.opened) _ x e refl, steps.pushes_run O place part t c s x e k)) g
  good_runs (records.DropSource t u) h g = to_run t (Note t) (λ l. Note t ∷ unpulls t u l) (λ x. Leaves O (pulled_ids u x.local) x.local) (λ x e k. drop_runs O place part c s t x e u k) g

  runs_good : (r : RunRecord Op) → IsOfStyle styles.Dependent r → RunsFrom O c (expand place styles.Dependent f c r) → DependentGood O place f c r
  runs_good (records.Plain (Begin t p w)) h r = r.0
  runs_good (records.Plain (App t id op)) h r = absurd h
  runs_good (records.Plain (Unapp t id)) h r = absurd h
  runs_good (records.Plain (Push t id)) h r = absurd h
  runs_good (records.Plain (Unpush t id)) h r = absurd h
  runs_good (records.Plain (Pull t id)) h r = absurd h
  runs_good (records.Plain (Unpull t id)) h r = absurd h
  runs_good (records.Plain (Cmt t)) h r = absurd h
  runs_good (records.Plain (Quit t)) h r = absurd h
  runs_good (records.Plain (Note t)) h r = absurd h
  runs_good (records.Op t id op) h r = of_run t (App t id op) (λ l. dependent_op place (f.sources t) c.shared l t id op) (DependentOp O place (f.sources t) c id op) (λ e m. not_open (tx t c.opened) _ e m) (λ x e k. op_good O place part c s t x e (f.sources t) id op k) r
  runs_good (records.Commit t) h r = of_run t (Cmt t) (λ l. pushall t l ++ Cmt t ∷ []) (DependentCommit O place c) (λ e m. not_open (tx t c.opened) _ e m) (λ x e k. commit_good O place part c s t x e k) r
  runs_good (records.Abort t) h r = of_run t (Quit t) (λ l. back t 0 l ++ Quit t ∷ []) (λ x. Unit {0}) (λ e m. not_open (tx t c.opened) _ e m) (λ x e k. tt) r
  runs_good (records.Retry t) h r = of_run t (Note t) (λ l. Note t ∷ back t 0 l) (λ x. Unit {0}) (λ e m. not_open (tx t c.opened) _ e m) (λ x e k. tt) r
  runs_good (records.Refresh t o) h r = absurd h
  runs_good (records.XBegin t) h r = absurd h
  runs_good (records.XEnd t) h r = absurd h
  runs_good (records.XAbort t) h r = absurd h
  runs_good (records.Depend t u) h r = note_open t r.0
  runs_good (records.Publish t) h r = of_run t (Note t) (λ l. Note t ∷ pushall t l) (LocalPushes O place c) (λ e m. not_open (tx t c.opened) _ e m) (λ x e k. steps.pushes_good O place part t c s x e k.1) r
  runs_good (records.DropSource t u) h r = of_run t (Note t) (λ l. Note t ∷ unpulls t u l) (λ x. Leaves O (pulled_ids u x.local) x.local) (λ e m. not_open (tx t c.opened) _ e m) (λ x e k. drop_good O place part c s t x e u k) r

-- The local logs decide each record of a dependent run.
pub dependent : {Op State : Type 0} (O : Object Op State) (place : Op → ℕ) → PlacesPart O place → DependentDecides O place
dependent O place part =
    record {
      start = λ h k. start_sound O h k;
      good = λ f c r h s. (good_runs O place part f c s r h, runs_good O place part f c s r h);
      kept = λ f c r h s g. run_keeps O (expand place styles.Dependent f c r) c s (good_runs O place part f c s r h g);
    }
