-- The last entries of a log are taken back, in any sound configuration.
use Rattle.std.specs.Prelude.{◌≡◌, ◌≢◌, ◌⊎◌, ℕ, ◌==◌, Bool, true, false, not, cond, ◌&&◌, ◌||◌, List, [], ◌∷◌, ◌++◌, map, filter, Option, Some}
use Rattle.std.proofs.Common.{refl, sym, ap, subst, ◌∙◌, append_assoc}
use Rattle.std.proofs.lemmas.List.{append-nil, map-append}
use Rattle.std.proofs.lemmas.Bool.{eq-eqb}
use Rattle.std.proofs.lemmas.Bool.Decides.{eqb_tells}
use mathlib.Core.Logic.{inl, inr}
use Rattle.pp_model.specs.Lists.{In, Before}
use Rattle.pp_model.specs.Names.{Name}
use Rattle.pp_model.specs.Object.{Object, Allowed, Swaps, Item, ops}
use Rattle.pp_model.specs.Config.{Mark, Unpushed, Pushed, Pulled, is_own, is_mark, LocalEntry, SharedEntry, Tx, Config, Step, Unapp, Unpull, Unpush, item, shared_item, as_shared, local_ops, shared_ops, tx, at_mark, set_mark, then, on_log, relog, without_local, without_shared, but_last, last, after_from}
use Rattle.pp_model.specs.Rules.{Meets, RunsFrom, IsLast}
use Rattle.pp_model.specs.Serial.{has_id}
use Rattle.pp_model.specs.Sound.{Sound}
use Rattle.pp_model.proofs.Lists.{in_right, in_cases, before_across, before_in_first, before_in_second, by_key}
use Rattle.pp_model.proofs.Logs.{found_tx, before_own}
use Rattle.pp_model.proofs.Alone.{there_is}
use Rattle.pp_model.proofs.Begin.{before_added}
use Rattle.pp_model.proofs.Keeps.{run_keeps}
use Rattle.pp_model.proofs.Names.{name_or_not}
use Rattle.pp_model.proofs.Parted.{parted}
use Rattle.pp_model.proofs.Permute.{permuted}
use Rattle.pp_model.proofs.Push.{remark, mark_at, marked_other}
use Rattle.pp_model.proofs.Serial.{allowed_front}
use Rattle.pp_model.proofs.Trace.{keep_all}
use Rattle.pp_records.specs.Expansions.{taken_at, taken_out}
use Rattle.pp_records.proofs.Ends.{after_append, runs_append}
use Rattle.pp_records.proofs.Taking.{tx_on}
use Rattle.pp_laws_summary.specs.LocalLogs.{pushed_ids, without_ids}
use Rattle.pp_laws_summary.proofs.Entries.{ops_items}
use Rattle.pp_laws_summary.proofs.Lookups.{mark_is, done_by_other}
use Rattle.pp_laws_summary.proofs.Parts.{not_eq}
use Rattle.pp_laws_summary.proofs.Relog.{on_log-fuse, on_log-is, on_log-same, filter_same}
use Rattle.pp_laws_summary.proofs.AtPlace.{filter_twice}

-- The last entry of a list that ends with e is e.
pub last_snoc : {A : Type 0} (p : List A) (e : A) → last (p ++ e ∷ []) ≡ Some e
last_snoc [] e = refl
last_snoc (a ∷ []) e = refl
last_snoc (a ∷ b ∷ p) e = last_snoc (b ∷ p) e

-- Without it the list is what came before.
pub but_last_snoc : {A : Type 0} (p : List A) (e : A) → but_last (p ++ e ∷ []) ≡ p
but_last_snoc [] e = refl
but_last_snoc (a ∷ []) e = refl
but_last_snoc {A} (a ∷ b ∷ p) e = ap (λ (w : List A). a ∷ w) (but_last_snoc (b ∷ p) e)

-- The ids of the pushed entries of a list begin with that of its first entry, if it is pushed.
pub pushed_cons : {Op : Type 0} (e : LocalEntry Op) (l : List (LocalEntry Op)) (m : Mark) → e.mark ≡ m → pushed_ids (e ∷ l) ≡ cond (is_mark m Pushed) (e.id ∷ pushed_ids l) (pushed_ids l)
pushed_cons {Op} e l m h = ap (λ (w : Mark). map (λ (a : LocalEntry Op). a.id) (cond (is_mark w Pushed) (e ∷ filter (λ a. is_mark a.mark Pushed) l) (filter (λ a. is_mark a.mark Pushed) l))) h ∙ into (is_mark m Pushed)
  where
    into : (b : Bool) → map (λ (a : LocalEntry Op). a.id) (cond b (e ∷ filter (λ a. is_mark a.mark Pushed) l) (filter (λ a. is_mark a.mark Pushed) l)) ≡ cond b (e.id ∷ pushed_ids l) (pushed_ids l)
    into true = refl
    into false = refl

-- A test for equal numbers is symmetric.
pub eqb_turned : (a b : ℕ) → (a == b) ≡ (b == a)
eqb_turned a b = elim (eqb_tells a b) [
  | inl r ↦ r.0 ∙ sym (eq-eqb b a (sym r.1))
  | inr r ↦ r.0 ∙ sym (not_eq b a (λ e. r.1 (sym e)))
]

without_more : {Op : Type 0} (id : ℕ) (js : List ℕ) (G : List (SharedEntry Op)) → without_shared id (without_ids js G) ≡ without_ids (id ∷ js) G
without_more {Op} id js G = filter_twice (λ (g : SharedEntry Op). not (g.id == id)) (λ (g : SharedEntry Op). not (has_id g.id js)) G
    ∙ filter_same (λ (g : SharedEntry Op). not (has_id g.id js) && not (g.id == id)) (λ (g : SharedEntry Op). not ((id == g.id) || has_id g.id js)) G
    (λ g i. ap (λ (b : Bool). not (has_id g.id js) && not b) (eqb_turned g.id id) ∙ by (has_id g.id js) (id == g.id))
  where
    by : (a b : Bool) → (not a && not b) ≡ not (b || a)
    by true true = refl
    by true false = refl
    by false true = refl
    by false false = refl

without_last : {Op : Type 0} (p : List (LocalEntry Op)) (e : LocalEntry Op) → ((a : LocalEntry Op) → In a p → a.id ≢ e.id) → without_local e.id (p ++ e ∷ []) ≡ p
without_last {Op} [] e n = ap (λ (b : Bool). cond (not b) (e ∷ []) []) (eq-eqb e.id e.id refl)
without_last {Op} (a ∷ p) e n =
    ap (λ (b : Bool). cond (not b) (a ∷ without_local e.id (p ++ e ∷ [])) (without_local e.id (p ++ e ∷ []))) (not_eq a.id e.id (n a (inl refl)))
    ∙ ap (λ (w : List (LocalEntry Op)). a ∷ w) (without_last p e (λ b i. n b (inr i)))

module _ {Op State : Type 0} (O : Object Op State) (t : Name) where
  module _ (c : Config Op) (s : Sound O c) (x : Tx Op) (lookup : tx t c.opened ≡ Some x) (P : List (LocalEntry Op)) (e : LocalEntry Op) (log : x.local ≡ P ++ e ∷ []) where
    ix : In x c.opened
    ix = (found_tx t c.opened x lookup).0

    nx : x.name ≡ t
    nx = (found_tx t c.opened x lookup).1

    e_in : In e x.local
    e_in = subst (λ (w : List (LocalEntry Op)). In e w) (sym log) (in_right e P (e ∷ []) (inl refl))

    others : (a : LocalEntry Op) → In a P → a.id ≢ e.id
    others a i = s.local_ids x ix a e (subst (λ (w : List (LocalEntry Op)). Before a e w) (sym log) (before_across a e P (e ∷ []) i (inl refl)))

    front : Allowed O (local_ops P)
    front = allowed_front O O.start (local_ops P) (e.op ∷ [])
        (subst (λ (w : List Op). Allowed O w) (ap local_ops log ∙ map-append (λ (w : LocalEntry Op). w.op) P (e ∷ [])) (s.local_allowed x ix))

    -- the log of t is P, and these entries are shared
    abbrev One : List (Step Op) → List (SharedEntry Op) → Type 0
    One ss G = RunsFrom O c ss × (after_from c ss ≡ record c { opened = on_log t (λ l. P) c.opened; shared = G })

    module _ (m : e.mark ≡ Pushed) where
      stands : In (as_shared x.name false (item e)) c.shared
      stands = s.pushed_stand x ix e e_in m

      moved : (g h : SharedEntry Op) → Before g h c.shared → not (g.id == e.id) ≡ false → not (h.id == e.id) ≡ true → Swaps O g.op h.op
      moved g h i n k = by (name_or_not h.owner x.name)
        where
          ig : In g c.shared
          ig = before_in_first g h c.shared i

          ih : In h c.shared
          ih = before_in_second g h c.shared i

          is : g ≡ as_shared x.name false (item e)
          is = elim (eqb_tells g.id e.id) [
            | inl r ↦ by_key (λ (w : SharedEntry Op). w.id) c.shared s.shared_ids g (as_shared x.name false (item e)) ig stands r.1
            | inr r ↦ absurd (let z : true ≡ false = ap not (sym r.0) ∙ n in cc)
          ]

          h_not : h.id ≢ e.id
          h_not z = let w : false ≡ true = ap not (sym (eq-eqb h.id e.id z)) ∙ k in cc

          own_after : h.owner ≡ x.name → (z : Bool) → h.committed ≡ z → Swaps O g.op h.op
          own_after o true u = absurd (done_by_other O c s x ix h ih u o)
          own_after o false u =
              let r = s.uncommitted_from h ih u in
              let y : r.0 ≡ x = by_key (λ (w : Tx Op). w.name) c.opened s.open_names r.0 x r.1 ix (ap (λ (w : SharedEntry Op). w.owner) (sym r.5) ∙ o) in
              let j : In r.2 x.local = subst (λ (w : Tx Op). In r.2 w.local) y r.3 in
              let jp : In r.2 P = elim (in_cases r.2 P (e ∷ []) (subst (λ (w : List (LocalEntry Op)). In r.2 w) log j)) [
                | inl q ↦ q
                | inr (inl q) ↦ absurd (h_not (ap (λ (w : SharedEntry Op). w.id) r.5 ∙ ap (λ (w : LocalEntry Op). w.id) q))
                | inr (inr q) ↦ absurd q
              ] in
              let b : Before r.2 e x.local = subst (λ (w : List (LocalEntry Op)). Before r.2 e w) (sym log) (before_across r.2 e P (e ∷ []) jp (inl refl)) in
              let w : Swaps O e.op (r.2).op = s.open_order x ix (item r.2) (item e) (before_own x.local r.2 e b (ap is_own r.4) (ap is_own m)) (as_shared x.name false (item e), stands, refl)
              (inr (g, h, i, ap (λ (z : SharedEntry Op). z.id) is, ap (λ (z : SharedEntry Op). z.id) r.5)) in
              subst (λ (z : SharedEntry Op). Swaps O z.op h.op) (sym is) (subst (λ (z : SharedEntry Op). Swaps O e.op z.op) (sym r.5) w)

          by : (h.owner ≡ x.name) ⊎ (h.owner ≢ x.name) → Swaps O g.op h.op
          by (inl o) = own_after o h.committed refl
          by (inr o) = s.uncommitted_swap g h i (λ z. o (sym z ∙ ap (λ (w : SharedEntry Op). w.owner) is)) (ap (λ (w : SharedEntry Op). w.committed) is)

      shorter_allowed : Allowed O (shared_ops (without_shared e.id c.shared))
      shorter_allowed =
          let test : SharedEntry Op → Bool = λ g. not (g.id == e.id) in
          let F = filter test c.shared in
          let B = filter (λ g. not (test g)) c.shared in
          let y : List (Item Op) = map shared_item F ++ map shared_item B in
          let h1 : Allowed O (ops (map shared_item c.shared) ++ []) = subst (λ (w : List Op). Allowed O w) (sym (append-nil (ops (map shared_item c.shared)) ∙ ops_items c.shared)) s.shared_allowed in
          let h2 : Allowed O (ops y ++ []) = permuted O y (map shared_item c.shared) [] [] (parted O shared_item test c.shared s.shared_ids moved) h1 in
          let h3 : Allowed O (ops (map shared_item F) ++ ops (map shared_item B)) = subst (λ (w : List Op). Allowed O w) (append-nil (ops y) ∙ map-append (λ (w : Item Op). w.op) (map shared_item F) (map shared_item B)) h2 in
          subst (λ (w : List Op). Allowed O w) (ops_items F) (allowed_front O O.start (ops (map shared_item F)) (ops (map shared_item B)) h3)

      unpush_holds : Meets O c (Unpush t e.id)
      unpush_holds = there_is (tx t c.opened) _ x lookup (there_is (at_mark e.id Pushed x.local) _ e (mark_is x.local (s.local_ids x ix) e.id Pushed e e_in refl m) (
        (λ a i n. absurd (none a i)),
        (shorter_allowed, refl),
      ))
        where
          none : (a : LocalEntry Op) → Before e a x.local → ⊥
          none a i = elim (before_added P e e a (subst (λ (w : List (LocalEntry Op)). Before e a w) log i)) [
            | inl j ↦ others e (before_in_first e a P j) refl
            | inr j ↦ others e j.0 refl
          ]

      abbrev one : Config Op
      one = then c (Unpush t e.id)

      now : set_mark e.id Unpushed x.local ≡ P ++ remark Unpushed e ∷ []
      now = ap (set_mark e.id Unpushed) log ∙ map-append (mark_at e.id Unpushed) P (e ∷ [])
          ∙ ap (λ (w : List (LocalEntry Op)). w ++ mark_at e.id Unpushed e ∷ []) (marked_other e.id Unpushed P others)
          ∙ ap (λ (z : Bool). P ++ cond z (remark Unpushed e) e ∷ []) (eq-eqb e.id e.id refl)

      unapp_holds : Meets O one (Unapp t e.id)
      unapp_holds = there_is (tx t one.opened) _ (relog (set_mark e.id Unpushed) x)
          (tx_on t (set_mark e.id Unpushed) c.opened x lookup)
          (subst (λ (w : Option (LocalEntry Op)). IsLast e.id w) (sym (ap last now ∙ last_snoc P (remark Unpushed e))) (refl, refl), refl)

      pushed_out : One (Unpush t e.id ∷ Unapp t e.id ∷ []) (without_shared e.id c.shared)
      pushed_out = (
        (unpush_holds, (unapp_holds, tt)),
        ap (λ (w : List (Tx Op)). record c { opened = w; shared = without_shared e.id c.shared })
            (on_log-fuse t but_last (set_mark e.id Unpushed) c.opened ∙ on_log-is O c s t x ix nx (λ l. but_last (set_mark e.id Unpushed l)) P (ap but_last now ∙ but_last_snoc P (remark Unpushed e))),
      )

    unapplied : e.mark ≡ Unpushed → One (Unapp t e.id ∷ []) c.shared
    unapplied m = (
      (there_is (tx t c.opened) _ x lookup (subst (λ (w : Option (LocalEntry Op)). IsLast e.id w) (sym (ap last log ∙ last_snoc P e)) (refl, m), refl), tt),
      ap (λ (w : List (Tx Op)). record c { opened = w }) (on_log-is O c s t x ix nx but_last P (ap but_last log ∙ but_last_snoc P e)),
    )

    unpulled : e.mark ≡ Pulled → One (Unpull t e.id ∷ []) c.shared
    unpulled m =
        let filtered : without_local e.id x.local ≡ P = ap (without_local e.id) log ∙ without_last P e others in (
          (
            there_is (tx t c.opened) _ x lookup (there_is (at_mark e.id Pulled x.local) _ e (mark_is x.local (s.local_ids x ix) e.id Pulled e e_in refl m)
                (subst (λ (w : List (LocalEntry Op)). Allowed O (local_ops w)) (sym filtered) front, refl)),
            tt,
          ),
          ap (λ (w : List (Tx Op)). record c { opened = w }) (on_log-is O c s t x ix nx (without_local e.id) P filtered),
        )

    by_mark : (m : Mark) → e.mark ≡ m → One (taken_at t e.id m) (cond (is_mark m Pushed) (without_shared e.id c.shared) c.shared)
    by_mark Unpushed m = unapplied m
    by_mark Pushed m = pushed_out m
    by_mark Pulled m = unpulled m

  -- the log is P and then S
  abbrev pub left : Config Op → List (LocalEntry Op) → List (LocalEntry Op) → Config Op
  left c P S = record c { opened = on_log t (λ l. P) c.opened; shared = without_ids (pushed_ids S) c.shared }

  shared_left : (c : Config Op) (e : LocalEntry Op) (S : List (LocalEntry Op)) (m : Mark) → e.mark ≡ m →
      cond (is_mark m Pushed) (without_shared e.id (without_ids (pushed_ids S) c.shared)) (without_ids (pushed_ids S) c.shared) ≡ without_ids (pushed_ids (e ∷ S)) c.shared
  shared_left c e S m h = by m ∙ ap (λ (w : List ℕ). without_ids w c.shared) (sym (pushed_cons e S m h))
    where
      by : (m : Mark) → cond (is_mark m Pushed) (without_shared e.id (without_ids (pushed_ids S) c.shared)) (without_ids (pushed_ids S) c.shared)
          ≡ without_ids (cond (is_mark m Pushed) (e.id ∷ pushed_ids S) (pushed_ids S)) c.shared
      by Unpushed = refl
      by Pushed = without_more e.id (pushed_ids S) c.shared
      by Pulled = refl

  -- In a sound configuration the last entries S of a local log can be taken back.
  pub all_back : (S P : List (LocalEntry Op)) (c : Config Op) (x : Tx Op) → Sound O c → tx t c.opened ≡ Some x → x.local ≡ P ++ S → RunsFrom O c (taken_out t S) × (after_from c (taken_out t S) ≡ left c P S)
  all_back [] P c x s lookup log =
      let f = found_tx t c.opened x lookup in (
        tt,
        sym (ap (λ (w : List (Tx Op)). record c { opened = w; shared = without_ids [] c.shared }) (ap (λ (w : List (LocalEntry Op)). on_log t (λ l. w) c.opened) (sym (append-nil P) ∙ sym log) ∙ on_log-same O c s t x f.0 f.1)
            ∙ ap (λ (w : List (SharedEntry Op)). record c { shared = w }) (keep_all (λ (g : SharedEntry Op). true) c.shared (λ g i. refl))),
      )
  all_back (e ∷ S) P c x s lookup log =
      let f = found_tx t c.opened x lookup in
      let r = all_back S (P ++ e ∷ []) c x s lookup (log ∙ sym (append_assoc P (e ∷ []) S)) in
      let d = after_from c (taken_out t S) in
      let y : Tx Op = relog (λ l. P ++ e ∷ []) x in
      let k = by_mark d (run_keeps O (taken_out t S) c s r.0) y (subst (λ (w : Config Op). tx t w.opened ≡ Some y) (sym r.1) (tx_on t (λ l. P ++ e ∷ []) c.opened x lookup)) P e refl e.mark refl in (
        runs_append O c (taken_out t S) (taken_at t e.id e.mark) r.0 k.0,
        after_append c (taken_out t S) (taken_at t e.id e.mark) ∙ k.1
            ∙ ap (λ (w : Config Op). record w { opened = on_log t (λ l. P) w.opened; shared = cond (is_mark e.mark Pushed) (without_shared e.id w.shared) w.shared }) r.1
            ∙ ap (λ (w : List (Tx Op)). record c { opened = w; shared = cond (is_mark e.mark Pushed) (without_shared e.id (without_ids (pushed_ids S) c.shared)) (without_ids (pushed_ids S) c.shared) }) (on_log-fuse t (λ l. P) (λ l. P ++ e ∷ []) c.opened)
            ∙ ap (λ (w : List (SharedEntry Op)). record c { opened = on_log t (λ l. P) c.opened; shared = w }) (shared_left c e S e.mark refl),
      )
