-- Taking a local log back from its end.
use Rattle.std.specs.Prelude.{◌≡◌, ◌≢◌, ℕ, ◌==◌, Bool, true, false, not, cond, List, [], ◌∷◌, ◌++◌, map, filter, Option, Some}
use Rattle.std.proofs.Common.{refl, sym, ap, subst, ◌∙◌, append_assoc}
use Rattle.std.proofs.lemmas.List.{map-append, append-nil}
use Rattle.std.proofs.lemmas.Bool.Decides.{eqb_tells}
use mathlib.Core.Logic.{inl, inr}
use Rattle.pp_model.specs.Lists.{In, Before}
use Rattle.pp_model.specs.Names.{Name}
use Rattle.pp_model.specs.Object.{Object, Allowed, Swaps, Item, ops}
use Rattle.pp_model.specs.Config.{Mark, Unpushed, Pushed, Pulled, is_own, LocalEntry, SharedEntry, Tx, Config, Unapp, Unpush, Unpull, item, shared_item, local_ops, shared_ops, as_shared, tx, then, at_mark, on_log, relog, set_mark, without_local, without_shared, but_last, last, after_from}
use Rattle.pp_model.specs.Rules.{Meets, RunsFrom, IsLast}
use Rattle.pp_model.specs.Sound.{Sound}
use Rattle.pp_model.proofs.Lists.{in_left, in_right, in_cases, before_left, before_across, before_in_first, before_in_second, in_filter, from_filter, before_filter, before_from_filter, by_key, not_both}
use Rattle.pp_model.proofs.Logs.{found_tx, on_each, in_on_same, in_own, eqb_not}
use Rattle.pp_model.proofs.Begin.{before_added}
use Rattle.pp_model.proofs.Trace.{keep_all}
use Rattle.pp_model.proofs.Alone.{there_is}
use Rattle.pp_model.proofs.Keeps.{step_keeps}
use Rattle.pp_model.proofs.Parted.{parted}
use Rattle.pp_model.proofs.Permute.{permuted}
use Rattle.pp_model.proofs.Push.{remark, elsewhere}
use Rattle.pp_model.proofs.Serial.{allowed_front}
use Rattle.pp_records.specs.Expansions.{taken_at, taken_out}
use Rattle.pp_summary.specs.Boosted.{PlacesSwap, Follows, BoostedBut, Anchored}
use Rattle.pp_summary.proofs.Append.{marked_last}
use Rattle.pp_records.proofs.Ends.{after_append, runs_append}
use Rattle.std.proofs.lemmas.List.Elements.{filter-append}
use Rattle.pp_laws_summary.proofs.Entries.{ops_items}
use Rattle.pp_laws_summary.proofs.Lookups.{tx_is, mark_is, done_by_other}
use Rattle.pp_laws_summary.proofs.BackAll.{last_snoc, but_last_snoc}

-- A local log with a last entry of an id of its own is the log again without this id.
pub without_last : {Op : Type 0} (l : List (LocalEntry Op)) (e : LocalEntry Op) → ((a : LocalEntry Op) → In a l → a.id ≢ e.id) → without_local e.id (l ++ e ∷ []) ≡ l
without_last {Op} l e h =
    filter-append (λ (a : LocalEntry Op). not (a.id == e.id)) l (e ∷ [])
    ∙ ap (λ (w : List (LocalEntry Op)). w ++ without_local e.id (e ∷ [])) (keep_all (λ (a : LocalEntry Op). not (a.id == e.id)) l (λ a i. eqb_not a.id e.id (h a i)))
    ∙ elim (eqb_tells e.id e.id) [ inl r ↦ ap (λ (b : Bool). l ++ cond (not b) (e ∷ []) []) r.0 ∙ append-nil l | inr r ↦ absurd (r.1 refl) ]

-- A local log without its last entry still follows the shared log.
pub follows_front : {Op State : Type 0} (O : Object Op State) (place : Op → ℕ) (G : List (SharedEntry Op)) (P : List (LocalEntry Op)) (e : LocalEntry Op) →
    ((a : LocalEntry Op) → In a P → a.id ≢ e.id) → Follows O place G (P ++ e ∷ []) → Follows O place G P
follows_front {Op} O place G P e new f =
    record {
      own_pushed = λ a i o. f.own_pushed a (in_left a P (e ∷ []) i) o;
      own_order = λ a b i o r. f.own_order a b (before_left a b P (e ∷ []) i) o r;
      pulled_stand = λ p i m. f.pulled_stand p (in_left p P (e ∷ []) i) m;
      late = λ l r i d st un. f.late l r (in_left l P (e ∷ []) i) d st (λ z. elim (before_added P e z.0 z.1 z.2) [
        | inl j ↦ un (z.0, z.1, j, z.3, z.4)
        | inr j ↦ new l i (sym z.4 ∙ ap (λ (w : LocalEntry Op). w.id) j.1)
      ]);
    }

-- A local log still follows the shared log without an entry whose id is not in the local log.
pub follows_without : {Op State : Type 0} (O : Object Op State) (place : Op → ℕ) (G : List (SharedEntry Op)) (L : List (LocalEntry Op)) (id : ℕ) →
    ((a : LocalEntry Op) → In a L → a.id ≢ id) → Follows O place G L → Follows O place (without_shared id G) L
follows_without {Op} O place G L id new f =
    record {
      own_pushed = f.own_pushed;
      own_order = λ a b i o r.
          let k = f.own_order a b i o r in
          (k.0, k.1, before_filter test k.0 k.1 G k.2 (stays k.0 a (before_in_first a b L i) k.3) (stays k.1 b (before_in_second a b L i) k.4), k.3, k.4);
      pulled_stand = λ p i m. in_filter test (as_shared p.owner true (item p)) G (f.pulled_stand p i m) (eqb_not p.id id (new p i));
      late = λ l r i d st un. f.late l r i ((from_filter test r G d.0).0, d.1, d.2) (st.0, st.1, before_from_filter test st.0 st.1 G st.2, st.3, st.4) un;
    }
  where
    test : SharedEntry Op → Bool
    test g = not (g.id == id)

    stays : (g : SharedEntry Op) (a : LocalEntry Op) → In a L → g.id ≡ a.id → test g ≡ true
    stays g a i e = eqb_not g.id id (λ z. new a i (sym e ∙ z))

module _ {Op State : Type 0} (O : Object Op State) (place : Op → ℕ) (apart : PlacesSwap O place) (t : Name) where
  -- In the configuration, the local log of t is P, and the configuration is boosted but for t.
  abbrev pub Left : List (LocalEntry Op) → Config Op → Type 0
  Left P c = BoostedBut O place t c × ((x : Tx Op) × (tx t c.opened ≡ Some x) × (x.local ≡ P))

  -- The last entry e of the local log of t.
  module _ (c : Config Op) (b : BoostedBut O place t c) (x : Tx Op) (lookup : tx t c.opened ≡ Some x)
      (P : List (LocalEntry Op)) (e : LocalEntry Op) (cut : x.local ≡ P ++ e ∷ []) where
    ix : In x c.opened
    ix = (found_tx t c.opened x lookup).0

    nx : x.name ≡ t
    nx = (found_tx t c.opened x lookup).1

    ie : In e x.local
    ie = subst (λ (w : List (LocalEntry Op)). In e w) (sym cut) (in_right e P (e ∷ []) (inl refl))

    before_e : (a : LocalEntry Op) → In a P → Before a e x.local
    before_e a i = subst (λ (w : List (LocalEntry Op)). Before a e w) (sym cut) (before_across a e P (e ∷ []) i (inl refl))

    other_ids : (a : LocalEntry Op) → In a P → a.id ≢ e.id
    other_ids a i = b.sound.local_ids x ix a e (before_e a i)

    front_follows : Follows O place c.shared P
    front_follows = follows_front O place c.shared P e other_ids (subst (λ (w : List (LocalEntry Op)). Follows O place c.shared w) cut (b.follows x ix))

    -- A property of the changed log of t and of all other logs is one of each log.
    each : (f : List (LocalEntry Op) → List (LocalEntry Op)) (Q : List (LocalEntry Op) → Type 0) → Q (f x.local) → ((y : Tx Op) → In y c.opened → y.name ≢ t → Q y.local) →
        (y : Tx Op) → In y (on_log t f c.opened) → Q y.local
    each f Q h others = on_each t f c.opened (λ (w : Tx Op). Q w.local)
        (λ w i n. subst (λ (z : Tx Op). Q (f z.local)) (by_key (λ (z : Tx Op). z.name) c.opened b.sound.open_names x w ix i (nx ∙ sym n)) h) others

    -- The UNPULL of a pulled last entry meets its criteria.
    pub unpull_holds : e.mark ≡ Pulled → Meets O c (Unpull t e.id)
    unpull_holds m = there_is (tx t c.opened) _ x lookup (there_is (at_mark e.id Pulled x.local) _ e (mark_is x.local (b.sound.local_ids x ix) e.id Pulled e ie refl m) (
      subst (λ (w : List (LocalEntry Op)). Allowed O (local_ops w)) (sym (ap (without_local e.id) cut ∙ without_last P e other_ids)) front_allowed,
      refl,
    ))
      where
        front_allowed : Allowed O (local_ops P)
        front_allowed = allowed_front O O.start (local_ops P) (e.op ∷ [])
            (subst (λ (w : List Op). Allowed O w) (ap (λ (w : List (LocalEntry Op)). local_ops w) cut ∙ map-append (λ (w : LocalEntry Op). w.op) P (e ∷ [])) (b.sound.local_allowed x ix))

    -- To take back a pulled last entry is one UNPULL, and leaves the rest of the log.
    pub unpull_left : e.mark ≡ Pulled → Left P (then c (Unpull t e.id))
    unpull_left m =
        let s : Sound O (then c (Unpull t e.id)) = step_keeps O c (Unpull t e.id) b.sound (unpull_holds m) in
        let is : without_local e.id x.local ≡ P = ap (without_local e.id) cut ∙ without_last P e other_ids in (
          record {
            sound = s;
            follows = each (without_local e.id) (λ L. Follows O place c.shared L) (subst (λ (w : List (LocalEntry Op)). Follows O place c.shared w) (sym is) front_follows) (λ y i n. b.follows y i);
            anchored = on_each t (without_local e.id) c.opened (λ (w : Tx Op). w.name ≢ t → Anchored place w.local) (λ y i n k. absurd (k n)) (λ y i n k. b.anchored y i k);
          },
          (relog (without_local e.id) x, tx_is O (then c (Unpull t e.id)) s t (relog (without_local e.id) x) (in_on_same t (without_local e.id) x c.opened ix nx) nx, is),
        )

    -- The UNPUSH of the last entry: the entries after it in the shared log swap with it.
    module _ (m : e.mark ≡ Pushed) where
      abbrev mine : SharedEntry Op
      mine = as_shared x.name false (item e)

      im : In mine c.shared
      im = b.sound.pushed_stand x ix e ie m

      passes : (h : SharedEntry Op) → Before mine h c.shared → Swaps O e.op h.op
      passes h i = b.sound.uncommitted_swap mine h i (λ q. mine_last h i (sym q) h.committed refl) refl
        where
          mine_last : (h : SharedEntry Op) → Before mine h c.shared → h.owner ≡ x.name → (z : Bool) → h.committed ≡ z → ⊥
          mine_last h i q true u = done_by_other O c b.sound x ix h (before_in_second mine h c.shared i) u q
          mine_last h i q false u =
              let r = b.sound.uncommitted_from h (before_in_second mine h c.shared i) u in
              let y : r.0 ≡ x = by_key (λ (w : Tx Op). w.name) c.opened b.sound.open_names r.0 x r.1 ix (ap (λ (w : SharedEntry Op). w.owner) (sym r.5) ∙ q) in
              let j : In r.2 x.local = subst (λ (w : Tx Op). In r.2 w.local) y r.3 in
              elim (in_cases r.2 P (e ∷ []) (subst (λ (w : List (LocalEntry Op)). In r.2 w) cut j)) [
                | inl k ↦
                    let o = (b.follows x ix).own_order r.2 e (before_e r.2 k) (ap is_own r.4) (ap is_own m) in
                    let eh : o.0 ≡ h = by_key (λ (w : SharedEntry Op). w.id) c.shared b.sound.shared_ids o.0 h (before_in_first o.0 o.1 c.shared o.2) (before_in_second mine h c.shared i) (o.3 ∙ ap (λ (w : SharedEntry Op). w.id) (sym r.5)) in
                    let em : o.1 ≡ mine = by_key (λ (w : SharedEntry Op). w.id) c.shared b.sound.shared_ids o.1 mine (before_in_second o.0 o.1 c.shared o.2) im o.4 in
                    not_both (λ (w : SharedEntry Op). w.id) c.shared b.sound.shared_ids mine h i
                    (subst (λ (w : SharedEntry Op). Before w mine c.shared) eh (subst (λ (w : SharedEntry Op). Before o.0 w c.shared) em o.2))
                | inr (inl k) ↦ b.sound.shared_ids mine h i (ap (λ (w : LocalEntry Op). w.id) (sym k) ∙ ap (λ (w : SharedEntry Op). w.id) (sym r.5))
                | inr (inr k) ↦ absurd k
              ]

      -- If the last own entry leaves the shared log, the rest of that log is allowed.
      pub shorter_allowed : Allowed O (shared_ops (without_shared e.id c.shared))
      shorter_allowed =
          let F = filter test c.shared in
          let B = filter (λ g. not (test g)) c.shared in
          let y : List (Item Op) = map shared_item F ++ map shared_item B in
          let h1 : Allowed O (ops (map shared_item c.shared) ++ []) = subst (λ (w : List Op). Allowed O w) (sym (append-nil (ops (map shared_item c.shared)) ∙ ops_items c.shared)) b.sound.shared_allowed in
          let h2 : Allowed O (ops y ++ []) = permuted O y (map shared_item c.shared) [] [] (parted O shared_item test c.shared b.sound.shared_ids moved) h1 in
          let h3 : Allowed O (ops (map shared_item F) ++ ops (map shared_item B)) = subst (λ (w : List Op). Allowed O w) (append-nil (ops y) ∙ map-append (λ (w : Item Op). w.op) (map shared_item F) (map shared_item B)) h2 in
          subst (λ (w : List Op). Allowed O w) (ops_items F) (allowed_front O O.start (ops (map shared_item F)) (ops (map shared_item B)) h3)
        where
          test : SharedEntry Op → Bool
          test g = not (g.id == e.id)

          is_mine : (g : SharedEntry Op) → In g c.shared → test g ≡ false → g ≡ mine
          is_mine g i n = elim (eqb_tells g.id e.id) [
            | inl r ↦ by_key (λ (w : SharedEntry Op). w.id) c.shared b.sound.shared_ids g mine i im r.1
            | inr r ↦ absurd (let z : true ≡ false = ap not (sym r.0) ∙ n in cc)
          ]

          moved : (g h : SharedEntry Op) → Before g h c.shared → test g ≡ false → test h ≡ true → Swaps O g.op h.op
          moved g h i n k =
              let eg = is_mine g (before_in_first g h c.shared i) n in
              subst (λ (w : SharedEntry Op). Swaps O w.op h.op) (sym eg) (passes h (subst (λ (w : SharedEntry Op). Before w h c.shared) eg i))

      -- The UNPUSH of the last own entry of a local log meets its criteria.
      pub unpush_holds : Meets O c (Unpush t e.id)
      unpush_holds = there_is (tx t c.opened) _ x lookup (there_is (at_mark e.id Pushed x.local) _ e (mark_is x.local (b.sound.local_ids x ix) e.id Pushed e ie refl m) (
        (λ a i n. absurd (none a i)),
        (shorter_allowed, refl),
      ))
        where
          none : (a : LocalEntry Op) → Before e a x.local → ⊥
          none a i = elim (before_added P e e a (subst (λ (w : List (LocalEntry Op)). Before e a w) cut i)) [
            | inl j ↦ other_ids e (before_in_first e a P j) refl
            | inr j ↦ other_ids e j.0 refl
          ]

      abbrev one : Config Op
      one = then c (Unpush t e.id)

      abbrev two : Config Op
      two = then one (Unapp t e.id)

      s_one : Sound O one
      s_one = step_keeps O c (Unpush t e.id) b.sound unpush_holds

      now : set_mark e.id Unpushed x.local ≡ P ++ remark Unpushed e ∷ []
      now = ap (set_mark e.id Unpushed) cut ∙ marked_last e.id Unpushed P e other_ids refl

      -- The UNAPP of the last own entry of a local log meets its criteria after its UNPUSH.
      pub unapp_holds : Meets O one (Unapp t e.id)
      unapp_holds = there_is (tx t one.opened) _ (relog (set_mark e.id Unpushed) x)
          (tx_is O one s_one t (relog (set_mark e.id Unpushed) x) (in_on_same t (set_mark e.id Unpushed) x c.opened ix nx) nx)
          (subst (λ (w : Option (LocalEntry Op)). IsLast e.id w) (sym (ap last now ∙ last_snoc P (remark Unpushed e))) (refl, refl), refl)

      is : but_last (set_mark e.id Unpushed x.local) ≡ P
      is = ap but_last now ∙ but_last_snoc P (remark Unpushed e)

      -- No other local log has the id of the entry.
      apart_ids : (y : Tx Op) → In y c.opened → y.name ≢ t → (a : LocalEntry Op) → In a y.local → a.id ≢ e.id
      apart_ids y i n a j z = elim (b.sound.marks y i a j) [
        | inl o ↦ elsewhere O c b.sound x ix e ie (ap is_own m) y i (λ q. n (q ∙ nx)) (item a) (in_own y.local a j o.0) z
        | inr o ↦
            let k = by_key (λ (w : SharedEntry Op). w.id) c.shared b.sound.shared_ids (as_shared a.owner true (item a)) mine ((b.follows y i).pulled_stand a j o.0) im z in
            let w : true ≡ false = ap (λ (w : SharedEntry Op). w.committed) k in
            cc
      ]

      -- To take back an own last entry is an UNPUSH and an UNAPP, and leaves the rest of the log.
      pub unpush_left : Left P two
      unpush_left =
          let s : Sound O two = step_keeps O one (Unapp t e.id) s_one unapp_holds in
          let G = without_shared e.id c.shared in
          let y1 = relog but_last (relog (set_mark e.id Unpushed) x) in (
            record {
              sound = s;
              follows = twice (λ L. Follows O place (without_shared e.id c.shared) L)
                  (subst (λ (w : List (LocalEntry Op)). Follows O place (without_shared e.id c.shared) w) (sym is) (follows_without O place c.shared P e.id other_ids front_follows))
                  (λ y i n. follows_without O place c.shared y.local e.id (apart_ids y i n) (b.follows y i));
              anchored = on_each t but_last one.opened (λ (w : Tx Op). w.name ≢ t → Anchored place w.local) (λ y i n k. absurd (k n))
                  (on_each t (set_mark e.id Unpushed) c.opened (λ (w : Tx Op). w.name ≢ t → w.name ≢ t → Anchored place w.local) (λ y i n k. absurd (k n)) (λ y i n k l. b.anchored y i k));
            },
            (y1, tx_is O two s t y1 (in_on_same t but_last (relog (set_mark e.id Unpushed) x) one.opened (in_on_same t (set_mark e.id Unpushed) x c.opened ix nx) nx) nx, is),
          )
        where
          twice : (Q : List (LocalEntry Op) → Type 0) → Q (but_last (set_mark e.id Unpushed x.local)) → ((y : Tx Op) → In y c.opened → y.name ≢ t → Q y.local) →
              (y : Tx Op) → In y two.opened → Q y.local
          twice Q h others = on_each t but_last one.opened (λ (w : Tx Op). Q w.local)
              (on_each t (set_mark e.id Unpushed) c.opened (λ (w : Tx Op). w.name ≡ t → Q (but_last w.local))
              (λ y i n k. subst (λ (w : Tx Op). Q (but_last (set_mark e.id Unpushed w.local))) (by_key (λ (w : Tx Op). w.name) c.opened b.sound.open_names x y ix i (nx ∙ sym n)) h)
              (λ y i n k. absurd (n k)))
              (on_each t (set_mark e.id Unpushed) c.opened (λ (w : Tx Op). w.name ≢ t → Q w.local) (λ y i n k. absurd (k n)) (λ y i n k. others y i n))

    by_mark : (k : Mark) → e.mark ≡ k → RunsFrom O c (taken_at t e.id k) × Left P (after_from c (taken_at t e.id k))
    by_mark Unpushed m = absurd (let z : Unpushed ≡ Pushed = sym m ∙ (b.follows x ix).own_pushed e ie (ap is_own m) in cc)
    by_mark Pushed m = ((unpush_holds m, (unapp_holds m, tt)), unpush_left m)
    by_mark Pulled m = ((unpull_holds m, tt), unpull_left m)

    -- The steps that take back the last entry of a local log meet their criteria.
    pub one_back : RunsFrom O c (taken_at t e.id e.mark) × Left P (after_from c (taken_at t e.id e.mark))
    one_back = by_mark e.mark refl

  -- The steps that take the entries S back from the end of the local log P ++ S meet their criteria, and leave P.
  pub all_back : (S P : List (LocalEntry Op)) (c : Config Op) → Left (P ++ S) c → RunsFrom O c (taken_out t S) × Left P (after_from c (taken_out t S))
  all_back [] P c h = (tt, (h.0, (h.1.0, h.1.1, h.1.2 ∙ append-nil P)))
  all_back (e ∷ S) P c h =
      let r = all_back S (P ++ e ∷ []) c (h.0, (h.1.0, h.1.1, h.1.2 ∙ sym (append_assoc P (e ∷ []) S))) in
      let d = after_from c (taken_out t S) in
      let k = one_back d r.1.0 r.1.1.0 r.1.1.1 P e r.1.1.2 in (
        runs_append O c (taken_out t S) (taken_at t e.id e.mark) r.0 k.0,
        subst (λ (w : Config Op). Left P w) (sym (after_append c (taken_out t S) (taken_at t e.id e.mark))) k.1,
      )
