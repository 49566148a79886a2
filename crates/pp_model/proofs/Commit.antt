-- The step CMT keeps a configuration sound.
use Rattle.std.specs.Prelude.{◌≡◌, ◌≢◌, ◌⊎◌, ℕ, Bool, true, false, not, cond, List, [], ◌∷◌, ◌++◌}
use Rattle.std.specs.Prelude.{Option, Some}
use Rattle.std.proofs.Common.{refl, sym, ap, subst, ◌∙◌}
use mathlib.Core.Logic.{inl, inr}
use Rattle.pp_model.specs.Lists.{In, Before}
use Rattle.pp_model.specs.Object.{Object, Allowed, Swaps, Item}
use Rattle.pp_model.specs.Config.{Pushed, is_own, LocalEntry, SharedEntry, Tx, CommittedTx, Config}
use Rattle.pp_model.specs.Config.{Cmt, item, own_items, shared_ops, as_shared, tx, then}
use Rattle.pp_model.specs.Config.{commit_effect, without_tx, commit_all}
use Rattle.pp_model.specs.Rules.{Meets}
use Rattle.pp_model.specs.Sound.{Sound, Stands, StandsBefore, KeepsOrder, Owns, CommittedAfter}
use Rattle.pp_model.proofs.Lists.{by_key, before_in_first, before_in_second, in_left, in_right}
use Rattle.pp_model.proofs.Lists.{in_map, from_map, before_from_map, in_filter, from_filter}
use Rattle.pp_model.proofs.Lists.{before_from_filter}
use Rattle.pp_model.proofs.Logs.{found_tx, from_own, in_own, before_from_own}
use Rattle.pp_model.proofs.Steps.{there_holds}
use Rattle.pp_model.proofs.Begin.{each_added, before_added}
use Rattle.pp_model.specs.Names.{Name, ◌=ⁿ◌}
use Rattle.pp_model.proofs.Names.{eq-names, names_not, names_tell, not_names}

-- the mark of a commit at one entry
abbrev pub as_committed : {Op : Type 0} → SharedEntry Op → SharedEntry Op
as_committed g = record { id = g.id; owner = g.owner; committed = true; op = g.op }

-- An entry of the shared log after the commit of t.
abbrev pub commit : {Op : Type 0} → Name → SharedEntry Op → SharedEntry Op
commit t g = cond (g.owner =ⁿ t) (as_committed g) g

-- it is committed as it was, or it was not and its owner is t, or it stays uncommitted and its
-- owner is not t
commit_cases : {Op : Type 0} (t : Name) (g : SharedEntry Op) (b : Bool) → g.committed ≡ b →
    ((g.committed ≡ true) × (commit t g ≡ g)) ⊎ ((g.committed ≡ false) × (g.owner ≡ t) × (commit t g ≡ as_committed g)) ⊎ ((g.committed ≡ false) × (g.owner ≢ t) × (commit t g ≡ g))
commit_cases {Op} t g true e =
    inl (
      e,
      elim (names_tell g.owner t) [
        | inl r ↦ ap (λ (b : Bool). cond b (as_committed g) g) r.0 ∙ ap (λ (b : Bool). record { id = g.id; owner = g.owner; committed = b; op = g.op }) (sym e)
        | inr r ↦ ap (λ (b : Bool). cond b (as_committed g) g) r.0
      ],
    )
commit_cases {Op} t g false e =
    inr (elim (names_tell g.owner t) [
      | inl r ↦ inl (e, r.1, ap (λ (b : Bool). cond b (as_committed g) g) r.0)
      | inr r ↦ inr (e, r.1, ap (λ (b : Bool). cond b (as_committed g) g) r.0)
    ])

commit_keeps_rest : {Op : Type 0} (t : Name) (g : SharedEntry Op) → ((commit t g).id ≡ g.id) × ((commit t g).owner ≡ g.owner) × ((commit t g).op ≡ g.op)
commit_keeps_rest {Op} t g = elim (names_tell g.owner t) [
  | inl r ↦ (ap (λ (b : Bool). (cond b (as_committed g) g).id) r.0, ap (λ (b : Bool). (cond b (as_committed g) g).owner) r.0, ap (λ (b : Bool). (cond b (as_committed g) g).op) r.0)
  | inr r ↦ (ap (λ (b : Bool). (cond b (as_committed g) g).id) r.0, ap (λ (b : Bool). (cond b (as_committed g) g).owner) r.0, ap (λ (b : Bool). (cond b (as_committed g) g).op) r.0)
]

-- To mark a transaction's entries as committed leaves the operations of the shared log the same.
pub ops_committed : {Op : Type 0} (t : Name) (G : List (SharedEntry Op)) → shared_ops (commit_all t G) ≡ shared_ops G
ops_committed t [] = refl
ops_committed {Op} t (g ∷ G) = ap (λ (o : Op). o ∷ shared_ops (commit_all t G)) (commit_keeps_rest t g).2 ∙ ap (λ (w : List Op). g.op ∷ w) (ops_committed t G)

-- An id in the committed shared log was in it before.
stood : {Op : Type 0} (t : Name) (i : ℕ) (G : List (SharedEntry Op)) → Stands i (commit_all t G) → Stands i G
stood {Op} t i G h = let m = from_map (commit t) h.0 G h.1 in (m.0, m.1, sym (commit_keeps_rest t m.0).0 ∙ ap (λ (w : SharedEntry Op). w.id) (sym m.2) ∙ h.2)

stands_still : {Op : Type 0} (t : Name) (i : ℕ) (G : List (SharedEntry Op)) → Stands i G → Stands i (commit_all t G)
stands_still t i G h = (commit t h.0, in_map (commit t) h.0 G h.1, (commit_keeps_rest t h.0).0 ∙ h.2)

stood_before : {Op : Type 0} (t : Name) (i j : ℕ) (G : List (SharedEntry Op)) → StandsBefore i j (commit_all t G) → StandsBefore i j G
stood_before {Op} t i j G h =
    let m = before_from_map (commit t) h.0 h.1 G h.2 in
    (m.0, m.1, m.2, sym (commit_keeps_rest t m.0).0 ∙ ap (λ (w : SharedEntry Op). w.id) (sym m.3) ∙ h.3, sym (commit_keeps_rest t m.1).0 ∙ ap (λ (w : SharedEntry Op). w.id) (sym m.4) ∙ h.4)

order_committed : {Op State : Type 0} (O : Object Op State) (t : Name) (G : List (SharedEntry Op)) (xs : List (Item Op)) → KeepsOrder O G xs → KeepsOrder O (commit_all t G) xs
order_committed O t G xs h a b i j k =
    h a b i (stood t b.id G j) (elim k [ inl n ↦ inl (λ m. n (stands_still t a.id G m)) | inr m ↦ inr (stood_before t b.id a.id G m) ])

-- The effect of a CMT keeps a configuration sound if all own entries of the transaction are pushed.
pub committed_keeps : {Op State : Type 0} (O : Object Op State) (c : Config Op) → Sound O c → (t : Name) (x : Tx Op) → In x c.opened → x.name ≡ t →
    ((e : LocalEntry Op) → In e x.local → is_own e.mark ≡ true → e.mark ≡ Pushed) → Sound O (commit_effect c t (Some x))
committed_keeps {Op} O c s t x ix nx pushed =
    record {
      marks = λ y i. s.marks y (was y i);
      open_names = λ y z i. s.open_names y z (before_from_filter stays y z c.opened i);
      done_names = λ d e i n. elim (before_added c.done new d e i) [
        | inl j ↦ s.done_names d e j n
        | inr j ↦ s.apart x d ix j.0 (nx ∙ sym (n ∙ ap (λ (w : CommittedTx Op). w.name) j.1))
      ];
      apart = λ y d i j. each_added c.done new (λ (w : CommittedTx Op). y.name ≢ w.name) (λ w k. s.apart y w (was y i) k) (not_names y.name t (from_filter stays y c.opened i).1) d j;
      open_known = λ y i. s.open_known y (was y i);
      done_known = each_added c.done new (λ (w : CommittedTx Op). In w.name c.names) s.done_known (subst (λ (w : Name). In w c.names) nx (s.open_known x ix));
      local_ids = λ y i. s.local_ids y (was y i);
      shared_ids = λ g h i e. let m = before_from_map (commit t) g h c.shared i in
          s.shared_ids m.0 m.1 m.2 (sym (commit_keeps_rest t m.0).0 ∙ ap (λ (w : SharedEntry Op). w.id) (sym m.3) ∙ e ∙ ap (λ (w : SharedEntry Op). w.id) m.4 ∙ (commit_keeps_rest t m.1).0);
      done_ids = each_added c.done new (λ (w : CommittedTx Op). (p q : Item Op) → Before p q w.entries → p.id ≢ q.id) s.done_ids
          (λ p q i e. let r = before_from_own x.local p q i in s.local_ids x ix r.0 r.1 r.2 (ap (λ (w : Item Op). w.id) (sym r.5) ∙ e ∙ ap (λ (w : Item Op). w.id) r.6));
      local_used = λ y i. s.local_used y (was y i);
      done_used = each_added c.done new (λ (w : CommittedTx Op). (p : Item Op) → In p w.entries → In p.id c.ids) s.done_used
          (λ p i. let r = from_own x.local p i in subst (λ (w : Item Op). In w.id c.ids) (sym r.3) (s.local_used x ix r.0 r.1));
      one_owner = λ u v p q i j. s.one_owner u v p q (old u p i) (old v q j);
      pushed_stand = λ y i e j m. kept_other (as_shared y.name false (item e)) (s.pushed_stand y (was y i) e j m) (not_names y.name t (from_filter stays y c.opened i).1);
      done_stand = each_added c.done new (λ (w : CommittedTx Op). (p : Item Op) → In p w.entries → In (as_shared w.name true p) (commit_all t c.shared))
          (λ d i p j. kept_committed (as_shared d.name true p) (s.done_stand d i p j) refl)
          (λ p i. let r = from_own x.local p i in
          subst (λ (w : Item Op). In (as_shared t true w) (commit_all t c.shared)) (sym r.3)
          (now_committed (as_shared t false (item r.0)) (subst (λ (w : Name). In (as_shared w false (item r.0)) c.shared) nx (s.pushed_stand x ix r.0 r.1 (pushed r.0 r.1 r.2))) refl));
      uncommitted_from = λ g i u. let m = from_map (commit t) g c.shared i in un g m.0 m.1 m.2 u (commit_cases t m.0 (m.0).committed refl);
      committed_from = λ g i u. let m = from_map (commit t) g c.shared i in co g m.0 m.1 m.2 u (commit_cases t m.0 (m.0).committed refl);
      shared_allowed = subst (λ (w : List Op). Allowed O w) (sym (ops_committed t c.shared)) s.shared_allowed;
      local_allowed = λ y i. s.local_allowed y (was y i);
      uncommitted_swap = λ g h i n u.
          let m = before_from_map (commit t) g h c.shared i in
          let kg = commit_keeps_rest t m.0 in
          let kh = commit_keeps_rest t m.1 in
          swapped g h m.0 m.1 m.3 m.4 (elim (commit_cases t m.0 (m.0).committed refl) [
            | inl a ↦ absurd (clash g m.0 m.3 (a.1) a.0 u)
            | inr (inl a) ↦ absurd (clash' g m.0 m.3 a.2 u)
            | inr (inr a) ↦ s.uncommitted_swap m.0 m.1 m.2 (λ e. n (owner_is g m.0 m.3 ∙ e ∙ sym (owner_is h m.1 m.4))) a.0
          ]);
      late_swap = λ g h i n u v k.
          let m = before_from_map (commit t) g h c.shared i in
          let neq = λ (e : (m.0).owner ≡ (m.1).owner). n (owner_is g m.0 m.3 ∙ e ∙ sym (owner_is h m.1 m.4)) in
          swapped g h m.0 m.1 m.3 m.4 (late m.0 m.1 m.2 neq (m.0).committed refl
          (subst (λ (w : Name). CommittedAfter (c.done ++ new ∷ []) w (m.1).owner) (owner_is g m.0 m.3) (subst (λ (w : Name). CommittedAfter (c.done ++ new ∷ []) g.owner w) (owner_is h m.1 m.4) k)));
      open_order = λ y i. order_committed O t c.shared (own_items y.local) (s.open_order y (was y i));
      done_order = each_added c.done new (λ (w : CommittedTx Op). KeepsOrder O (commit_all t c.shared) w.entries)
          (λ d i. order_committed O t c.shared d.entries (s.done_order d i)) (order_committed O t c.shared (own_items x.local) (s.open_order x ix));
      own_pulled = λ y i. s.own_pulled y (was y i);
      begun = λ y i. s.begun y (was y i);
    }
  where
    new : CommittedTx Op
    new = record { name = t; entries = own_items x.local }

    stays : Tx Op → Bool
    stays y = not (y.name =ⁿ t)

    was : (y : Tx Op) → In y (without_tx t c.opened) → In y c.opened
    was y i = (from_filter stays y c.opened i).0

    old : (u : Name) (p : Item Op) → Owns (commit_effect c t (Some x)) u p → Owns c u p
    old u p (inl i) = inl (i.0, was i.0 i.1, i.2, i.3)
    old u p (inr i) = each_added c.done new (λ (w : CommittedTx Op). w.name ≡ u → In p w.entries → Owns c u p) (λ d k n m. inr (d, k, n, m)) (λ n m. inl (x, ix, nx ∙ n, m)) i.0 i.1 i.2 i.3

    kept_other : (g : SharedEntry Op) → In g c.shared → g.owner ≢ t → In g (commit_all t c.shared)
    kept_other g i n = subst (λ (w : SharedEntry Op). In w (commit_all t c.shared)) (elim (names_tell g.owner t) [ inl r ↦ absurd (n r.1) | inr r ↦ ap (λ (b : Bool). cond b (as_committed g) g) r.0 ]) (in_map (commit t) g c.shared i)

    kept_committed : (g : SharedEntry Op) → In g c.shared → g.committed ≡ true → In g (commit_all t c.shared)
    kept_committed g i e = subst (λ (w : SharedEntry Op). In w (commit_all t c.shared)) (elim (commit_cases t g true e) [
      | inl r ↦ r.1
      | inr (inl r) ↦ absurd (let z : true ≡ false = sym e ∙ r.0 in cc)
      | inr (inr r) ↦ r.2
    ]) (in_map (commit t) g c.shared i)

    now_committed : (g : SharedEntry Op) → In g c.shared → g.owner ≡ t → In (as_committed g) (commit_all t c.shared)
    now_committed g i e = subst (λ (w : SharedEntry Op). In w (commit_all t c.shared)) (ap (λ (b : Bool). cond b (as_committed g) g) (eq-names g.owner t e)) (in_map (commit t) g c.shared i)

    owner_is : (g g' : SharedEntry Op) → g ≡ commit t g' → g.owner ≡ g'.owner
    owner_is g g' e = ap (λ (w : SharedEntry Op). w.owner) e ∙ (commit_keeps_rest t g').1

    op_is : (g g' : SharedEntry Op) → g ≡ commit t g' → g'.op ≡ g.op
    op_is g g' e = sym (ap (λ (w : SharedEntry Op). w.op) e ∙ (commit_keeps_rest t g').2)

    swapped : (g h g' h' : SharedEntry Op) → g ≡ commit t g' → h ≡ commit t h' → Swaps O g'.op h'.op → Swaps O g.op h.op
    swapped g h g' h' e f w = subst (λ (o : Op). Swaps O o h.op) (op_is g g' e) (subst (λ (o : Op). Swaps O g'.op o) (op_is h h' f) w)

    clash : (g g' : SharedEntry Op) → g ≡ commit t g' → commit t g' ≡ g' → g'.committed ≡ true → g.committed ≡ false → ⊥
    clash g g' e f a u = let z : true ≡ false = sym a ∙ ap (λ (w : SharedEntry Op). w.committed) (sym f ∙ sym e) ∙ u in cc

    clash' : (g g' : SharedEntry Op) → g ≡ commit t g' → commit t g' ≡ as_committed g' → g.committed ≡ false → ⊥
    clash' g g' e f u = let z : true ≡ false = ap (λ (w : SharedEntry Op). w.committed) (sym f ∙ sym e) ∙ u in cc

    un : (g g' : SharedEntry Op) → In g' c.shared → g ≡ commit t g' → g.committed ≡ false →
        ((g'.committed ≡ true) × (commit t g' ≡ g')) ⊎ ((g'.committed ≡ false) × (g'.owner ≡ t) × (commit t g' ≡ as_committed g')) ⊎ ((g'.committed ≡ false) × (g'.owner ≢ t) × (commit t g' ≡ g')) →
        (y : Tx Op) × In y (without_tx t c.opened) × (e : LocalEntry Op) × In e y.local × (e.mark ≡ Pushed) × (g ≡ as_shared y.name false (item e))
    un g g' i e u (inl a) = absurd (clash g g' e a.1 a.0 u)
    un g g' i e u (inr (inl a)) = absurd (clash' g g' e a.2 u)
    un g g' i e u (inr (inr a)) =
        let r = s.uncommitted_from g' i a.0 in
        (r.0, in_filter stays r.0 c.opened r.1 (names_not (r.0).name t (λ n. a.1 (ap (λ (w : SharedEntry Op). w.owner) r.5 ∙ n))), r.2, r.3, r.4, e ∙ a.2 ∙ r.5)

    co : (g g' : SharedEntry Op) → In g' c.shared → g ≡ commit t g' → g.committed ≡ true →
        ((g'.committed ≡ true) × (commit t g' ≡ g')) ⊎ ((g'.committed ≡ false) × (g'.owner ≡ t) × (commit t g' ≡ as_committed g')) ⊎ ((g'.committed ≡ false) × (g'.owner ≢ t) × (commit t g' ≡ g')) →
        (d : CommittedTx Op) × In d (c.done ++ new ∷ []) × (p : Item Op) × In p d.entries × (g ≡ as_shared d.name true p)
    co g g' i e u (inl a) = let r = s.committed_from g' i a.0 in (r.0, in_left r.0 c.done (new ∷ []) r.1, r.2, r.3, e ∙ a.1 ∙ r.4)
    co g g' i e u (inr (inl a)) =
        let r = s.uncommitted_from g' i a.0 in
        let same : x ≡ r.0 = by_key (λ (w : Tx Op). w.name) c.opened s.open_names x r.0 ix r.1 (nx ∙ sym a.1 ∙ ap (λ (w : SharedEntry Op). w.owner) r.5) in
        let mine : In r.2 x.local = subst (λ (w : Tx Op). In r.2 w.local) (sym same) r.3 in (
          new,
          in_right new c.done (new ∷ []) (inl refl),
          item r.2,
          in_own x.local r.2 mine (ap is_own r.4),
          e ∙ a.2 ∙ ap as_committed r.5 ∙ ap (λ (w : Name). as_shared w true (item r.2)) (ap (λ (w : Tx Op). w.name) (sym same) ∙ nx),
        )
    co g g' i e u (inr (inr a)) = absurd (let z : true ≡ false = sym u ∙ ap (λ (w : SharedEntry Op). w.committed) (e ∙ a.2) ∙ a.0 in cc)

    done_committed : (h : SharedEntry Op) → In h c.shared → (d : CommittedTx Op) → In d c.done → d.name ≡ h.owner → (b : Bool) → h.committed ≡ b → h.committed ≡ true
    done_committed h i d j n true e = e
    done_committed h i d j n false e = let r = s.uncommitted_from h i e in absurd (s.apart r.0 d r.1 j (sym (n ∙ ap (λ (w : SharedEntry Op). w.owner) r.5)))

    late : (g h : SharedEntry Op) → Before g h c.shared → g.owner ≢ h.owner → (b : Bool) → g.committed ≡ b → CommittedAfter (c.done ++ new ∷ []) g.owner h.owner → Swaps O g.op h.op
    late g h i n false e k = s.uncommitted_swap g h i n e
    late g h i n true e k = elim (before_added c.done new k.0 k.1 k.2) [
      | inl j ↦ s.late_swap g h i n e (done_committed h (before_in_second g h c.shared i) k.0 (before_in_first k.0 k.1 c.done j) k.3 h.committed refl) (k.0, k.1, j, k.3, k.4)
      | inr j ↦
          let r = s.committed_from g (before_in_first g h c.shared i) e in
          absurd (s.apart x r.0 ix r.1 (nx ∙ ap (λ (w : CommittedTx Op). w.name) (sym j.1) ∙ k.4 ∙ ap (λ (w : SharedEntry Op). w.owner) r.4))
    ]

-- A CMT that meets its criteria keeps a configuration sound.
pub commit_keeps : {Op State : Type 0} (O : Object Op State) (c : Config Op) → Sound O c → (t : Name) → Meets O c (Cmt t) → Sound O (then c (Cmt t))
commit_keeps {Op} O c s t h =
    let r = there_holds (tx t c.opened) _ h in
    let f = found_tx t c.opened r.0 r.1 in
    subst (λ (w : Option (Tx Op)). Sound O (commit_effect c t w)) (sym r.1) (committed_keeps O c s t r.0 f.0 f.1 r.2.1.0)
