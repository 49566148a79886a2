-- A local log that follows the shared log may be put before the rest of it.
use Rattle.std.specs.Prelude.{◌≡◌, ◌≢◌, ℕ, Bool, true, false, not, List, [], ◌∷◌, ◌++◌, map}
use Rattle.std.proofs.Common.{refl, sym, ap, subst, ◌∙◌, append_assoc}
use Rattle.std.proofs.lemmas.List.{map-append, append-nil}
use mathlib.Core.Logic.{inl, inr}
use Rattle.pp_model.specs.Lists.{In, Before}
use Rattle.pp_model.specs.Names.{Name}
use Rattle.pp_model.specs.Object.{Object, Allowed, Swaps, Item, ops, Reorders}
use Rattle.pp_model.specs.Config.{Pushed, is_own, LocalEntry, SharedEntry, Tx, Config, item, shared_item, local_ops, shared_ops, as_shared}
use Rattle.pp_model.specs.Sound.{Sound, OwnedAsMarked}
use Rattle.pp_model.proofs.Lists.{in_left, in_right, in_cases, before_cases, before_across, before_in_first, before_in_second, in_map, from_map, before_from_map, in_filter, from_filter, before_from_filter, by_key, in_order, not_both, split_at}
use Rattle.pp_model.proofs.Permute.{permuted}
use Rattle.pp_records.specs.Expansions.{stands_in}
use Rattle.pp_summary.specs.Boosted.{PlacesSwap, Follows, ComesBefore, rest}
use Rattle.pp_summary.proofs.Entries.{drawn_front}
use Rattle.pp_laws_summary.proofs.Entries.{is_there, entry_in, was_false, ops_items, ops_local, same_or_not}

module _ {Op State : Type 0} (O : Object Op State) (place : Op → ℕ) (apart : PlacesSwap O place)
    (c : Config Op) (s : Sound O c) (x : Tx Op) (ix : In x c.opened) (f : Follows O place c.shared x.local) where
  -- Each entry of the local log is in the shared log.
  pub stands : (e : LocalEntry Op) → In e x.local → (n : Name) × (b : Bool) × In (as_shared n b (item e)) c.shared
  stands e i = elim (s.marks x ix e i) [
    | inl o ↦ (x.name, false, s.pushed_stand x ix e i (f.own_pushed e i o.0))
    | inr o ↦ (e.owner, true, f.pulled_stand e i o.0)
  ]

  -- Entries of the shared log with one id are one entry.
  pub same : (g h : SharedEntry Op) → In g c.shared → In h c.shared → g.id ≡ h.id → g ≡ h
  same g h i j e = by_key (λ (w : SharedEntry Op). w.id) c.shared s.shared_ids g h i j e

  -- An entry of the shared log with the id of a local entry has the item of that entry.
  pub is_item : (e : LocalEntry Op) → In e x.local → (g : SharedEntry Op) → In g c.shared → g.id ≡ e.id → shared_item g ≡ item e
  is_item e i g j n = let r = stands e i in ap shared_item (same g (as_shared r.0 r.1 (item e)) j r.2 n)

  -- An uncommitted entry that is before an entry of the log only in the shared log has another owner.
  pub two_owners : (g h : SharedEntry Op) → Before g h c.shared → g.committed ≡ false →
      (b : LocalEntry Op) → In b x.local → h.id ≡ b.id → (ComesBefore g.id b.id x.local → ⊥) → g.owner ≢ h.owner
  two_owners g h i u b ib e un q =
      let r = s.uncommitted_from g ig u in
      owned r.0 r.1 r.2 r.3 r.4 r.5 (s.marks x ix b ib)
    where
      ig : In g c.shared
      ig = before_in_first g h c.shared i

      ih : In h c.shared
      ih = before_in_second g h c.shared i

      owned : (y : Tx Op) → In y c.opened → (a : LocalEntry Op) → In a y.local → a.mark ≡ Pushed → g ≡ as_shared y.name false (item a) → OwnedAsMarked x.name b → ⊥
      owned y iy a ia ma eg (inr o) =
          let eh : h ≡ as_shared b.owner true (item b) = same h (as_shared b.owner true (item b)) ih (f.pulled_stand b ib o.0) e in
          let d = s.committed_from h ih (ap (λ (w : SharedEntry Op). w.committed) eh) in
          s.apart y d.0 iy d.1 (ap (λ (w : SharedEntry Op). w.owner) (sym eg) ∙ q ∙ ap (λ (w : SharedEntry Op). w.owner) d.4)
      owned y iy a ia ma eg (inl o) =
          let eh : h ≡ as_shared x.name false (item b) = same h (as_shared x.name false (item b)) ih (s.pushed_stand x ix b ib (f.own_pushed b ib o.0)) e in
          let yx : y ≡ x = by_key (λ (w : Tx Op). w.name) c.opened s.open_names y x iy ix (ap (λ (w : SharedEntry Op). w.owner) (sym eg) ∙ q ∙ ap (λ (w : SharedEntry Op). w.owner) eh) in
          let here : In a x.local = subst (λ (w : Tx Op). In a w.local) yx ia in
          elim (in_order a b x.local here ib) [
            | inl z ↦ s.shared_ids g h i (ap (λ (w : SharedEntry Op). w.id) eg ∙ ap (λ (w : LocalEntry Op). w.id) z ∙ sym e)
            | inr (inl z) ↦ un (a, b, z, ap (λ (w : SharedEntry Op). w.id) (sym eg), refl)
            | inr (inr z) ↦
                let k = f.own_order b a z o.0 (ap is_own ma) in
                let k0 : k.0 ≡ h = same k.0 h (before_in_first k.0 k.1 c.shared k.2) ih (k.3 ∙ sym e) in
                let k1 : k.1 ≡ g = same k.1 g (before_in_second k.0 k.1 c.shared k.2) ig (k.4 ∙ ap (λ (w : SharedEntry Op). w.id) (sym eg)) in
                not_both (λ (w : SharedEntry Op). w.id) c.shared s.shared_ids g h i
                (subst (λ (w : SharedEntry Op). Before w g c.shared) k0 (subst (λ (w : SharedEntry Op). Before k.0 w c.shared) k1 k.2))
          ]

  -- An entry that is before an entry of the log only in the shared log swaps with it.
  pub turn : (g h : SharedEntry Op) → Before g h c.shared → (b : LocalEntry Op) → In b x.local → h.id ≡ b.id →
      (ComesBefore g.id b.id x.local → ⊥) → Swaps O g.op h.op
  turn g h i b ib e un = by g.committed refl
    where
      op_is : h.op ≡ b.op
      op_is = ap (λ (w : Item Op). w.op) (is_item b ib h (before_in_second g h c.shared i) e)

      by : (z : Bool) → g.committed ≡ z → Swaps O g.op h.op
      by true u = subst (λ (w : Op). Swaps O g.op w) (sym op_is) (elim (same_or_not (place g.op) (place b.op)) [
        | inl p ↦ f.late b g ib (before_in_first g h c.shared i, u, p) (g, h, i, refl, e) un
        | inr p ↦ apart.apart g.op b.op p
      ])
      by false u = s.uncommitted_swap g h i (two_owners g h i u b ib e un) u

  -- An entry of the rest is not in the log.
  absent : (g : SharedEntry Op) → not (stands_in x.local g.id) ≡ true → (a : LocalEntry Op) → In a x.local → a.id ≡ g.id → ⊥
  absent g n a i e = let z : true ≡ false = sym (is_there g.id x.local a i e) ∙ was_false (stands_in x.local g.id) n in cc

  abbrev out : SharedEntry Op → Bool
  out g = not (stands_in x.local g.id)

  -- A shared log may be reordered: first a local log that follows it, and then the rest.
  pub reordered : Reorders O (map shared_item c.shared) (map item x.local ++ map shared_item (rest x.local c.shared))
  reordered =
      record {
        distinct_x = λ p q i e.
            let m = before_from_map shared_item p q c.shared i in
            s.shared_ids m.0 m.1 m.2 (ap (λ (w : Item Op). w.id) (sym m.3) ∙ e ∙ ap (λ (w : Item Op). w.id) m.4);
        distinct_y = λ p q i e. elim (before_cases p q (map item L) (map shared_item R) i) [
          | inl j ↦ let m = before_from_map item p q L j in s.local_ids x ix m.0 m.1 m.2 (ap (λ (w : Item Op). w.id) (sym m.3) ∙ e ∙ ap (λ (w : Item Op). w.id) m.4)
          | inr (inl j) ↦
              let m = before_from_map shared_item p q R j in
              s.shared_ids m.0 m.1 (before_from_filter out m.0 m.1 c.shared m.2) (ap (λ (w : Item Op). w.id) (sym m.3) ∙ e ∙ ap (λ (w : Item Op). w.id) m.4)
          | inr (inr j) ↦
              let m = from_map item p L j.0 in
              let n = from_map shared_item q R j.1 in
              absent n.0 (from_filter out n.0 c.shared n.1).1 m.0 m.1 (ap (λ (w : Item Op). w.id) (sym m.2) ∙ e ∙ ap (λ (w : Item Op). w.id) n.2)
        ];
        into = λ p i. let m = from_map shared_item p c.shared i in subst (λ (w : Item Op). In w (map item L ++ map shared_item R)) (sym m.2) (put m.0 m.1 (stands_in L (m.0).id) refl);
        back = λ p i. elim (in_cases p (map item L) (map shared_item R) i) [
          | inl j ↦
              let m = from_map item p L j in
              let r = stands m.0 m.1 in
              subst (λ (w : Item Op). In w (map shared_item c.shared)) (sym m.2) (in_map shared_item (as_shared r.0 r.1 (item m.0)) c.shared r.2)
          | inr j ↦ let m = from_map shared_item p R j in subst (λ (w : Item Op). In w (map shared_item c.shared)) (sym m.2) (in_map shared_item m.0 c.shared (from_filter out m.0 c.shared m.1).0)
        ];
        turned = λ p q i j.
            let m = before_from_map shared_item p q c.shared i in
            subst (λ (w : Item Op). Swaps O w.op q.op) (sym m.3) (subst (λ (w : Item Op). Swaps O (m.0).op w.op) (sym m.4)
            (inverted m.0 m.1 m.2 (subst (λ (w : Item Op). Before w (shared_item m.0) (map item L ++ map shared_item R)) m.4
            (subst (λ (w : Item Op). Before q w (map item L ++ map shared_item R)) m.3 j))));
      }
    where
      L : List (LocalEntry Op)
      L = x.local

      R : List (SharedEntry Op)
      R = rest x.local c.shared

      put : (g : SharedEntry Op) → In g c.shared → (b : Bool) → stands_in L g.id ≡ b → In (shared_item g) (map item L ++ map shared_item R)
      put g i true e =
          let r = entry_in g.id L e in
          subst (λ (w : Item Op). In w (map item L ++ map shared_item R)) (sym (is_item r.0 r.1 g i (sym r.2))) (in_left (item r.0) (map item L) (map shared_item R) (in_map item r.0 L r.1))
      put g i false e = in_right (shared_item g) (map item L) (map shared_item R) (in_map shared_item g R (in_filter out g c.shared i (ap not e)))

      inverted : (g h : SharedEntry Op) → Before g h c.shared → Before (shared_item h) (shared_item g) (map item L ++ map shared_item R) → Swaps O g.op h.op
      inverted g h i j = elim (before_cases (shared_item h) (shared_item g) (map item L) (map shared_item R) j) [
        | inl k ↦
            let m = before_from_map item (shared_item h) (shared_item g) L k in
            turn g h i m.0 (before_in_first m.0 m.1 L m.2) (ap (λ (w : Item Op). w.id) m.3) (λ z. crossed m.0 m.1 m.2 g.id (ap (λ (w : Item Op). w.id) m.4) z)
        | inr (inl k) ↦
            let m = before_from_map shared_item (shared_item h) (shared_item g) R k in
            let n = before_from_filter out m.0 m.1 c.shared m.2 in
            let eh : m.0 ≡ h = same m.0 h (before_in_first m.0 m.1 c.shared n) (before_in_second g h c.shared i) (ap (λ (w : Item Op). w.id) (sym m.3)) in
            let eg : m.1 ≡ g = same m.1 g (before_in_second m.0 m.1 c.shared n) (before_in_first g h c.shared i) (ap (λ (w : Item Op). w.id) (sym m.4)) in
            absurd (not_both (λ (w : SharedEntry Op). w.id) c.shared s.shared_ids g h i
            (subst (λ (w : SharedEntry Op). Before w g c.shared) eh (subst (λ (w : SharedEntry Op). Before m.0 w c.shared) eg n)))
        | inr (inr k) ↦
            let m = from_map item (shared_item h) L k.0 in
            let n = from_map shared_item (shared_item g) R k.1 in
            turn g h i m.0 m.1 (ap (λ (w : Item Op). w.id) m.2)
            (λ z. absent n.0 (from_filter out n.0 c.shared n.1).1 z.0 (before_in_first z.0 z.1 L z.2) (z.3 ∙ ap (λ (w : Item Op). w.id) n.2))
      ]
        where
          crossed : (b a : LocalEntry Op) → Before b a L → (id : ℕ) → id ≡ a.id → ComesBefore id b.id L → ⊥
          crossed b a i id e z =
              let ea : z.0 ≡ a = by_key (λ (w : LocalEntry Op). w.id) L (s.local_ids x ix) z.0 a (before_in_first z.0 z.1 L z.2) (before_in_second b a L i) (z.3 ∙ e) in
              let eb : z.1 ≡ b = by_key (λ (w : LocalEntry Op). w.id) L (s.local_ids x ix) z.1 b (before_in_second z.0 z.1 L z.2) (before_in_first b a L i) z.4 in
              not_both (λ (w : LocalEntry Op). w.id) L (s.local_ids x ix) b a i
              (subst (λ (w : LocalEntry Op). Before w b L) ea (subst (λ (w : LocalEntry Op). Before z.0 w L) eb z.2))

  -- An operation list that is allowed after the shared log is allowed after the local log and then the rest.
  pub viewed : (k : List Op) → Allowed O (shared_ops c.shared ++ k) → Allowed O (local_ops x.local ++ (shared_ops (rest x.local c.shared) ++ k))
  viewed k h =
      let R = rest x.local c.shared in
      let y : List (Item Op) = map item x.local ++ map shared_item R in
      let h1 : Allowed O (ops (map shared_item c.shared) ++ k) = subst (λ (w : List Op). Allowed O (w ++ k)) (sym (ops_items c.shared)) h in
      let h2 : Allowed O (ops y ++ k) = permuted O y (map shared_item c.shared) [] k reordered h1 in
      let e : ops y ≡ local_ops x.local ++ shared_ops R = map-append (λ (w : Item Op). w.op) (map item x.local) (map shared_item R)
      ∙ ap (λ (w : List Op). w ++ ops (map shared_item R)) (ops_local x.local) ∙ ap (λ (w : List Op). local_ops x.local ++ w) (ops_items R) in
      subst (λ (w : List Op). Allowed O w) (append_assoc (local_ops x.local) (shared_ops R) k) (subst (λ (w : List Op). Allowed O (w ++ k)) e h2)

  -- An entry of the rest that swaps with those before it in the rest is allowed after the local log.
  pub next_allowed : (g : SharedEntry Op) → In g (rest x.local c.shared) → ((q : SharedEntry Op) → Before q g (rest x.local c.shared) → Swaps O q.op g.op) →
      Allowed O (local_ops x.local ++ g.op ∷ [])
  next_allowed g i sw =
      let r = split_at g (rest x.local c.shared) i in
      let h = viewed [] (subst (λ (w : List Op). Allowed O w) (sym (append-nil (shared_ops c.shared))) s.shared_allowed) in
      let h1 : Allowed O (local_ops x.local ++ shared_ops (rest x.local c.shared)) = subst (λ (w : List Op). Allowed O (local_ops x.local ++ w)) (append-nil (shared_ops (rest x.local c.shared))) h in
      let e : shared_ops (rest x.local c.shared) ≡ shared_ops r.0 ++ (g.op ∷ shared_ops r.1) = ap (λ (w : List (SharedEntry Op)). shared_ops w) r.2 ∙ map-append (λ (w : SharedEntry Op). w.op) r.0 (g ∷ r.1) in
      drawn_front O r.0 g.op (local_ops x.local) (shared_ops r.1)
      (λ q j. sw q (subst (λ (w : List (SharedEntry Op)). Before q g w) (sym r.2) (before_across q g r.0 (g ∷ r.1) j (inl refl))))
      (subst (λ (w : List Op). Allowed O (local_ops x.local ++ w)) e h1)

  -- An operation that is allowed after the shared log, and swaps with the rest, is allowed after the local log.
  pub end_allowed : (o : Op) → ((q : SharedEntry Op) → In q (rest x.local c.shared) → Swaps O q.op o) → Allowed O (shared_ops c.shared ++ o ∷ []) →
      Allowed O (local_ops x.local ++ o ∷ [])
  end_allowed o sw h = drawn_front O (rest x.local c.shared) o (local_ops x.local) [] sw (viewed (o ∷ []) h)
