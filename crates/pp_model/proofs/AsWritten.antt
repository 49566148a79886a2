-- A sound configuration meets the seven parts word by word, and the other way round.
use Rattle.std.specs.Prelude.{◌≡◌, ◌≢◌, Bool, List, map, true, false, ℕ, [], ◌∷◌}
use Rattle.std.proofs.Common.{refl, sym, ap, subst, ◌∙◌}
use mathlib.Core.Logic.{inl, inr}
use Rattle.pp_model.specs.AsWritten.{AsWritten, StandsFor}
use Rattle.pp_model.specs.Config.{Config, CommittedTx, LocalEntry, SharedEntry, Tx, is_own, item}
use Rattle.pp_model.specs.Config.{shared_item, own_items, as_shared}
use Rattle.pp_model.specs.Lists.{Before, In, joined}
use Rattle.pp_model.specs.Object.{Item, Object}
use Rattle.pp_model.specs.Sound.{OwnedAsMarked, Owns, Sound, serial_items}
use Rattle.pp_model.proofs.Lists.{in_left, in_right, in_cases, before_left, before_right}
use Rattle.pp_model.proofs.Lists.{before_across, before_cases, before_in_first, before_in_second}
use Rattle.pp_model.proofs.Lists.{in_map, from_map, before_map, before_from_map, by_key}
use Rattle.pp_model.proofs.Logs.{from_own, in_own}
use Rattle.pp_model.proofs.Local.{shared_used}
use Rattle.pp_model.proofs.Serial.{from_serial, to_serial, before_from_serial}
use Rattle.pp_model.specs.Names.{Name}

before_joined : {A : Type 0} (x y : A) (xs : List A) (xss : List (List A)) → In xs xss → Before x y xs → Before x y (joined xss)
before_joined x y xs [] i h = absurd i
before_joined {A} x y xs (ys ∷ xss) (inl e) h = before_left x y ys (joined xss) (subst (λ (w : List A). Before x y w) e h)
before_joined x y xs (ys ∷ xss) (inr i) h = before_right x y ys (joined xss) (before_joined x y xs xss i h)

marked_own : {Op : Type 0} (t : Name) (e : LocalEntry Op) → OwnedAsMarked t e → e.owner ≡ t → is_own e.mark ≡ true
marked_own t e (inl z) o = z.0
marked_own t e (inr z) o = absurd (z.1 o)

own_marked : {Op : Type 0} (t : Name) (e : LocalEntry Op) → OwnedAsMarked t e → is_own e.mark ≡ true → e.owner ≡ t
own_marked t e (inl z) o = z.1
own_marked t e (inr z) o = absurd (let y : true ≡ false = sym o ∙ ap is_own z.0 in cc)

-- What is recorded for t is owned by t.
stands_owned : {Op State : Type 0} (O : Object Op State) (c : Config Op) → Sound O c → (t : Name) (p : Item Op) → StandsFor c t p → Owns c t p
stands_owned {Op} O c s t p (inl h) =
    let e = h.3.0 in
    inl (h.0, h.1, h.2, subst (λ (w : Item Op). In w (own_items (h.0).local)) h.3.3 (in_own (h.0).local e h.3.1 (marked_own (h.0).name e (s.marks h.0 h.1 e h.3.1) (h.3.2 ∙ sym h.2))))
stands_owned {Op} O c s t p (inr (inl h)) = go (h.0).committed refl
  where
    go : (b : Bool) → (h.0).committed ≡ b → Owns c t p
    go true u =
        let r = s.committed_from h.0 h.1 u in
        inr (r.0, r.1, ap (λ (w : SharedEntry Op). w.owner) (sym r.4) ∙ h.2, subst (λ (w : Item Op). In w (r.0).entries) (ap shared_item (sym r.4) ∙ h.3) r.3)
    go false u =
        let r = s.uncommitted_from h.0 h.1 u in
        inl (r.0, r.1, ap (λ (w : SharedEntry Op). w.owner) (sym r.5) ∙ h.2, subst (λ (w : Item Op). In w (own_items (r.0).local)) (ap shared_item (sym r.5) ∙ h.3) (in_own (r.0).local r.2 r.3 (ap is_own r.4)))
stands_owned O c s t p (inr (inr h)) = inr h

-- two owned items of one id are one
owned_one : {Op State : Type 0} (O : Object Op State) (c : Config Op) → Sound O c → (t u : Name) (p q : Item Op) → Owns c t p → Owns c u q → p.id ≡ q.id → p ≡ q
owned_one {Op} O c s t u p q i j e = go i j (s.one_owner t u p q i j e)
  where
    go : Owns c t p → Owns c u q → t ≡ u → p ≡ q
    go (inl a) (inl b) n =
        let same : a.0 ≡ b.0 = by_key (λ (w : Tx Op). w.name) c.opened s.open_names a.0 b.0 a.1 b.1 (a.2 ∙ n ∙ sym b.2) in
        let x = from_own (a.0).local p a.3 in
        let y = from_own (a.0).local q (subst (λ (w : Tx Op). In q (own_items w.local)) (sym same) b.3) in
        x.3 ∙ ap item (by_key (λ (w : LocalEntry Op). w.id) (a.0).local (s.local_ids a.0 a.1) x.0 y.0 x.1 y.1 (ap (λ (w : Item Op). w.id) (sym x.3) ∙ e ∙ ap (λ (w : Item Op). w.id) y.3)) ∙ sym y.3
    go (inl a) (inr b) n = absurd (s.apart a.0 b.0 a.1 b.1 (a.2 ∙ n ∙ sym b.2))
    go (inr a) (inl b) n = absurd (s.apart b.0 a.0 b.1 a.1 (b.2 ∙ sym n ∙ sym a.2))
    go (inr a) (inr b) n =
        let same : a.0 ≡ b.0 = by_key (λ (w : CommittedTx Op). w.name) c.done s.done_names a.0 b.0 a.1 b.1 (a.2 ∙ n ∙ sym b.2) in
        by_key (λ (w : Item Op). w.id) (a.0).entries (s.done_ids a.0 a.1) p q a.3 (subst (λ (w : CommittedTx Op). In q w.entries) (sym same) b.3) e

-- A sound configuration meets the conditions of `AsWritten`.
pub as_written : {Op State : Type 0} (O : Object Op State) (c : Config Op) → Sound O c → AsWritten O c
as_written {Op} O c s =
    record {
      marks = s.marks;
      names = λ t u i e. elim (before_cases t u (map (λ (x : Tx Op). x.name) c.opened) (map (λ (d : CommittedTx Op). d.name) c.done) i) [
        | inl j ↦ let m = before_from_map (λ (x : Tx Op). x.name) t u c.opened j in s.open_names m.0 m.1 m.2 (sym m.3 ∙ e ∙ m.4)
        | inr (inl j) ↦ let m = before_from_map (λ (d : CommittedTx Op). d.name) t u c.done j in s.done_names m.0 m.1 m.2 (sym m.3 ∙ e ∙ m.4)
        | inr (inr j) ↦ let m = from_map (λ (x : Tx Op). x.name) t c.opened j.0 in let n = from_map (λ (d : CommittedTx Op). d.name) u c.done j.1 in s.apart m.0 n.0 m.1 n.1 (sym m.2 ∙ e ∙ n.2)
      ];
      names_begun = λ t i. elim (in_cases t (map (λ (x : Tx Op). x.name) c.opened) (map (λ (d : CommittedTx Op). d.name) c.done) i) [
        | inl j ↦ let m = from_map (λ (x : Tx Op). x.name) t c.opened j in subst (λ (w : Name). In w c.names) (sym m.2) (s.open_known m.0 m.1)
        | inr j ↦ let m = from_map (λ (d : CommittedTx Op). d.name) t c.done j in subst (λ (w : Name). In w c.names) (sym m.2) (s.done_known m.0 m.1)
      ];
      done_ids = λ i j k e.
          let m = before_from_map (λ (p : Item Op). p.id) i j (serial_items c.done) k in
          let n : (m.0).id ≡ (m.1).id = sym m.3 ∙ e ∙ m.4 in
          elim (before_from_serial c.done m.0 m.1 m.2) [
            | inl r ↦ s.done_ids r.0 r.1 m.0 m.1 r.2 n
            | inr r ↦ s.done_names r.0 r.1 r.2 (s.one_owner (r.0).name (r.1).name m.0 m.1 (inr (r.0, before_in_first r.0 r.1 c.done r.2, refl, r.3)) (inr (r.1, before_in_second r.0 r.1 c.done r.2, refl, r.4)) n)
          ];
      shared_ids = λ i j k e. let m = before_from_map (λ (g : SharedEntry Op). g.id) i j c.shared k in s.shared_ids m.0 m.1 m.2 (sym m.3 ∙ e ∙ m.4);
      local_ids = λ x ix i j k e. let m = before_from_map (λ (g : LocalEntry Op). g.id) i j x.local k in s.local_ids x ix m.0 m.1 m.2 (sym m.3 ∙ e ∙ m.4);
      done_used = λ i k.
          let m = from_map (λ (p : Item Op). p.id) i (serial_items c.done) k in
          let r = from_serial c.done m.0 m.1 in
          subst (λ (w : ℕ). In w c.ids) (sym m.2) (s.done_used r.0 r.1 m.0 r.2);
      shared_used = λ i k. let m = from_map (λ (g : SharedEntry Op). g.id) i c.shared k in subst (λ (w : ℕ). In w c.ids) (sym m.2) (shared_used O c s m.0 m.1);
      local_used = λ x ix i k. let m = from_map (λ (g : LocalEntry Op). g.id) i x.local k in subst (λ (w : ℕ). In w c.ids) (sym m.2) (s.local_used x ix m.0 m.1);
      one = λ t u p q i j e. (s.one_owner t u p q (stands_owned O c s t p i) (stands_owned O c s u q j) e, owned_one O c s t u p q (stands_owned O c s t p i) (stands_owned O c s u q j) e);
      pushed = λ x ix p. (
        (λ h. (as_shared x.name false (item h.0), s.pushed_stand x ix h.0 h.1 h.3, refl, refl, h.4)),
        (λ h. let r = s.uncommitted_from h.0 h.1 h.2 in
            let same : r.0 ≡ x = by_key (λ (w : Tx Op). w.name) c.opened s.open_names r.0 x r.1 ix (ap (λ (w : SharedEntry Op). w.owner) (sym r.5) ∙ h.3) in
            let here : In r.2 x.local = subst (λ (w : Tx Op). In r.2 w.local) same r.3 in
            (r.2, here, own_marked x.name r.2 (s.marks x ix r.2 here) (ap is_own r.4), r.4, ap shared_item (sym r.5) ∙ h.4)),
      );
      owned_open = λ g i u. let r = s.uncommitted_from g i u in (r.0, r.1, ap (λ (w : SharedEntry Op). w.owner) (sym r.5));
      done = λ p. (
        (λ h. let r = s.committed_from h.0 h.1 h.2 in to_serial c.done r.0 p r.1 (subst (λ (w : Item Op). In w (r.0).entries) (ap shared_item (sym r.4) ∙ h.3) r.3)),
        (λ h. let r = from_serial c.done p h in (as_shared (r.0).name true p, s.done_stand r.0 r.1 p r.2, refl, refl)),
      );
      shared_allowed = s.shared_allowed;
      local_allowed = s.local_allowed;
      shared_order = λ g h i n k. elim k [ inl u ↦ s.uncommitted_swap g h i n u | inr u ↦ s.late_swap g h i n u.0 u.1 u.2 ];
      open_order = s.open_order;
      done_order = s.done_order;
      own_pulled = λ x ix a p i o m. s.own_pulled x ix a p i (marked_own x.name a (s.marks x ix a (before_in_first a p x.local i)) o) m;
      begun = s.begun;
    }

-- and back
pub from_written : {Op State : Type 0} (O : Object Op State) (c : Config Op) → AsWritten O c → Sound O c
from_written {Op} O c s =
    record {
      marks = s.marks;
      open_names = λ x y i e. s.names x.name y.name (before_left x.name y.name on dn (before_map (λ (x : Tx Op). x.name) x y c.opened i)) e;
      done_names = λ x y i e. s.names x.name y.name (before_right x.name y.name on dn (before_map (λ (d : CommittedTx Op). d.name) x y c.done i)) e;
      apart = λ x d i j e. s.names x.name d.name (before_across x.name d.name on dn (in_map (λ (x : Tx Op). x.name) x c.opened i) (in_map (λ (d : CommittedTx Op). d.name) d c.done j)) e;
      open_known = λ x i. s.names_begun x.name (in_left x.name on dn (in_map (λ (x : Tx Op). x.name) x c.opened i));
      done_known = λ d i. s.names_begun d.name (in_right d.name on dn (in_map (λ (d : CommittedTx Op). d.name) d c.done i));
      local_ids = λ x ix e f i. s.local_ids x ix e.id f.id (before_map (λ (e : LocalEntry Op). e.id) e f x.local i);
      shared_ids = ids;
      done_ids = λ d i p q j e. s.done_ids p.id q.id (before_map (λ (p : Item Op). p.id) p q (serial_items c.done)
          (before_joined p q d.entries (map (λ (d : CommittedTx Op). d.entries) c.done) (in_map (λ (d : CommittedTx Op). d.entries) d c.done i) j)) e;
      local_used = λ x ix e i. s.local_used x ix e.id (in_map (λ (e : LocalEntry Op). e.id) e x.local i);
      done_used = λ d i p j. s.done_used p.id (in_map (λ (p : Item Op). p.id) p (serial_items c.done) (to_serial c.done d p i j));
      one_owner = λ t u p q i j e. (s.one t u p q (owned_stands t p i) (owned_stands u q j) e).0;
      pushed_stand = λ x ix e i m.
          let h = (s.pushed x ix (item e)).0 (e, i, own_marked x.name e (s.marks x ix e i) (ap is_own m), m, refl) in
          subst (λ (w : SharedEntry Op). In w c.shared) (entry h.0 false x.name (item e) h.2 h.3 h.4) h.1;
      done_stand = λ d i p j.
          let h = (s.done p).1 (to_serial c.done d p i j) in
          let o = s.one (h.0).owner d.name p p (inr (inl (h.0, h.1, refl, h.3))) (inr (inr (d, i, refl, j))) refl in
          subst (λ (w : SharedEntry Op). In w c.shared) (entry h.0 true d.name p h.2 o.0 h.3) h.1;
      uncommitted_from = λ g i u.
          let x = s.owned_open g i u in
          let h = (s.pushed x.0 x.1 (shared_item g)).1 (g, i, u, sym x.2, refl) in
          (x.0, x.1, h.0, h.1, h.3, entry g false (x.0).name (item h.0) u (sym x.2) (sym h.4));
      committed_from = λ g i u.
          let h = (s.done (shared_item g)).0 (g, i, u, refl) in
          let d = from_serial c.done (shared_item g) h in
          let o = s.one g.owner (d.0).name (shared_item g) (shared_item g) (inr (inl (g, i, refl, refl))) (inr (inr (d.0, d.1, refl, d.2))) refl in
          (d.0, d.1, shared_item g, d.2, entry g true (d.0).name (shared_item g) u o.0 refl);
      shared_allowed = s.shared_allowed;
      local_allowed = s.local_allowed;
      uncommitted_swap = λ g h i n u. s.shared_order g h i n (inl u);
      late_swap = λ g h i n u v k. s.shared_order g h i n (inr (u, v, k));
      open_order = s.open_order;
      done_order = s.done_order;
      own_pulled = λ x ix a p i o m. s.own_pulled x ix a p i (own_marked x.name a (s.marks x ix a (before_in_first a p x.local i)) o) m;
      begun = s.begun;
    }
  where
    on : List Name
    on = map (λ (x : Tx Op). x.name) c.opened

    dn : List Name
    dn = map (λ (d : CommittedTx Op). d.name) c.done

    ids : (g h : SharedEntry Op) → Before g h c.shared → g.id ≢ h.id
    ids g h i = s.shared_ids g.id h.id (before_map (λ (g : SharedEntry Op). g.id) g h c.shared i)

    entry : (g : SharedEntry Op) (b : Bool) (t : Name) (p : Item Op) → g.committed ≡ b → g.owner ≡ t → shared_item g ≡ p → g ≡ as_shared t b p
    entry g b t p x y z =
        ap (λ (w : Bool). record { id = g.id; owner = g.owner; committed = w; op = g.op }) x
        ∙ ap (λ (w : Name). record { id = g.id; owner = w; committed = b; op = g.op }) y
        ∙ ap (λ (w : Item Op). as_shared t b w) z

    owned_stands : (t : Name) (p : Item Op) → Owns c t p → StandsFor c t p
    owned_stands t p (inl h) =
        let e = from_own (h.0).local p h.3 in
        inl (h.0, h.1, h.2, (e.0, e.1, own_marked (h.0).name e.0 (s.marks h.0 h.1 e.0 e.1) e.2 ∙ h.2, sym e.3))
    owned_stands t p (inr h) = inr (inr h)
