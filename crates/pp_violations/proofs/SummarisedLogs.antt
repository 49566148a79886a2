-- What is allowed after the local log of a boosted transaction at a place is allowed after its pulled entries there, in commit order, and
-- then its own operations.
use Rattle.std.specs.Prelude.{◌≡◌, ◌≢◌, ◌==◌, ℕ, Bool, true, false, not, ◌&&◌, List, [], ◌++◌, filter, map}
use Rattle.std.proofs.Common.{refl, sym, ap, subst, ◌∙◌, append_assoc}
use Rattle.std.proofs.lemmas.Bool.{and_parts, eqb-true, eq-eqb}
use Rattle.std.proofs.lemmas.List.{append-nil, map-append}
use mathlib.Core.Logic.{inl, inr}
use Rattle.pp_model.specs.Config.{Config, LocalEntry, Mark, Pulled, Pushed, SharedEntry, Tx, Unpushed, as_shared, is_own, item, local_ops, own, shared_item, shared_ops}
use Rattle.pp_model.specs.Lists.{Before, In}
use Rattle.pp_model.specs.Object.{Allowed, AllowedFrom, HasDistinctIds, Item, Object, Reorders, Swaps, TellsStates, ops, state}
use Rattle.pp_model.proofs.Lists.{before_cases, before_filter, before_from_filter, before_from_map, before_in_first, before_in_second, before_map, by_key, from_filter, from_map, in_cases, in_filter, in_left, in_map, in_right, not_both}
use Rattle.pp_model.proofs.Parted.{parted}
use Rattle.pp_model.proofs.Permute.{permuted}
use Rattle.pp_model.proofs.Serial.{allowed_back, allowed_front}
use Rattle.pp_records.specs.Expansions.{stands_in}
use Rattle.pp_laws_summary.specs.LocalLogs.{serial_at}
use Rattle.pp_laws_summary.specs.Places.{PlacesPart, ops_at}
use Rattle.pp_laws_summary.specs.Views.{done_at, log_at, pulled_at}
use Rattle.pp_laws_summary.proofs.AtPlace.{filter_twice, from_done, from_pulled, is_done_at, to_pulled}
use Rattle.pp_laws_summary.proofs.Lookups.{and_true}
use Rattle.pp_laws_summary.proofs.Parts.{swap_apart}
use Rattle.pp_laws_summary.proofs.Relog.{filter_map}
use Rattle.pp_laws_summary.proofs.Snapshots.{done_serial}
use Rattle.pp_laws_summary.proofs.Turning.{allowed_join}
use Rattle.pp_summary.specs.Boosted.{Boosted, Follows, PlacesSwap}
use Rattle.pp_summary.proofs.Front.{is_item, same, stands, turn}
use Rattle.pp_laws_summary.proofs.Entries.{entry_in, is_there, ops_items, ops_local}

module _ {Op State : Type 0} (O : Object Op State) (place : Op → ℕ) (part : PlacesPart O place) (tells : TellsStates O) (c : Config Op) (b : Boosted O place c) (x : Tx Op) (ix : In x c.opened) (q : ℕ) where
  apart : PlacesSwap O place
  apart = record { apart = (swap_apart O place part).apart }

  abbrev L : List (LocalEntry Op)
  L = x.local

  abbrev G : List (SharedEntry Op)
  G = c.shared

  f : Follows O place G L
  f = b.follows x ix

  abbrev ids : (g h : SharedEntry Op) → Before g h G → g.id ≢ h.id
  ids = b.sound.shared_ids

  -- The entries of L at the place, in the order of G.
  abbrev here : SharedEntry Op → Bool
  here g = stands_in L g.id && (place g.op == q)

  abbrev H : List (SharedEntry Op)
  H = filter here G

  from_H : (g : SharedEntry Op) → In g H → In g G × (stands_in L g.id ≡ true) × (place g.op ≡ q)
  from_H g i =
      let k = from_filter here g G i in
      let a = and_parts (stands_in L g.id) (place g.op == q) k.1 in
      (k.0, a.0, eqb-true (place g.op) q a.1)

  -- Each entry of H is one of L at the place.
  entry_of : (g : SharedEntry Op) → In g H → (e : LocalEntry Op) × In e L × (place e.op ≡ q) × (shared_item g ≡ item e)
  entry_of g i =
      let k = from_H g i in
      let e = entry_in g.id L k.1 in
      let z : shared_item g ≡ item e.0 = is_item O place apart c b.sound x ix f e.0 e.1 g k.0 (sym e.2) in
      (e.0, e.1, ap (λ (w : Item Op). place w.op) (sym z) ∙ k.2, z)

  -- Each entry of L at the place is one of H.
  shared_of : (p : Item Op) (e : LocalEntry Op) → p ≡ item e → In e L → place e.op ≡ q → (g : SharedEntry Op) × In g H × (p ≡ shared_item g)
  shared_of p e s i a =
      let k = stands O place apart c b.sound x ix f e i in (
        as_shared k.0 k.1 (item e),
        in_filter here (as_shared k.0 k.1 (item e)) G k.2 (and_true (stands_in L e.id) (place e.op == q) (is_there e.id L e i refl) (eq-eqb (place e.op) q a)),
        s,
      )

  -- The entries of L at the place are allowed in the order of G.
  H_allowed : Allowed O (shared_ops H)
  H_allowed =
      let inside : SharedEntry Op → Bool = λ g. stands_in L g.id in
      let front = map shared_item (filter inside G) in
      let back = map shared_item (filter (λ g. not (inside g)) G) in
      let all : Allowed O (ops (map shared_item G) ++ []) = subst (λ (w : List Op). Allowed O w) (sym (append-nil (ops (map shared_item G)) ∙ ops_items G)) b.sound.shared_allowed in
      let both : Allowed O (ops (front ++ back) ++ []) = permuted O (front ++ back) (map shared_item G) [] [] (parted O shared_item inside G ids out_turns) all in
      let first : Allowed O (shared_ops (filter inside G)) = subst (λ (w : List Op). Allowed O w) (ops_items (filter inside G))
      (allowed_front O O.start (ops front) (ops back ++ []) (subst (λ (w : List Op). Allowed O w) (ap (λ (w : List Op). w ++ []) (map-append (λ (w : Item Op). w.op) front back) ∙ append_assoc (ops front) (ops back) []) both)) in
      subst (λ (w : List Op). Allowed O w)
      (filter_map (λ (a : Op). place a == q) (λ (g : SharedEntry Op). g.op) (filter inside G) ∙ ap (λ (w : List (SharedEntry Op)). shared_ops w) (filter_twice (λ (g : SharedEntry Op). place g.op == q) inside G))
      ((part.parts (shared_ops (filter inside G))).0 first q)
    where
      out_turns : (g h : SharedEntry Op) → Before g h G → stands_in L g.id ≡ false → stands_in L h.id ≡ true → Swaps O g.op h.op
      out_turns g h i m n =
          let e = entry_in h.id L n in
          turn O place apart c b.sound x ix f g h i e.0 e.1 (sym e.2)
          (λ z. let w : true ≡ false = sym (is_there g.id L z.0 (before_in_first z.0 z.1 L z.2) z.3) ∙ m in cc)

  -- A list of the same entries is a reordering if entries in another order swap.
  reordered : (Y : List (Item Op)) → HasDistinctIds Y → ((g : SharedEntry Op) → In g H → In (shared_item g) Y) → ((p : Item Op) → In p Y → (g : SharedEntry Op) × In g H × (p ≡ shared_item g)) →
      ((g h : SharedEntry Op) → Before g h G → In g H → In h H → Before (shared_item h) (shared_item g) Y → Swaps O g.op h.op) → Reorders O (map shared_item H) Y
  reordered Y distinct into back turns =
      record {
        distinct_x = λ p r i e.
            let m = before_from_map shared_item p r H i in
            ids m.0 m.1 (before_from_filter here m.0 m.1 G m.2) (ap (λ (w : Item Op). w.id) (sym m.3) ∙ e ∙ ap (λ (w : Item Op). w.id) m.4);
        distinct_y = distinct;
        into = λ p i. let m = from_map shared_item p H i in subst (λ (w : Item Op). In w Y) (sym m.2) (into m.0 m.1);
        back = λ p i. let m = back p i in subst (λ (w : Item Op). In w (map shared_item H)) (sym m.2) (in_map shared_item m.0 H m.1);
        turned = λ p r i j.
            let m = before_from_map shared_item p r H i in
            let k : Before (shared_item m.1) (shared_item m.0) Y = subst (λ (w : Item Op). Before w (shared_item m.0) Y) m.4 (subst (λ (w : Item Op). Before r w Y) m.3 j) in
            let s = turns m.0 m.1 (before_from_filter here m.0 m.1 G m.2) (before_in_first m.0 m.1 H m.2) (before_in_second m.0 m.1 H m.2) k in
            subst (λ (w : Item Op). Swaps O w.op r.op) (sym m.3) (subst (λ (w : Item Op). Swaps O (m.0).op w.op) (sym m.4) s);
      }

  -- What is allowed after H is allowed after a reordering of H.
  carried : (Y : List (Item Op)) → Reorders O (map shared_item H) Y → (k : List Op) → Allowed O (shared_ops H ++ k) → Allowed O (ops Y ++ k)
  carried Y r k h = permuted O Y (map shared_item H) [] k r (subst (λ (w : List Op). Allowed O (w ++ k)) (sym (ops_items H)) h)

  -- The entries of L at the place, in the order of L.
  abbrev at_q : LocalEntry Op → Bool
  at_q e = place e.op == q

  local_turns : (g h : SharedEntry Op) → Before g h G → In g H → In h H → Before (shared_item h) (shared_item g) (map item (filter at_q L)) → Swaps O g.op h.op
  local_turns g h i ig ih j =
      let m = before_from_map item (shared_item h) (shared_item g) (filter at_q L) j in
      let n = before_from_filter at_q m.0 m.1 L m.2 in
      turn O place apart c b.sound x ix f g h i m.0 (before_in_first m.0 m.1 L n) (ap (λ (w : Item Op). w.id) m.3)
      (λ z.
      let ea : z.0 ≡ m.1 = by_key (λ (w : LocalEntry Op). w.id) L (b.sound.local_ids x ix) z.0 m.1 (before_in_first z.0 z.1 L z.2) (before_in_second m.0 m.1 L n) (z.3 ∙ ap (λ (w : Item Op). w.id) m.4) in
      let eb : z.1 ≡ m.0 = by_key (λ (w : LocalEntry Op). w.id) L (b.sound.local_ids x ix) z.1 m.0 (before_in_second z.0 z.1 L z.2) (before_in_first m.0 m.1 L n) z.4 in
      not_both (λ (w : LocalEntry Op). w.id) L (b.sound.local_ids x ix) m.0 m.1 n
      (subst (λ (w : LocalEntry Op). Before w m.0 L) ea (subst (λ (w : LocalEntry Op). Before z.0 w L) eb z.2)))

  as_local : Reorders O (map shared_item H) (map item (filter at_q L))
  as_local = reordered (map item (filter at_q L))
      (λ p r i e.
      let m = before_from_map item p r (filter at_q L) i in
      b.sound.local_ids x ix m.0 m.1 (before_from_filter at_q m.0 m.1 L m.2) (ap (λ (w : Item Op). w.id) (sym m.3) ∙ e ∙ ap (λ (w : Item Op). w.id) m.4))
      (λ g i.
      let e = entry_of g i in
      subst (λ (w : Item Op). In w (map item (filter at_q L))) (sym e.3) (in_map item e.0 (filter at_q L) (in_filter at_q e.0 L e.1 (eq-eqb (place (e.0).op) q e.2))))
      (λ p i.
      let m = from_map item p (filter at_q L) i in
      let k = from_filter at_q m.0 L m.1 in
      shared_of p m.0 m.2 k.0 (eqb-true (place (m.0).op) q k.1))
      local_turns

  log_is : ops (map item (filter at_q L)) ≡ log_at place q L
  log_is = ops_local (filter at_q L) ∙ sym (filter_map (λ (a : Op). place a == q) (λ (e : LocalEntry Op). e.op) L)

  log_after : (k : List Op) → Allowed O (shared_ops H ++ k) → Allowed O (log_at place q L ++ k)
  log_after k h = subst (λ (w : List Op). Allowed O (w ++ k)) log_is (carried (map item (filter at_q L)) as_local k h)

  -- The pulled entries T, in commit order, and then the own operations.
  module _ (T : List (Item Op)) (T_distinct : HasDistinctIds T) (T_into : (p : Item Op) → In p (map item (pulled_at place q x.local)) → In p T) (T_back : (p : Item Op) → In p T → In p (map item (pulled_at place q x.local)))
      (T_order : (p r : Item Op) → Before p r T → Before p r (serial_at place q c.done)) (T_serial : (p : Item Op) → In p T → In p (serial_at place q c.done)) where
    abbrev W : List (Item Op)
    W = map item (filter at_q (own L))

    base : Reorders O (map shared_item (done_at place q G)) (serial_at place q c.done)
    base = done_serial O place c b.sound q

    -- An entry of G that is in T is committed at the place.
    is_done : (g : SharedEntry Op) → In g G → In (shared_item g) T → In g (done_at place q G)
    is_done g i j =
        let m = from_map shared_item (shared_item g) (done_at place q G) (base.back (shared_item g) (T_serial (shared_item g) j)) in
        let k = from_done place q G m.0 m.1 in
        subst (λ (w : SharedEntry Op). In w (done_at place q G)) (same O place apart c b.sound x ix f m.0 g k.0 i (ap (λ (w : Item Op). w.id) (sym m.2))) m.1

    -- An item of W is that of an own entry of L at the place.
    from_W : (p : Item Op) → In p W → (e : LocalEntry Op) × In e L × (is_own e.mark ≡ true) × (place e.op ≡ q) × (p ≡ item e)
    from_W p i =
        let m = from_map item p (filter at_q (own L)) i in
        let k = from_filter at_q m.0 (own L) m.1 in
        let n = from_filter (λ (e : LocalEntry Op). is_own e.mark) m.0 L k.0 in
        (m.0, n.0, n.1, eqb-true (place (m.0).op) q k.1, m.2)

    is_mine : (g : SharedEntry Op) → In g G → In (shared_item g) W → (g.committed ≡ false) × (g.owner ≡ x.name)
    is_mine g i j =
        let e = from_W (shared_item g) j in
        let s = b.sound.pushed_stand x ix e.0 e.1 (f.own_pushed e.0 e.1 e.2) in
        let z : as_shared x.name false (item e.0) ≡ g = same O place apart c b.sound x ix f (as_shared x.name false (item e.0)) g s i (ap (λ (w : Item Op). w.id) (sym e.4)) in
        (ap (λ (w : SharedEntry Op). w.committed) (sym z), ap (λ (w : SharedEntry Op). w.owner) (sym z))

    serial_turns : (g h : SharedEntry Op) → Before g h G → Before (shared_item h) (shared_item g) T → Swaps O g.op h.op
    serial_turns g h i j =
        let dg = from_filter (is_done_at place q) g G (is_done g (before_in_first g h G i) (before_in_second (shared_item h) (shared_item g) T j)) in
        let dh = from_filter (is_done_at place q) h G (is_done h (before_in_second g h G i) (before_in_first (shared_item h) (shared_item g) T j)) in
        base.turned (shared_item g) (shared_item h) (before_map shared_item g h (done_at place q G) (before_filter (is_done_at place q) g h G i dg.1 dh.1)) (T_order (shared_item h) (shared_item g) j)

    -- Own entries are in G in the order of L.
    own_apart : (g h : SharedEntry Op) → Before g h G → (d e : LocalEntry Op) → Before d e L → is_own d.mark ≡ true → is_own e.mark ≡ true → d.id ≡ h.id → e.id ≡ g.id → ⊥
    own_apart g h i d e j md me u w =
        let s = f.own_order d e j md me in
        let eh : s.0 ≡ h = same O place apart c b.sound x ix f s.0 h (before_in_first s.0 s.1 G s.2) (before_in_second g h G i) (s.3 ∙ u) in
        let eg : s.1 ≡ g = same O place apart c b.sound x ix f s.1 g (before_in_second s.0 s.1 G s.2) (before_in_first g h G i) (s.4 ∙ w) in
        not_both (λ (z : SharedEntry Op). z.id) G ids g h i (subst (λ (z : SharedEntry Op). Before z g G) eh (subst (λ (z : SharedEntry Op). Before s.0 z G) eg s.2))

    own_turns : (g h : SharedEntry Op) → Before g h G → Before (shared_item h) (shared_item g) W → ⊥
    own_turns g h i j =
        let m = before_from_map item (shared_item h) (shared_item g) (filter at_q (own L)) j in
        let n = before_from_filter at_q m.0 m.1 (own L) m.2 in
        let mine = λ (e : LocalEntry Op) (z : In e (own L)). (from_filter (λ (w : LocalEntry Op). is_own w.mark) e L z).1 in
        own_apart g h i m.0 m.1 (before_from_filter (λ (e : LocalEntry Op). is_own e.mark) m.0 m.1 L n) (mine m.0 (before_in_first m.0 m.1 (own L) n)) (mine m.1 (before_in_second m.0 m.1 (own L) n))
        (ap (λ (w : Item Op). w.id) (sym m.3)) (ap (λ (w : Item Op). w.id) (sym m.4))

    past_turns : (g h : SharedEntry Op) → Before g h G → In (shared_item h) T → In (shared_item g) W → Swaps O g.op h.op
    past_turns g h i j k =
        let m = is_mine g (before_in_first g h G i) k in
        let d = from_done place q G h (is_done h (before_in_second g h G i) j) in
        let s = b.sound.committed_from h d.0 d.1 in
        b.sound.uncommitted_swap g h i (λ e. b.sound.apart x s.0 ix s.1 (sym m.1 ∙ e ∙ ap (λ (w : SharedEntry Op). w.owner) s.4)) m.0

    by_mark : (m : Mark) → (is_own m ≡ true → ⊥) → m ≡ Pulled
    by_mark Unpushed n = absurd (n refl)
    by_mark Pushed n = absurd (n refl)
    by_mark Pulled n = refl

    as_serial : Reorders O (map shared_item H) (T ++ W)
    as_serial = reordered (T ++ W)
        (λ p r i e. elim (before_cases p r T W i) [
          | inl j ↦ T_distinct p r j e
          | inr (inl j) ↦
              let m = before_from_map item p r (filter at_q (own L)) j in
              b.sound.local_ids x ix m.0 m.1 (before_from_filter (λ (w : LocalEntry Op). is_own w.mark) m.0 m.1 L (before_from_filter at_q m.0 m.1 (own L) m.2)) (ap (λ (w : Item Op). w.id) (sym m.3) ∙ e ∙ ap (λ (w : Item Op). w.id) m.4)
          | inr (inr j) ↦ two_kinds p r j.0 j.1 e
        ])
        (λ g i. let e = entry_of g i in put g e.0 e.1 e.2 e.3 (is_own (e.0).mark) refl)
        (λ p i. elim (in_cases p T W i) [
          | inl j ↦
              let m = from_map item p (pulled_at place q L) (T_back p j) in
              let k = from_pulled place q L m.0 m.1 in
              shared_of p m.0 m.2 k.0 k.2
          | inr j ↦ let e = from_W p j in shared_of p e.0 e.4 e.1 e.3
        ])
        (λ g h i ig ih j. elim (before_cases (shared_item h) (shared_item g) T W j) [
          | inl k ↦ serial_turns g h i k
          | inr (inl k) ↦ absurd (own_turns g h i k)
          | inr (inr k) ↦ past_turns g h i k.0 k.1
        ])
      where
        two_kinds : (p r : Item Op) → In p T → In r W → p.id ≡ r.id → ⊥
        two_kinds p r i j e =
            let m = from_map shared_item p (done_at place q G) (base.back p (T_serial p i)) in
            let d = from_done place q G m.0 m.1 in
            let w = from_W r j in
            let s = b.sound.pushed_stand x ix w.0 w.1 (f.own_pushed w.0 w.1 w.2) in
            let z : m.0 ≡ as_shared x.name false (item w.0) = same O place apart c b.sound x ix f m.0 (as_shared x.name false (item w.0)) d.0 s (ap (λ (a : Item Op). a.id) (sym m.2) ∙ e ∙ ap (λ (a : Item Op). a.id) w.4) in
            let t : true ≡ false = sym d.1 ∙ ap (λ (a : SharedEntry Op). a.committed) z in
            cc

        put : (g : SharedEntry Op) (e : LocalEntry Op) → In e L → place e.op ≡ q → shared_item g ≡ item e → (z : Bool) → is_own e.mark ≡ z → In (shared_item g) (T ++ W)
        put g e i p s true m =
            subst (λ (w : Item Op). In w (T ++ W)) (sym s)
            (in_right (item e) T W (in_map item e (filter at_q (own L)) (in_filter at_q e (own L) (in_filter (λ (w : LocalEntry Op). is_own w.mark) e L i m) (eq-eqb (place e.op) q p))))
        put g e i p s false m =
            subst (λ (w : Item Op). In w (T ++ W)) (sym s)
            (in_left (item e) T W (T_into (item e) (in_map item e (pulled_at place q L) (to_pulled place q L e i (by_mark e.mark (λ n. let t : true ≡ false = sym n ∙ m in cc)) p))))

    own_is : ops W ≡ ops_at place q (local_ops (own L))
    own_is = ops_local (filter at_q (own L)) ∙ sym (filter_map (λ (a : Op). place a == q) (λ (e : LocalEntry Op). e.op) (own L))

    abbrev view : List Op
    view = ops T ++ ops_at place q (local_ops (own L))

    view_after : (k : List Op) → Allowed O (shared_ops H ++ k) → Allowed O (view ++ k)
    view_after k h = subst (λ (w : List Op). Allowed O (w ++ k)) (map-append (λ (w : Item Op). w.op) T W ∙ ap (λ (w : List Op). ops T ++ w) own_is) (carried (T ++ W) as_serial k h)

    same_state : state O (log_at place q L) ≡ state O view
    same_state = sym (tells (shared_ops H) (log_at place q L) H_allowed log_after) ∙ tells (shared_ops H) view H_allowed view_after

    -- What is allowed after the local log at a place is allowed after the snapshot and then the own operations.
    pub log_leads : (k : List Op) → Allowed O (log_at place q x.local ++ k) → Allowed O (ops T ++ (ops_at place q (local_ops (own x.local)) ++ k))
    log_leads k h =
        let first : Allowed O view = subst (λ (w : List Op). Allowed O w) (append-nil view) (view_after [] (subst (λ (w : List Op). Allowed O w) (sym (append-nil (shared_ops H))) H_allowed)) in
        let rest = allowed_back O O.start (log_at place q L) k h in
        subst (λ (w : List Op). Allowed O w) (append_assoc (ops T) (ops_at place q (local_ops (own L))) k)
        (allowed_join O O.start view k first (subst (λ (s : State). AllowedFrom O s k) same_state rest))
