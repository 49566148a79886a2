-- The pulled entries of an object are the ones committed first: why this stays so.
use Rattle.std.specs.Prelude.{◌≡◌, ◌≢◌, ◌⊎◌, ◌≤◌, ℕ, zero, suc, ◌==◌, Bool, true, false, not, cond, ◌&&◌, List, [], ◌∷◌, ◌++◌, map, filter, take, drop, length}
use Rattle.std.proofs.Common.{refl, sym, ap, subst, ◌∙◌, arith, append_assoc}
use Rattle.std.proofs.lemmas.List.{append-nil, map-append, take-append-drop, take-append-le, length-map}
use Rattle.std.proofs.lemmas.List.Elements.{filter-append}
use Rattle.std.proofs.lemmas.Bool.{eq-eqb}
use mathlib.Core.Logic.{inl, inr}
use Rattle.pp_model.specs.Lists.{In, Before}
use Rattle.pp_model.specs.Object.{Object, Allowed, Item, Reorders, HasDistinctIds, Swaps, ops}
use Rattle.pp_model.specs.Config.{Mark, Unpushed, Pushed, Pulled, is_own, is_mark, LocalEntry, SharedEntry, CommittedTx, Tx, Config, item, own, shared_item, as_pulled, as_shared, only_committed, local_ops, shared_ops}
use Rattle.pp_model.specs.Sound.{Sound, serial_items}
use Rattle.pp_model.proofs.Lists.{in_left, in_right, in_cases, in_map, from_map, in_filter, from_filter, before_map, before_from_map, before_from_filter, before_cases, before_left, before_across, before_in_first, before_in_second, by_key, not_both}
use Rattle.pp_model.proofs.Permute.{permuted}
use Rattle.pp_model.proofs.Push.{not_done}
use Rattle.pp_model.proofs.Lengths.{no_longer}
use Rattle.pp_model.proofs.Serial.{items, target, ordered, ordered_committed, reorders}
use Rattle.pp_records.specs.Expansions.{stands_in}
use Rattle.pp_laws_summary.specs.Places.{ops_at}
use Rattle.pp_laws_summary.specs.Views.{done_at, log_at, missing_at, pulled_at, seen_at}
use Rattle.pp_laws_summary.specs.LocalLogs.{HasSnapshots, IsSnapshot, serial_at}
use Rattle.pp_laws_summary.proofs.Entries.{entry_in, is_there, ops_items, same_or_not}
use Rattle.pp_laws_summary.proofs.Relog.{filter_none, filter_map}
use Rattle.pp_laws_summary.proofs.AtPlace.{is_done_at, is_pulled_at, filter_twice, from_done, from_pulled, to_pulled, to_done}
use Rattle.pp_laws_summary.proofs.Steps.{from_missing}
use Rattle.pp_laws_summary.proofs.Parts.{at-append, at_all, at_none, not_eq}
use Rattle.pp_laws_summary.proofs.Pulled.{ops_more}
use Rattle.pp_laws_summary.proofs.Turning.{all_drawn}

take_all : {A : Type 0} (n : ℕ) (l : List A) → length l ≤ n → take n l ≡ l
take_all zero [] h = refl
take_all zero (x ∷ l) h = absurd (omega arith)
take_all (suc n) [] h = refl
take_all {A} (suc n) (x ∷ l) h = ap (λ (w : List A). x ∷ w) (take_all n l (omega arith))

not_own : (m : Mark) → (is_own m ≡ true) ⊎ (m ≡ Pulled)
not_own Unpushed = inl refl
not_own Pushed = inl refl
not_own Pulled = inr refl

own_not_pulled : (m : Mark) → is_own m ≡ true → is_mark m Pulled ≡ false
own_not_pulled Unpushed h = refl
own_not_pulled Pushed h = refl
own_not_pulled Pulled h = absurd (cc)

-- If y is a reordering of x, the items of y that pass a test are a reordering of those of x.
pub reorders_filter : {Op State : Type 0} (O : Object Op State) (test : Item Op → Bool) (x y : List (Item Op)) → Reorders O x y → Reorders O (filter test x) (filter test y)
reorders_filter O test x y r =
    record {
      distinct_x = λ p q i e. r.distinct_x p q (before_from_filter test p q x i) e;
      distinct_y = λ p q i e. r.distinct_y p q (before_from_filter test p q y i) e;
      into = λ p i. let f = from_filter test p x i in in_filter test p y (r.into p f.0) f.1;
      back = λ p i. let f = from_filter test p y i in in_filter test p x (r.back p f.0) f.1;
      turned = λ p q i j. r.turned p q (before_from_filter test p q x i) (before_from_filter test q p y j);
    }

uncommitted_none : {Op : Type 0} (G : List (SharedEntry Op)) → ((g : SharedEntry Op) → In g G → g.committed ≡ true) → filter (λ g. not g.committed) G ≡ []
uncommitted_none {Op} G h = filter_none (λ (g : SharedEntry Op). not g.committed) G (λ g i. ap not (h g i))

-- the committed entries of an object, in the order of the shared log and in that of the commits
pub done_serial : {Op State : Type 0} (O : Object Op State) (place : Op → ℕ) (c : Config Op) → Sound O c → (o : ℕ) → Reorders O (map shared_item (done_at place o c.shared)) (serial_at place o c.done)
done_serial {Op} O place c s o =
    let test : Item Op → Bool = λ (p : Item Op). place p.op == o in
    let G = only_committed c.shared in
    let r = reorders O G c.done (ordered_committed O c.shared c.done (ordered O c s)) in
    let all : filter (λ (g : SharedEntry Op). not g.committed) G ≡ [] = uncommitted_none G (λ g i. (from_filter (λ (w : SharedEntry Op). w.committed) g c.shared i).1) in
    let y : target G c.done ≡ serial_items c.done = ap (λ (w : List (SharedEntry Op)). serial_items c.done ++ map shared_item w) all ∙ append-nil (serial_items c.done) in
    let x : filter test (map shared_item G) ≡ map shared_item (done_at place o c.shared) = filter_map test shared_item G
    ∙ ap (λ (w : List (SharedEntry Op)). map shared_item w) (filter_twice (λ (g : SharedEntry Op). place g.op == o) (λ (g : SharedEntry Op). g.committed) c.shared) in
    subst (λ (w : List (Item Op)). Reorders O w (filter test (serial_items c.done))) x (reorders_filter O test (items G) (serial_items c.done) (subst (λ (w : List (Item Op)). Reorders O (items G) w) y r))

-- An entry before one of the first part of a list is in that part.
before_part : {Op : Type 0} (T D : List (Item Op)) (p q : Item Op) → HasDistinctIds (T ++ D) → Before q p (T ++ D) → In p T → In q T
before_part {Op} T D p q d i j = elim (before_cases q p T D i) [
  | inl k ↦ before_in_first q p T k
  | inr (inl k) ↦ absurd (d p p (before_across p p T D j (before_in_second q p D k)) refl)
  | inr (inr k) ↦ k.0
]

-- The number of a snapshot is at most that of the committed entries of the object.
pub few_seen : {Op State : Type 0} (O : Object Op State) (place : Op → ℕ) (o : ℕ) (D : List (CommittedTx Op)) (l : List (LocalEntry Op)) →
    IsSnapshot O place l o (take (seen_at place o l) (serial_at place o D)) → seen_at place o l ≤ length (serial_at place o D)
few_seen {Op} O place o D l r =
    let a : length (map item (pulled_at place o l)) ≤ length (take (seen_at place o l) (serial_at place o D)) = no_longer (map item (pulled_at place o l)) (take (seen_at place o l) (serial_at place o D)) r.distinct_x r.into in
    let b : length (map item (pulled_at place o l)) ≡ length (pulled_at place o l) = length-map (pulled_at place o l) (item {Op = Op}) in
    fewer (length (pulled_at place o l)) (serial_at place o D) (subst (λ (n : ℕ). n ≤ length (take (seen_at place o l) (serial_at place o D))) b a)
  where
    fewer : (n : ℕ) (k : List (Item Op)) → n ≤ length (take n k) → n ≤ length k
    fewer zero k h = omega arith
    fewer (suc n) [] h = h
    fewer (suc n) (x ∷ k) h = let z : n ≤ length k = fewer n k (omega arith) in omega arith

module _ {Op State : Type 0} (O : Object Op State) (place : Op → ℕ) where
  -- no entry
  pub no_snapshots : (D : List (CommittedTx Op)) → HasSnapshots O place D []
  no_snapshots D o = record { distinct_x = λ p q i e. i; distinct_y = λ p q i e. i; into = λ p i. i; back = λ p i. i; leads = λ k h. h }

  -- the same pulled entries and the same operations
  pub same_snapshot : (D : List (CommittedTx Op)) (l k : List (LocalEntry Op)) (o : ℕ) → pulled_at place o k ≡ pulled_at place o l → log_at place o k ≡ log_at place o l →
      ops_at place o (local_ops (own k)) ≡ ops_at place o (local_ops (own l)) → IsSnapshot O place l o (take (seen_at place o l) (serial_at place o D)) → IsSnapshot O place k o (take (seen_at place o k) (serial_at place o D))
  same_snapshot D l k o pulled log owned s =
      let S = serial_at place o D in
      record {
        distinct_x = subst (λ (w : List (LocalEntry Op)). HasDistinctIds (map item w)) (sym pulled) s.distinct_x;
        distinct_y = subst (λ (w : List (LocalEntry Op)). HasDistinctIds (take (length w) S)) (sym pulled) s.distinct_y;
        into = subst (λ (w : List (LocalEntry Op)). (p : Item Op) → In p (map item w) → In p (take (length w) S)) (sym pulled) s.into;
        back = subst (λ (w : List (LocalEntry Op)). (p : Item Op) → In p (take (length w) S) → In p (map item w)) (sym pulled) s.back;
        leads = λ j a. subst (λ (w : List (LocalEntry Op)). Allowed O (ops (take (length w) S) ++ (ops_at place o (local_ops (own k)) ++ j))) (sym pulled)
            (subst (λ (w : List Op). Allowed O (ops (take (seen_at place o l) S) ++ (w ++ j))) (sym owned) (s.leads j (subst (λ (w : List Op). Allowed O (w ++ j)) log a)));
      }

  -- one more own entry
  pub grown_snapshots : (D : List (CommittedTx Op)) (l : List (LocalEntry Op)) (e : LocalEntry Op) → is_own e.mark ≡ true → HasSnapshots O place D l → HasSnapshots O place D (l ++ e ∷ [])
  grown_snapshots D l e mine h o =
      let S = serial_at place o D in
      let E = ops_at place o (e.op ∷ []) in
      let W = ops_at place o (local_ops (own l)) in
      let s = h o in
      let pulled : pulled_at place o (l ++ e ∷ []) ≡ pulled_at place o l = filter-append (is_pulled_at place o) l (e ∷ [])
      ∙ ap (λ (b : Bool). pulled_at place o l ++ cond (b && (place e.op == o)) (e ∷ []) []) (own_not_pulled e.mark mine) ∙ append-nil (pulled_at place o l) in
      let log : log_at place o (l ++ e ∷ []) ≡ log_at place o l ++ E = ap (λ (w : List Op). ops_at place o w) (map-append (λ (w : LocalEntry Op). w.op) l (e ∷ [])) ∙ at-append place o (local_ops l) (e.op ∷ []) in
      let owned : ops_at place o (local_ops (own (l ++ e ∷ []))) ≡ W ++ E = ap (λ (w : List (LocalEntry Op)). ops_at place o (local_ops w)) (filter-append (λ (w : LocalEntry Op). is_own w.mark) l (e ∷ []) ∙ ap (λ (b : Bool). own l ++ cond b (e ∷ []) []) mine)
      ∙ ap (λ (w : List Op). ops_at place o w) (map-append (λ (w : LocalEntry Op). w.op) (own l) (e ∷ [])) ∙ at-append place o (local_ops (own l)) (e.op ∷ []) in
      record {
        distinct_x = subst (λ (w : List (LocalEntry Op)). HasDistinctIds (map item w)) (sym pulled) s.distinct_x;
        distinct_y = subst (λ (w : List (LocalEntry Op)). HasDistinctIds (take (length w) S)) (sym pulled) s.distinct_y;
        into = subst (λ (w : List (LocalEntry Op)). (p : Item Op) → In p (map item w) → In p (take (length w) S)) (sym pulled) s.into;
        back = subst (λ (w : List (LocalEntry Op)). (p : Item Op) → In p (take (length w) S) → In p (map item w)) (sym pulled) s.back;
        leads = λ j a.
            let a1 = subst (λ (w : List Op). Allowed O w) (ap (λ (w : List Op). w ++ j) log ∙ append_assoc (log_at place o l) E j) a in
            subst (λ (w : List (LocalEntry Op)). Allowed O (ops (take (length w) S) ++ (ops_at place o (local_ops (own (l ++ e ∷ []))) ++ j))) (sym pulled)
            (subst (λ (w : List Op). Allowed O (ops (take (seen_at place o l) S) ++ w)) (sym (ap (λ (w : List Op). w ++ j) owned ∙ append_assoc W E j)) (s.leads (E ++ j) a1));
      }

  serial_joined : (D : List (CommittedTx Op)) (d : CommittedTx Op) → serial_items (D ++ d ∷ []) ≡ serial_items D ++ d.entries
  serial_joined [] d = append-nil d.entries
  serial_joined (e ∷ D) d = ap (λ (w : List (Item Op)). e.entries ++ w) (serial_joined D d) ∙ sym (append_assoc e.entries (serial_items D) d.entries)

  -- one more committed transaction
  pub more_snapshots : (D : List (CommittedTx Op)) (d : CommittedTx Op) (l : List (LocalEntry Op)) → HasSnapshots O place D l → HasSnapshots O place (D ++ d ∷ []) l
  more_snapshots D d l h o =
      let test : Item Op → Bool = λ (p : Item Op). place p.op == o in
      let e : serial_at place o (D ++ d ∷ []) ≡ serial_at place o D ++ filter test d.entries = ap (λ (w : List (Item Op)). filter test w) (serial_joined D d) ∙ filter-append test (serial_items D) d.entries in
      let few = few_seen O place o D l (h o) in
      subst (λ (w : List (Item Op)). IsSnapshot O place l o w)
      (sym (ap (λ (w : List (Item Op)). take (seen_at place o l) w) e ∙ take-append-le (seen_at place o l) (serial_at place o D) (filter test d.entries) few)) (h o)

module _ {Op State : Type 0} (O : Object Op State) (place : Op → ℕ) (c : Config Op) (s : Sound O c) (x : Tx Op) (ix : In x c.opened)
    (stand : (e : LocalEntry Op) → In e x.local → e.mark ≡ Pulled → In (as_shared e.owner true (item e)) c.shared) where
  -- an entry of L with the id of a committed entry was pulled from it
  pub is_pulled : (g : SharedEntry Op) → In g c.shared → g.committed ≡ true → (e : LocalEntry Op) → In e x.local → e.id ≡ g.id → (e.mark ≡ Pulled) × (item e ≡ shared_item g)
  is_pulled g i u e j n = by (not_own e.mark)
    where
      by : (is_own e.mark ≡ true) ⊎ (e.mark ≡ Pulled) → (e.mark ≡ Pulled) × (item e ≡ shared_item g)
      by (inl m) =
          let k = s.committed_from g i u in
          absurd (not_done O c s x ix e j m k.0 k.1 k.2 k.3 (sym (n ∙ ap (λ (w : SharedEntry Op). w.id) k.4)))
      by (inr m) = (m, ap (λ (w : SharedEntry Op). shared_item w) (by_key (λ (w : SharedEntry Op). w.id) c.shared s.shared_ids (as_shared e.owner true (item e)) g (stand e j m) i n))

  module _ (o : ℕ) (h : IsSnapshot O place x.local o (take (seen_at place o x.local) (serial_at place o c.done))) where
    abbrev M : List (SharedEntry Op)
    M = missing_at place o c.shared x.local

    abbrev A : List (Item Op)
    A = map item (pulled_at place o x.local)

    abbrev T : List (Item Op)
    T = take (seen_at place o x.local) (serial_at place o c.done)

    abbrev D : List (Item Op)
    D = drop (seen_at place o x.local) (serial_at place o c.done)

    base : Reorders O (map shared_item (done_at place o c.shared)) (serial_at place o c.done)
    base = done_serial O place c s o

    whole : T ++ D ≡ serial_at place o c.done
    whole = take-append-drop (seen_at place o x.local) (serial_at place o c.done)

    parts_distinct : HasDistinctIds (T ++ D)
    parts_distinct = subst (λ (w : List (Item Op)). HasDistinctIds w) (sym whole) base.distinct_y

    from_A : (p : Item Op) → In p A → (e : LocalEntry Op) × In e x.local × (e.mark ≡ Pulled) × (place e.op ≡ o) × (p ≡ item e)
    from_A p i =
        let m = from_map item p (pulled_at place o x.local) i in
        let f = from_pulled place o x.local m.0 m.1 in
        (m.0, f.0, f.1, f.2, m.2)

    from_M : (p : Item Op) → In p (map shared_item M) → (g : SharedEntry Op) × In g c.shared × (g.committed ≡ true) × (place g.op ≡ o) × (stands_in x.local g.id ≡ false) × (p ≡ shared_item g)
    from_M p i =
        let m = from_map shared_item p M i in
        let f = from_missing place o c.shared x.local m.0 m.1 in
        (m.0, f.0, f.1, f.2, f.3, m.2)

    -- An entry that is pulled is not missed.
    apart : (p q : Item Op) → In p A → In q (map shared_item M) → p.id ≢ q.id
    apart p q i j n =
        let a = from_A p i in
        let m = from_M q j in
        let z : true ≡ false = sym (is_there (m.0).id x.local a.0 a.1 (ap (λ (w : Item Op). w.id) (sym a.4) ∙ n ∙ ap (λ (w : Item Op). w.id) m.5)) ∙ m.4 in cc

    -- a committed operation of the object is pulled or missed
    back_to : (q : Item Op) → In q (serial_at place o c.done) → In q A ⊎ In q (map shared_item M)
    back_to q i =
        let m = from_map shared_item q (done_at place o c.shared) (base.back q i) in
        let f = from_done place o c.shared m.0 m.1 in
        by m.0 f.0 f.1 f.2 m.2 (stands_in x.local (m.0).id) refl
      where
        by : (g : SharedEntry Op) → In g c.shared → g.committed ≡ true → place g.op ≡ o → q ≡ shared_item g → (b : Bool) → stands_in x.local g.id ≡ b → In q A ⊎ In q (map shared_item M)
        by g i u p e true n =
            let k = entry_in g.id x.local n in
            let r = is_pulled g i u k.0 k.1 k.2 in
            inl (subst (λ (w : Item Op). In w A) (r.1 ∙ sym e) (in_map item k.0 (pulled_at place o x.local) (to_pulled place o x.local k.0 k.1 r.0 (ap (λ (w : Item Op). place w.op) r.1 ∙ p))))
        by g i u p e false n =
            inr (subst (λ (w : Item Op). In w (map shared_item M)) (sym e) (in_map shared_item g M
            (in_filter (λ (w : SharedEntry Op). (w.committed && (place w.op == o)) && not (stands_in x.local w.id)) g c.shared i
            (ap (λ (b : Bool). (b && (place g.op == o)) && not (stands_in x.local g.id)) u ∙ ap (λ (b : Bool). b && not (stands_in x.local g.id)) (eq-eqb (place g.op) o p) ∙ ap not n))))

    M_in : (p : Item Op) → In p (map shared_item M) → In p (map shared_item (done_at place o c.shared))
    M_in p i = let m = from_M p i in subst (λ (w : Item Op). In w (map shared_item (done_at place o c.shared))) (sym m.5) (in_map shared_item m.0 (done_at place o c.shared) (to_done place o c.shared m.0 m.1 m.2 m.3))

    M_before : (p q : Item Op) → Before p q (map shared_item M) → Before p q (map shared_item (done_at place o c.shared))
    M_before p q i =
        let m = before_from_map shared_item p q M i in
        let j : Before m.0 m.1 (done_at place o c.shared) = before_from_filter (λ (w : SharedEntry Op). not (stands_in x.local w.id)) m.0 m.1 (done_at place o c.shared)
        (subst (λ (w : List (SharedEntry Op)). Before m.0 m.1 w) (sym (filter_twice (λ (w : SharedEntry Op). not (stands_in x.local w.id)) (is_done_at place o) c.shared)) m.2) in
        subst (λ (w : Item Op). Before w q (map shared_item (done_at place o c.shared))) (sym m.3) (subst (λ (w : Item Op). Before (shared_item m.0) w (map shared_item (done_at place o c.shared))) (sym m.4)
        (before_map shared_item m.0 m.1 (done_at place o c.shared) j))

    -- after a refresh, all is pulled
    pub now_distinct : HasDistinctIds (A ++ map shared_item M)
    now_distinct p q i e = elim (before_cases p q A (map shared_item M) i) [
      | inl j ↦ h.distinct_x p q j e
      | inr (inl j) ↦ base.distinct_x p q (M_before p q j) e
      | inr (inr j) ↦ apart p q j.0 j.1 e
    ]

    -- Each operation of the snapshot, or missed by it, is in the serial run of the object.
    pub now_into : (p : Item Op) → In p (A ++ map shared_item M) → In p (serial_at place o c.done)
    now_into p i = elim (in_cases p A (map shared_item M) i) [
      | inl j ↦ subst (λ (w : List (Item Op)). In p w) whole (in_left p T D (h.into p j))
      | inr j ↦ base.into p (M_in p j)
    ]

    -- Each operation of the serial run of the object is in the snapshot, or missed by it.
    pub now_back : (p : Item Op) → In p (serial_at place o c.done) → In p (A ++ map shared_item M)
    now_back q i = elim (back_to q i) [ inl j ↦ in_left q A (map shared_item M) j | inr j ↦ in_right q A (map shared_item M) j ]

    -- The snapshot, and then what is missed, is the serial run up to an order that swaps allow.
    pub now_whole : Reorders O (T ++ map shared_item M) (serial_at place o c.done)
    now_whole =
        record {
          distinct_x = λ p q i e. elim (before_cases p q T (map shared_item M) i) [
            | inl j ↦ h.distinct_y p q j e
            | inr (inl j) ↦ base.distinct_x p q (M_before p q j) e
            | inr (inr j) ↦ apart p q (h.back p j.0) j.1 e
          ];
          distinct_y = base.distinct_y;
          into = λ p i. elim (in_cases p T (map shared_item M) i) [
            | inl j ↦ subst (λ (w : List (Item Op)). In p w) whole (in_left p T D j)
            | inr j ↦ base.into p (M_in p j)
          ];
          back = λ q i. elim (back_to q i) [ inl j ↦ in_left q T (map shared_item M) (h.into q j) | inr j ↦ in_right q T (map shared_item M) j ];
          turned = λ p q i j.
              let k : Before q p (T ++ D) = subst (λ (w : List (Item Op)). Before q p w) (sym whole) j in
              elim (before_cases p q T (map shared_item M) i) [
                | inl z ↦ absurd (not_both (λ (w : Item Op). w.id) (T ++ D) parts_distinct q p k (before_left p q T D z))
                | inr (inl z) ↦ base.turned p q (M_before p q z) j
                | inr (inr z) ↦ absurd (apart q q (h.back q (before_part T D p q parts_distinct k z.0)) z.1 refl)
              ];
        }

    -- the summary knows what is missed: what is not among the first
    pub seen_tells : (g : SharedEntry Op) → In g (done_at place o c.shared) → (stands_in x.local g.id ≡ true → (q : Item Op) × In q T × (q.id ≡ g.id)) × (((q : Item Op) × In q T × (q.id ≡ g.id)) → stands_in x.local g.id ≡ true)
    seen_tells g i =
        let f = from_done place o c.shared g i in (
          (λ n.
              let k = entry_in g.id x.local n in
              let r = is_pulled g f.0 f.1 k.0 k.1 k.2 in
              (item k.0, h.into (item k.0) (in_map item k.0 (pulled_at place o x.local) (to_pulled place o x.local k.0 k.1 r.0 (ap (λ (w : Item Op). place w.op) r.1 ∙ f.2))), k.2)),
          (λ q. let a = from_A q.0 (h.back q.0 q.1) in is_there g.id x.local a.0 a.1 (ap (λ (w : Item Op). w.id) (sym a.4) ∙ q.2)),
        )

  pulled-append : (o : ℕ) (l k : List (LocalEntry Op)) → pulled_at place o (l ++ k) ≡ pulled_at place o l ++ pulled_at place o k
  pulled-append o l k = filter-append (is_pulled_at place o) l k

  items_pulled : (M : List (SharedEntry Op)) → map item (map as_pulled M) ≡ map shared_item M
  items_pulled [] = refl
  items_pulled (g ∷ M) = ap (λ (w : List (Item Op)). shared_item g ∷ w) (items_pulled M)

  -- Pulled entries on the object are all pulled entries there.
  pub pulled_all : (o : ℕ) (M : List (SharedEntry Op)) → ((g : SharedEntry Op) → In g M → place g.op ≡ o) → pulled_at place o (map as_pulled M) ≡ map as_pulled M
  pulled_all o [] at = refl
  pulled_all o (g ∷ M) at =
      ap (λ (b : Bool). cond b (as_pulled g ∷ pulled_at place o (map as_pulled M)) (pulled_at place o (map as_pulled M))) (eq-eqb (place g.op) o (at g (inl refl)))
      ∙ ap (λ (w : List (LocalEntry Op)). as_pulled g ∷ w) (pulled_all o M (λ k i. at k (inr i)))

  -- Pulled entries on other objects are none there.
  pub pulled_none : (o : ℕ) (M : List (SharedEntry Op)) → ((g : SharedEntry Op) → In g M → place g.op ≢ o) → pulled_at place o (map as_pulled M) ≡ []
  pulled_none o [] at = refl
  pulled_none o (g ∷ M) at =
      ap (λ (b : Bool). cond b (as_pulled g ∷ pulled_at place o (map as_pulled M)) (pulled_at place o (map as_pulled M))) (not_eq (place g.op) o (at g (inl refl)))
      ∙ pulled_none o M (λ k i. at k (inr i))

  module _ (v : HasSnapshots O place c.done x.local) (o : ℕ) where
    abbrev N : List (SharedEntry Op)
    N = missing_at place o c.shared x.local

    at_o : (g : SharedEntry Op) → In g N → place g.op ≡ o
    at_o g i = (from_missing place o c.shared x.local g i).2

    -- The pulled entries of the object after a refresh are those before it and the new ones.
    pub pulled_here : pulled_at place o (x.local ++ map as_pulled N) ≡ pulled_at place o x.local ++ map as_pulled N
    pulled_here = pulled-append o x.local (map as_pulled N) ∙ ap (λ (w : List (LocalEntry Op)). pulled_at place o x.local ++ w) (pulled_all o N at_o)

    -- A refresh of the object pulls nothing of other objects.
    pub pulled_elsewhere : (p : ℕ) → p ≢ o → pulled_at place p (x.local ++ map as_pulled N) ≡ pulled_at place p x.local
    pulled_elsewhere p n = pulled-append p x.local (map as_pulled N) ∙ ap (λ (w : List (LocalEntry Op)). pulled_at place p x.local ++ w) (pulled_none p N (λ g i e. n (sym e ∙ at_o g i))) ∙ append-nil (pulled_at place p x.local)

    items_now : map item (pulled_at place o (x.local ++ map as_pulled N)) ≡ map item (pulled_at place o x.local) ++ map shared_item N
    items_now = ap (λ (w : List (LocalEntry Op)). map item w) pulled_here ∙ map-append item (pulled_at place o x.local) (map as_pulled N) ∙ ap (λ (w : List (Item Op)). map item (pulled_at place o x.local) ++ w) (items_pulled N)

    distinct_now : HasDistinctIds (map item (pulled_at place o (x.local ++ map as_pulled N)))
    distinct_now = subst (λ (w : List (Item Op)). HasDistinctIds w) (sym items_now) (now_distinct o (v o))

    into_now : (p : Item Op) → In p (map item (pulled_at place o (x.local ++ map as_pulled N))) → In p (serial_at place o c.done)
    into_now = subst (λ (w : List (Item Op)). (p : Item Op) → In p w → In p (serial_at place o c.done)) (sym items_now) (now_into o (v o))

    back_now : (p : Item Op) → In p (serial_at place o c.done) → In p (map item (pulled_at place o (x.local ++ map as_pulled N)))
    back_now = subst (λ (w : List (Item Op)). (p : Item Op) → In p (serial_at place o c.done) → In p w) (sym items_now) (now_back o (v o))

    serial_distinct : HasDistinctIds (serial_at place o c.done)
    serial_distinct = (now_whole o (v o)).distinct_y

    -- the number of the snapshot then: all
    pub all_seen : seen_at place o (x.local ++ map as_pulled N) ≡ length (serial_at place o c.done)
    all_seen =
        let P = pulled_at place o (x.local ++ map as_pulled N) in
        let a : length (map item P) ≤ length (serial_at place o c.done) = no_longer (map item P) (serial_at place o c.done) distinct_now into_now in
        let b : length (serial_at place o c.done) ≤ length (map item P) = no_longer (serial_at place o c.done) (map item P) serial_distinct back_now in
        let d : length (map item P) ≡ length P = length-map P (item {Op = Op}) in
        omega arith

    none_own : (M : List (SharedEntry Op)) → own (map as_pulled M) ≡ []
    none_own [] = refl
    none_own (g ∷ M) = none_own M

    own_now : own (x.local ++ map as_pulled N) ≡ own x.local
    own_now = filter-append (λ (w : LocalEntry Op). is_own w.mark) x.local (map as_pulled N) ∙ ap (λ (w : List (LocalEntry Op)). own x.local ++ w) (none_own N) ∙ append-nil (own x.local)

    ops_at_o : (a : Op) → In a (shared_ops N) → place a ≡ o
    ops_at_o a i = let r = from_map (λ (w : SharedEntry Op). w.op) a N i in ap place r.2 ∙ at_o r.0 r.1

    log_now : (p : ℕ) → log_at place p (x.local ++ map as_pulled N) ≡ log_at place p x.local ++ ops_at place p (shared_ops N)
    log_now p = ap (λ (w : List Op). ops_at place p w) (ops_more x.local N) ∙ at-append place p (local_ops x.local) (shared_ops N)

    -- If each own operation swaps with each that is pulled, a refresh leads to a snapshot of each object.
    module _ (swaps : (a : LocalEntry Op) (g : SharedEntry Op) → In a x.local → is_own a.mark ≡ true → In g N → Swaps O a.op g.op) where
      abbrev W : List Op
      W = ops_at place o (local_ops (own x.local))

      own_before : (w n : Op) → In w W → In n (shared_ops N) → Swaps O w n
      own_before w n i j =
          let f = from_filter (λ (a : Op). place a == o) w (local_ops (own x.local)) i in
          let m = from_map (λ (a : LocalEntry Op). a.op) w (own x.local) f.0 in
          let k = from_filter (λ (a : LocalEntry Op). is_own a.mark) m.0 x.local m.1 in
          let g = from_map (λ (a : SharedEntry Op). a.op) n N j in
          subst (λ (z : Op). Swaps O z n) (sym m.2) (subst (λ (z : Op). Swaps O (m.0).op z) (sym g.2) (swaps m.0 g.0 k.0 k.1 g.1))

      leads_now : (k : List Op) → Allowed O (log_at place o (x.local ++ map as_pulled N) ++ k) →
          Allowed O (ops (serial_at place o c.done) ++ (ops_at place o (local_ops (own (x.local ++ map as_pulled N))) ++ k))
      leads_now k a =
          let S = shared_ops N in
          let T = take (seen_at place o x.local) (serial_at place o c.done) in
          let log : log_at place o (x.local ++ map as_pulled N) ≡ log_at place o x.local ++ S = log_now o ∙ ap (λ (w : List Op). log_at place o x.local ++ w) (at_all place o S ops_at_o) in
          let h1 = subst (λ (w : List Op). Allowed O w) (ap (λ (w : List Op). w ++ k) log ∙ append_assoc (log_at place o x.local) S k) a in
          let h2 = all_drawn O S W (ops T) k own_before ((v o).leads (S ++ k) h1) in
          let parts : ops (T ++ map shared_item N) ≡ ops T ++ S = map-append (λ (w : Item Op). w.op) T (map shared_item N) ∙ ap (λ (w : List Op). ops T ++ w) (ops_items N) in
          let h3 = subst (λ (w : List Op). Allowed O w) (sym (ap (λ (w : List Op). w ++ (W ++ k)) parts ∙ append_assoc (ops T) S (W ++ k))) h2 in
          let h4 = permuted O (serial_at place o c.done) (T ++ map shared_item N) [] (W ++ k) (now_whole o (v o)) h3 in
          subst (λ (w : List (LocalEntry Op)). Allowed O (ops (serial_at place o c.done) ++ (ops_at place o (local_ops w) ++ k))) (sym own_now) h4

      -- A refresh leads to a snapshot of each object.
      pub refreshed_snapshots : HasSnapshots O place c.done (x.local ++ map as_pulled N)
      refreshed_snapshots p = elim (same_or_not p o) [
        | inl e ↦ subst (λ (q : ℕ). IsSnapshot O place (x.local ++ map as_pulled N) q (take (seen_at place q (x.local ++ map as_pulled N)) (serial_at place q c.done))) (sym e)
            (subst (λ (w : List (Item Op)). IsSnapshot O place (x.local ++ map as_pulled N) o w)
            (sym (take_all (seen_at place o (x.local ++ map as_pulled N)) (serial_at place o c.done) (let z = all_seen in omega arith)))
            (record { distinct_x = distinct_now; distinct_y = serial_distinct; into = into_now; back = back_now; leads = leads_now }))
        | inr n ↦ same_snapshot O place c.done x.local (x.local ++ map as_pulled N) p (pulled_elsewhere p n)
            (log_now p ∙ ap (λ (w : List Op). log_at place p x.local ++ w) (at_none place p (shared_ops N) (λ a i e. n (sym e ∙ ops_at_o a i))) ∙ append-nil (log_at place p x.local))
            (ap (λ (w : List (LocalEntry Op)). ops_at place p (local_ops w)) own_now) (v p)
      ]
