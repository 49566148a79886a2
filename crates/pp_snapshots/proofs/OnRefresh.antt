-- Proof machinery: a refresh record, and the summary that it leads to.
use Rattle.std.proofs.Common.{◌≡◌, ◌≢◌, ◌==◌, ◌&&◌, ◌||◌, ◌+◌, ◌<◌, ℕ, zero, suc, Bool, true, false, not, cond, nat_eq, IsTrue, List, [], ◌∷◌, ◌++◌, length, get_or, map, filter, take, drop, reverse, Some}
use Rattle.std.proofs.Common.{refl, sym, ap, subst, ◌∙◌, inl, inr, arith, append_assoc, eq-eqb}
use Rattle.std.specs.Map.{lookup, set_value}
use Rattle.std.proofs.lemmas.Bool.{eqb-true}
use Rattle.std.proofs.lemmas.List.{drop-map, length-map, map-append, take-map, take_more}
use Rattle.std.proofs.lemmas.Option.{same_Some}
use mathlib.Core.Path.{fun_ext}
use Rattle.pp_core.specs.declared.call.Kind.{Kind}
use Rattle.pp_core.specs.declared.entry.CommittedTx.{CommittedTx}
use Rattle.pp_core.specs.declared.entry.Item.{Item}
use Rattle.pp_body.specs.Walks.{HasTaken}
use Rattle.pp_model.specs.Config.{LocalEntry, SharedEntry, as_shared, local_ops, shared_item, shared_ops}
use Rattle.pp_model.specs.Lists.{Before, In}
use Rattle.pp_model.specs.Names.{Name, ◌=ⁿ◌}
use Rattle.pp_model.specs.Object.{HasDistinctIds, ops}
use Rattle.pp_model.specs.Serial.{has_id}
use Rattle.pp_model.specs.Sound.{serial_items}
use Rattle.pp_model.proofs.Lists.{before_from_filter, before_from_map, from_filter, from_map, in_cases, in_filter, in_map}
use Rattle.pp_kind.specs.Object.{IsAllowed, IsLawful, IsPlaced, Object, SwapsIn, rules_of}
use Rattle.pp_records.specs.Records as records
use Rattle.pp_laws_summary.specs.LocalLogs.{serial_at}
use Rattle.pp_laws_summary.specs.Places.{ops_at}
use Rattle.pp_laws_summary.specs.Summary.{OpenSummary, Summary, SummaryRefresh, seen_all, seen_ids, summary_missing, summary_view}
use Rattle.pp_laws_summary.proofs.AtPlace.{filter_twice}
use Rattle.pp_laws_summary.proofs.Entries.{same_or_not}
use Rattle.pp_laws_summary.proofs.Parts.{not_eq}
use Rattle.pp_laws_summary.proofs.Relog.{filter_map, filter_same, map_map}
use Rattle.pp_summary.specs.Shown.{AreThreads, calls_of, filled, open_in}
use Rattle.pp_summary.specs.declared.parts.OpenTx.{OpenTx}
use Rattle.pp_snapshots.specs.declared.past.Past.{Past}
use Rattle.pp_snapshots.specs.Many.{AreAsked}
use Rattle.pp_snapshots.specs.Moving.{IsGood, Moves}
use Rattle.pp_snapshots.specs.Past.{IsPast}
use Rattle.pp_snapshots.specs.Refreshing.{MayNot, MayRefresh, later_at}
use Rattle.pp_snapshots.specs.Shown.{IsFine, Keeps, Kept, SlotList, as_local, count_or_none, done_ops, own_total, seen_in, shared_done, shown, shown_tx, threads_of}
use Rattle.pp_snapshots.proofs.Manies.{asked_there, in_dropped}
use Rattle.pp_snapshots.proofs.Moving.{fine_of, fine_set, keys_set, moves, names_set, opened_set, own_asked, same_open, same_summary, slot_there, threads_on, total_set}
use Rattle.pp_snapshots.proofs.OnOp.{it_is, of_it}
use Rattle.pp_snapshots.proofs.Pasts.{shape_is}
use Rattle.pp_snapshots.proofs.Views.{committed_all, ops_local}

-- what holds of each holds of one more
pub each_more : {A : Type 0} (P : A → Type 0) (l : List A) (k : ℕ) (a : A) → k < length l → a ≡ get_or l k a → ((b : A) → In b (take k l) → P b) → P a → (b : A) → In b (take (k + 1) l) → P b
each_more {A} P l k a lt is h p b i = elim (in_cases b (take k l) (a ∷ []) (subst (λ (w : List A). In b w) (take_more l k a lt ∙ ap (λ (c : A). take k l ++ c ∷ []) (sym is)) i)) [
  | inl j ↦ h b j
  | inr (inl j) ↦ subst P (sym j) p
  | inr (inr j) ↦ absurd j
]

-- The later operations that were applied at a place fit and are in range.
pub dropped_asked : {Shape State Op Undo : Type 0} (o : Object Shape State Op Undo) (place : Op → ℕ) (SameAt : ℕ → State → State → Type 0) (laws : IsLawful o) (places : IsPlaced o place SameAt)
    (shape : Shape) (v : Past State Op Undo) (h : ℕ → List Op) → IsPast o place shape v h → (p n : ℕ) → AreAsked o v (drop n (h p))
dropped_asked o place SameAt laws places shape v h past p n a i =
    let k = asked_there o place SameAt laws places shape v h past p a (in_dropped (h p) n a i) in
    (subst (λ sh. IsTrue (o.fits sh a)) (sym (shape_is o place SameAt laws places shape v h past)) k.0, k.1)

-- the items but the first ones, told apart by their ids
has_none : (i j : ℕ) (ids : List ℕ) → i ≢ j → has_id j (i ∷ ids) ≡ has_id j ids
has_none i j ids n = ap (λ (b : Bool). b || has_id j ids) (not_eq i j n)

-- The items without the ids of the first n are those after the first n, if the ids are distinct.
pub drop_by_ids : {Op : Type 0} (l : List (Item Op)) → HasDistinctIds l → (n : ℕ) → filter (λ p. not (has_id p.id (map (λ q. q.id) (take n l)))) l ≡ drop n l
drop_by_ids [] d zero = refl
drop_by_ids [] d (suc n) = refl
drop_by_ids {Op} (p ∷ l) d zero = keep (p ∷ l)
  where
    keep : (l : List (Item Op)) → filter (λ (p : Item Op). true) l ≡ l
    keep [] = refl
    keep (q ∷ l) = ap (λ (w : List (Item Op)). q ∷ w) (keep l)
drop_by_ids {Op} (p ∷ l) d (suc n) =
    ap (λ (b : Bool). cond (not (b || has_id p.id (map (λ (q : Item Op). q.id) (take n l)))) (p ∷ filter (λ (r : Item Op). not (has_id r.id (map (λ (q : Item Op). q.id) (p ∷ take n l)))) l) (filter (λ (r : Item Op). not (has_id r.id (map (λ (q : Item Op). q.id) (p ∷ take n l)))) l)) (eq-eqb p.id p.id refl)
    ∙ filter_same (λ (r : Item Op). not (has_id r.id (map (λ (q : Item Op). q.id) (p ∷ take n l)))) (λ (r : Item Op). not (has_id r.id (map (λ (q : Item Op). q.id) (take n l)))) l
    (λ r i. ap not (has_none p.id r.id (map (λ (q : Item Op). q.id) (take n l)) (d p r (inl (refl, i)))))
    ∙ drop_by_ids l (λ q r b. d q r (inr b)) n

-- The items of the shared log of committed transactions are those of the serial run.
pub serial_shared : {Op : Type 0} (D : List (CommittedTx Op)) → map shared_item (shared_done D) ≡ serial_items D
serial_shared [] = refl
serial_shared {Op} (d ∷ D) =
    map-append shared_item (map (as_shared d.name true) d.entries) (shared_done D)
    ∙ ap (λ (w : List (Item Op)). w ++ map shared_item (shared_done D)) (map_map shared_item (as_shared d.name true) d.entries ∙ same d.entries)
    ∙ ap (λ (w : List (Item Op)). d.entries ++ w) (serial_shared D)
  where
    same : (l : List (Item Op)) → map (λ (p : Item Op). shared_item (as_shared d.name true p)) l ≡ l
    same [] = refl
    same (p ∷ l) = ap (λ (w : List (Item Op)). p ∷ w) (same l)

module _ {Op : Type 0} (place : Op → ℕ) where
  -- what is missed of a place
  pub missing_is : (D : List (CommittedTx Op)) → HasDistinctIds (serial_items D) → (q : ℕ) (B : Summary Op) (X : OpenSummary Op) → B.shared ≡ shared_done D → B.done ≡ D →
      shared_ops (summary_missing place q B X) ≡ drop (X.seen q) (ops (serial_at place q D))
  missing_is D distinct q B X shared done =
      ap (λ (E : List (CommittedTx Op)). shared_ops (filter (λ g. (g.committed && (place g.op == q)) && not (has_id g.id (seen_ids place q E X))) B.shared)) done
      ∙ ap (λ (G : List (SharedEntry Op)). shared_ops (filter (λ g. (g.committed && (place g.op == q)) && not (has_id g.id ids)) G)) shared
      ∙ ap (λ (G : List (SharedEntry Op)). shared_ops G) (filter_same (λ (g : SharedEntry Op). (g.committed && (place g.op == q)) && not (has_id g.id ids)) (λ (g : SharedEntry Op). test (shared_item g)) (shared_done D)
      (λ g i. ap (λ (b : Bool). (b && (place g.op == q)) && not (has_id g.id ids)) (committed_all D g i)))
      ∙ sym (map_map (λ (p : Item Op). p.op) shared_item (filter (λ (g : SharedEntry Op). test (shared_item g)) (shared_done D)))
      ∙ ap (λ (l : List (Item Op)). ops l) (sym (filter_map test shared_item (shared_done D)))
      ∙ ap (λ (l : List (Item Op)). ops (filter test l)) (serial_shared D)
      ∙ ap (λ (l : List (Item Op)). ops l) (sym (filter_twice (λ (p : Item Op). not (has_id p.id ids)) (λ (p : Item Op). place p.op == q) (serial_items D)))
      ∙ ap (λ (l : List (Item Op)). ops l) (drop_by_ids (serial_at place q D) (λ p r b. distinct p r (before_from_filter (λ (w : Item Op). place w.op == q) p r (serial_items D) b)) (X.seen q))
      ∙ sym (drop-map (λ (p : Item Op). p.op) (X.seen q) (serial_at place q D))
    where
      ids : List ℕ
      ids = map (λ p. p.id) (take (X.seen q) (serial_at place q D))

      test : Item Op → Bool
      test p = (place p.op == q) && not (has_id p.id (map (λ w. w.id) (take (X.seen q) (serial_at place q D))))

  -- The operation of an own entry at a place is among the own operations there.
  pub own_there : (n : Name) (q : ℕ) (x : OpenTx (List (Item Op))) (a : LocalEntry Op) → In a (map (as_local n) x.own) → place a.op ≡ q → In a.op (ops_at place q (ops x.own))
  own_there n q x a i there =
      let m = from_map (as_local n) a x.own i in
      let is : m.0.op ≡ a.op = sym (ap (λ (b : LocalEntry Op). b.op) m.2) in
      subst (λ (b : Op). In b (ops_at place q (ops x.own))) is
      (in_filter (λ (b : Op). place b == q) m.0.op (ops x.own) (in_map (λ (p : Item Op). p.op) m.0 x.own m.1) (eq-eqb (place m.0.op) q (ap place is ∙ there)))

  -- An own operation at a place is that of an own entry there.
  pub own_from : (n : Name) (q : ℕ) (x : OpenTx (List (Item Op))) (b : Op) → In b (ops_at place q (ops x.own)) → (a : LocalEntry Op) × In a (map (as_local n) x.own) × (place a.op ≡ q) × (a.op ≡ b)
  own_from n q x b i =
      let f = from_filter (λ (c : Op). place c == q) b (ops x.own) i in
      let m = from_map (λ (p : Item Op). p.op) b x.own f.0 in
      (as_local n m.0, in_map (as_local n) m.0 x.own m.1, ap place (sym m.2) ∙ eqb-true (place b) q f.1, sym m.2)

module _ {Shape State Op Undo : Type 0} (o : Object Shape State Op Undo) (place : Op → ℕ) (SameAt : ℕ → State → State → Type 0) (laws : IsLawful o) (places : IsPlaced o place SameAt) (v : Kept Shape State Op Undo) (h : Keeps o place v) where
  -- The ids of the committed operations are distinct.
  pub distinct : HasDistinctIds (serial_items v.committed)
  distinct p q b e =
      let s = h.is_held.1 in
      let c = h.is_held.0.config in
      let shared : c.shared ≡ shared_done v.committed = ap (λ (B : Summary Op). B.shared) s.is in
      let m = before_from_map shared_item p q (shared_done v.committed) (subst (λ (l : List (Item Op)). Before p q l) (sym (serial_shared v.committed)) b) in
      s.summable.sound.shared_ids m.0 m.1 (subst (λ (G : List (SharedEntry Op)). Before m.0 m.1 G) (sym shared) m.2)
      (ap (λ (w : Item Op). w.id) (sym m.3) ∙ e ∙ ap (λ (w : Item Op). w.id) m.4)

  module _ (t : Name) (x : OpenTx (List (Item Op))) (found : open_in t v.slots.entries ≡ Some x) (q : ℕ) where
    abbrev Refreshes : List Kind → OpenSummary Op → Type 0
    Refreshes ks = SummaryRefresh (rules_of o v.shape) place (shown ks v) q

    missing : (ks : List Kind) → shared_ops (summary_missing place q (shown ks v) (shown_tx t x)) ≡ later_at o place (done_ops o place v.committed) q x
    missing ks = missing_is place v.committed distinct q (shown ks v) (shown_tx t x) refl refl

    view : (ks : List Kind) → summary_view place q v.committed (shown_tx t x) ++ shared_ops (summary_missing place q (shown ks v) (shown_tx t x))
        ≡ take (seen_in x.seen.entries q) (done_ops o place v.committed q) ++ (ops_at place q (ops x.own) ++ later_at o place (done_ops o place v.committed) q x)
    view ks =
        ap (λ (w : List Op). summary_view place q v.committed (shown_tx t x) ++ w) (missing ks)
        ∙ append_assoc (ops (take (seen_in x.seen.entries q) (serial_at place q v.committed))) (ops_at place q (local_ops (map (as_local t) x.own))) (later_at o place (done_ops o place v.committed) q x)
        ∙ ap (λ (w : List Op). w ++ (ops_at place q (local_ops (map (as_local t) x.own)) ++ later_at o place (done_ops o place v.committed) q x)) (sym (take-map (λ (p : Item Op). p.op) (seen_in x.seen.entries q) (serial_at place q v.committed)))
        ∙ ap (λ (w : List Op). take (seen_in x.seen.entries q) (done_ops o place v.committed q) ++ (ops_at place q w ++ later_at o place (done_ops o place v.committed) q x)) (ops_local t x.own)

    -- A refresh is good by the summary if the transaction may take a new snapshot.
    pub refresh_good : MayRefresh o place v.shape (done_ops o place v.committed) q x → (ks : List Kind) → IsGood o place ks v (records.Refresh t q)
    refresh_good may ks = it_is o place SameAt laws places v h t x found (Refreshes ks) (record {
      swaps = λ a g i there j.
          may.swaps g.op (subst (λ (l : List Op). In g.op l) (missing ks) (in_map (λ (e : SharedEntry Op). e.op) g (summary_missing place q (shown ks v) (shown_tx t x)) j))
          a.op (own_there place t q x a i there) v.shape;
      allowed = subst (IsAllowed o v.shape) (sym (view ks)) may.allowed;
    })

    -- A refresh is not good by the summary if the transaction may not take a new snapshot.
    pub refresh_not : MayNot o place v.shape (done_ops o place v.committed) q x → (ks : List Kind) → IsGood o place ks v (records.Refresh t q) → ⊥
    refresh_not may ks g = elim (may.never) [
      | inl s ↦
          let good = of_it o place SameAt laws places v h t x found (Refreshes ks) g in
          let b = s.0 in
          let a = s.2.0 in
          let l = own_from place t q x a s.2.1 in
          let e = from_map (λ (e : SharedEntry Op). e.op) b (summary_missing place q (shown ks v) (shown_tx t x)) (subst (λ (l : List Op). In b l) (sym (missing ks)) s.1) in
          let asked_a = own_asked o place SameAt laws places v h t x found a (from_filter (λ (c : Op). place c == q) a (ops x.own) s.2.1).0 in
          let asked_b = asked_there o place SameAt laws places v.shape v.past (done_ops o place v.committed) h.past q b (in_dropped (done_ops o place v.committed q) (seen_in x.seen.entries q) b s.1) in
          let fits_a = subst (λ sh. IsTrue (o.fits sh a)) (shape_is o place SameAt laws places v.shape v.past (done_ops o place v.committed) h.past) asked_a.0 in
          let swap = good.swaps l.0 e.0 l.1 l.2 e.1 in
          s.2.2 v.shape fits_a asked_b.0 (subst (λ (c : Op). SwapsIn o v.shape c b) l.3 (subst (λ (c : Op). SwapsIn o v.shape l.0.op c) (sym e.2) swap))
      | inr never ↦ never (subst (IsAllowed o v.shape) (view ks) (of_it o place SameAt laws places v h t x found (Refreshes ks) g).allowed)
    ]

    -- A good refresh leads to the next summary.
    pub refreshed_moves : (w : Kept Shape State Op Undo) → ((ks : List Kind) → IsGood o place ks v (records.Refresh t q)) → (y : OpenTx (List (Item Op))) → y.thread ≡ x.thread → y.walk ≡ x.walk → y.own ≡ x.own
        → (n : ℕ) → n ≡ length (done_ops o place v.committed q) → ((p : ℕ) → lookup (nat_eq p) y.seen.entries ≡ cond (nat_eq q p) (Some n) (lookup (nat_eq p) x.seen.entries))
        → w.slots.entries ≡ set_value (λ m. t =ⁿ m) v.slots.entries (Some y) → w.threads.keys ≡ v.threads.keys → w.ids ≡ v.ids → w.shape ≡ v.shape
        → IsPast o place v.shape w.past (done_ops o place v.committed) → w.past.size ≡ v.past.size → w.committed ≡ v.committed → w.count ≡ v.count + 1 → Moves o place v (records.Refresh t q) w
    refreshed_moves w good y thread walk own n all seen slots threads ids shape past size committed count =
        let opened = opened_set o place SameAt laws places v h t x y (seen_all place q v.committed) w.slots.entries found slots (seen_is y thread walk own n all seen) in
        moves o place SameAt laws places v h (records.Refresh t q) w tt good shape count
        (λ ks. same_summary ks _ _ _ _ _ _ _ _ _ _
        (keys_set o place SameAt laws places v h t (Some y) w.slots.entries slots)
        (ap (λ (l : List ℕ). reverse l) ids)
        opened
        (ap shared_done committed)
        committed)
        (names_set o place SameAt laws places v h t (Some y) w.slots.entries slots)
        (subst (λ (l : List Name). AreThreads l (threads_of (filled shown_tx w.slots.entries))) (sym threads)
        (subst (λ (l : List Name). AreThreads v.threads.keys l)
        (sym (ap (λ (l : List (OpenSummary Op)). threads_of l) opened ∙ threads_on o place SameAt laws places v h t (seen_all place q v.committed) (filled shown_tx v.slots.entries) (λ z. refl))) h.threads))
        (fine_set o place SameAt laws places v h t (Some y) w.slots.entries slots (λ z e. subst (λ (u : OpenTx (List (Item Op))). IsFine o place v.shape u) (same_Some y z e) (fine_then y walk own)))
        (subst (λ (D : List (CommittedTx Op)). IsPast o place v.shape w.past (done_ops o place D)) (sym committed) past)
        (let k = total_set t v.slots.entries x (Some y) (slot_there o place SameAt laws places v h t x found) in
        let same : own_total w.slots.entries ≡ own_total (set_value (λ m. t =ⁿ m) v.slots.entries (Some y)) = ap (λ (z : SlotList Op). own_total z) slots in
        let len : length y.own ≡ length x.own = ap (λ (l : List (Item Op)). length l) own in
        let few = h.few in
        omega (arith, k, same, len, size, few))
      where
        turned : (p : ℕ) → nat_eq q p ≡ (p == q)
        turned p = elim (same_or_not q p) [
          | inl e ↦ eq-eqb q p e ∙ sym (eq-eqb p q (sym e))
          | inr m ↦ not_eq q p m ∙ sym (not_eq p q (λ e. m (sym e)))
        ]

        seen_is : (y : OpenTx (List (Item Op))) → y.thread ≡ x.thread → y.walk ≡ x.walk → y.own ≡ x.own → (n : ℕ) → n ≡ length (done_ops o place v.committed q)
            → ((p : ℕ) → lookup (nat_eq p) y.seen.entries ≡ cond (nat_eq q p) (Some n) (lookup (nat_eq p) x.seen.entries)) → shown_tx t y ≡ seen_all place q v.committed (shown_tx t x)
        seen_is y thread walk own n all seen =
            same_open t y.thread x.thread y.walk.body x.walk.body _ _ _ _ thread (ap (λ z. z.body) walk) (ap (λ (l : List (Item Op)). map (as_local t) l) own)
            (fun_ext (λ p. ap count_or_none (seen p) ∙ split p (nat_eq q p)
            ∙ ap (λ (m : ℕ). cond (nat_eq q p) m (seen_in x.seen.entries p)) (all ∙ length-map (serial_at place q v.committed) (λ (w : Item Op). w.op))
            ∙ ap (λ (b : Bool). cond b (length (serial_at place q v.committed)) (seen_in x.seen.entries p)) (turned p)))
          where
            split : (p : ℕ) (b : Bool) → count_or_none (cond b (Some n) (lookup (nat_eq p) x.seen.entries)) ≡ cond b n (seen_in x.seen.entries p)
            split p true = refl
            split p false = refl

        fine_then : (y : OpenTx (List (Item Op))) → y.walk ≡ x.walk → y.own ≡ x.own → IsFine o place v.shape y
        fine_then y walk own =
            let f = fine_of o place SameAt laws places v h t x found in
            record {
              taken = subst (λ (l : List (Item Op)). HasTaken y.walk (calls_of o l)) (sym own) (subst (λ z. HasTaken z (calls_of o x.own)) (sym walk) f.taken);
              asked = λ p i. f.asked p (subst (λ (l : List (Item Op)). In p l) own i);
            }
