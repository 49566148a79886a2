-- Proof machinery: an op record, and the summary that it leads to.
use Rattle.std.proofs.Common.{◌≡◌, ◌≢◌, ◌⊎◌, ◌==◌, ◌&&◌, ◌||◌, ◌+◌, ℕ, zero, suc, Bool, true, false, not, cond, nat_eq, IsTrue, List, [], ◌∷◌, ◌++◌, length, map, take, reverse, option_map, Option, None, Some}
use Rattle.std.proofs.Common.{refl, sym, ap, subst, ◌∙◌, inl, inr, arith, append_assoc, append-nil, eq-eqb, length-append}
use Rattle.std.specs.List.{list_any}
use Rattle.std.specs.Map.{lookup, set_value}
use Rattle.std.proofs.lemmas.Bool.{and_parts, eqb-true}
use Rattle.std.proofs.lemmas.List.{length-map, map-append, take-map, take_all}
use Rattle.std.proofs.lemmas.Option.{same_Some}
use mathlib.Core.Path.{fun_ext}
use Rattle.pp_body.specs.Walks.{HasTaken}
use Rattle.pp_core.specs.declared.call.Kind.{Kind}
use Rattle.pp_core.specs.declared.call.Style.TheVariants.{Optimistic}
use Rattle.pp_core.specs.declared.entry.CommittedTx.{CommittedTx}
use Rattle.pp_core.specs.declared.entry.Item.{Item}
use Rattle.pp_model.specs.Body.{Begins}
use Rattle.pp_model.specs.Config.{LocalEntry, SharedEntry, local_ops, shared_ops}
use Rattle.pp_model.specs.Lists.{In}
use Rattle.pp_model.specs.Names.{Name, ◌=ⁿ◌}
use Rattle.pp_model.specs.Object.{ops}
use Rattle.pp_model.specs.Rules.{calls}
use Rattle.pp_model.proofs.Finding.{from_reverse, in_reverse, reverse_more}
use Rattle.pp_model.proofs.Lists.{from_map, in_cases, in_filter, in_map}
use Rattle.pp_kind.specs.Object.{IsAllowed, IsLawful, IsPlaced, Object, rules_of}
use Rattle.pp_records.specs.Records.{RunRecord}
use Rattle.pp_records.specs.Records as records
use Rattle.pp_laws_summary.specs.LocalLogs.{new_entry, serial_at}
use Rattle.pp_laws_summary.specs.Places.{ops_at}
use Rattle.pp_laws_summary.specs.Summary.{Held, OpenSummary, Summary, SummaryOp, after_op, at_number, open_named, seen_all, shared_by, summary_missing, summary_pulled, summary_view, touched_since, with_entry}
use Rattle.pp_laws_summary.proofs.Entries.{same_or_not}
use Rattle.pp_laws_summary.proofs.Parts.{not_eq}
use Rattle.pp_summary.specs.Held.{IsOpAsked}
use Rattle.pp_summary.specs.Shown.{AreThreads, calls_of, filled, open_in}
use Rattle.pp_summary.specs.declared.parts.OpenTx.{OpenTx}
use Rattle.pp_summary.proofs.Judging.{not_used, used_in}
use Rattle.pp_snapshots.specs.Moving.{IsGood, Moves}
use Rattle.pp_snapshots.specs.Ops.{IsGrown, OpIsGood, snapshot_of}
use Rattle.pp_snapshots.specs.Past.{IsPast}
use Rattle.pp_snapshots.specs.Shown.{IsFine, Keeps, Kept, SlotList, own_total, threads_of, as_local, count_or_none, done_ops, seen_in, shared_done, shown, shown_tx}
use Rattle.pp_snapshots.proofs.Moving.{fine_of, fine_set, keys_set, moves, names_set, open_is, open_there, opened_set, same_open, same_summary, slot_there, threads_on, total_set}
use Rattle.pp_snapshots.proofs.Views.{items_local, local_more, missing_all, ops_local}

-- what an operation of an optimistic run returns to: nothing
abbrev pub h0 : Held
h0 = record { own = zero; seen = λ p. zero }

-- The transaction has nothing of the place.
abbrev pub has_nothing : {Op : Type 0} → (Op → ℕ) → ℕ → OpenTx (List (Item Op)) → Bool
has_nothing place q x = nat_eq (seen_in x.seen.entries q) zero && nat_eq (length (ops_at place q (ops x.own))) zero

module _ {Op : Type 0} (place : Op → ℕ) where
  any_own : (n : Name) (q : ℕ) (l : List (Item Op)) → list_any (λ e. place e.op == q) (map (as_local n) l) ≡ not (nat_eq (length (ops_at place q (ops l))) zero)
  any_own n q [] = refl
  any_own n q (p ∷ l) = by (place p.op == q) (any_own n q l)
    where
      by : (b : Bool) → list_any (λ e. place e.op == q) (map (as_local n) l) ≡ not (nat_eq (length (ops_at place q (ops l))) zero)
          → (b || list_any (λ e. place e.op == q) (map (as_local n) l)) ≡ not (nat_eq (length (cond b (p.op ∷ ops_at place q (ops l)) (ops_at place q (ops l)))) zero)
      by true k = ap not (sym (not_eq (suc (length (ops_at place q (ops l)))) zero (λ e. absurd (omega (arith, e)))))
      by false k = k

  either : (a b : Bool) → (not a || not b) ≡ not (a && b)
  either true b = refl
  either false b = refl

  -- A transaction has touched a place exactly if it has something there.
  pub touched_is : (n : Name) (q : ℕ) (x : OpenTx (List (Item Op))) → touched_since place q h0 (shown_tx n x) ≡ not (has_nothing place q x)
  touched_is n q x =
      ap (λ (b : Bool). not (seen_in x.seen.entries q == zero) || b) (any_own n q x.own)
      ∙ either (nat_eq (seen_in x.seen.entries q) zero) (nat_eq (length (ops_at place q (ops x.own))) zero)

  -- what is true where there is nothing
  nothing_seen : (q : ℕ) (x : OpenTx (List (Item Op))) → has_nothing place q x ≡ true → (seen_in x.seen.entries q ≡ zero) × (ops_at place q (ops x.own) ≡ [])
  nothing_seen q x e =
      let b = and_parts (nat_eq (seen_in x.seen.entries q) zero) (nat_eq (length (ops_at place q (ops x.own))) zero) e in
      (eqb-true (seen_in x.seen.entries q) zero b.0, none (ops_at place q (ops x.own)) (eqb-true (length (ops_at place q (ops x.own))) zero b.1))
    where
      none : (l : List Op) → length l ≡ zero → l ≡ []
      none [] k = refl
      none (a ∷ l) k = absurd (omega (arith, k))

  no_own : (n : Name) (q : ℕ) (x : OpenTx (List (Item Op))) → ops_at place q (ops x.own) ≡ [] → (a : LocalEntry Op) → In a (map (as_local n) x.own) → place a.op ≡ q → ⊥
  no_own n q x e a i there =
      let m = from_map (as_local n) a x.own i in
      let k = in_filter (λ (b : Op). place b == q) m.0.op (ops x.own) (in_map (λ (p : Item Op). p.op) m.0 x.own m.1) (eq-eqb (place m.0.op) q (ap (λ (b : LocalEntry Op). place b.op) (sym m.2) ∙ there)) in
      absurd (subst (λ (l : List Op). In m.0.op l) e k)

  -- what a transaction has of the place of an operation, with what it pulls first
  pub view_is : (ks : List Kind) (D : List (CommittedTx Op)) (B : Summary Op) (n : Name) (x : OpenTx (List (Item Op))) (q : ℕ) (k : List Op) → B.shared ≡ shared_done D → B.done ≡ D → (b : Bool) → has_nothing place q x ≡ b →
      summary_view place q D (shown_tx n x) ++ (shared_ops (summary_pulled place (Some h0) q B (shown_tx n x)) ++ k)
      ≡ take (cond b (length (ops (serial_at place q D))) (seen_in x.seen.entries q)) (ops (serial_at place q D)) ++ (ops_at place q (ops x.own) ++ k)
  view_is ks D B n x q k shared done true e =
      let none = nothing_seen q x e in
      let X = shown_tx n x in
      let l = serial_at place q D in
      ap (λ (c : Bool). summary_view place q D X ++ (shared_ops (cond c [] (summary_missing place q B X)) ++ k)) (touched_is n q x ∙ ap not e)
      ∙ ap (λ (m : ℕ). (ops (take m l) ++ ops_at place q (local_ops X.own)) ++ (shared_ops (summary_missing place q B X) ++ k)) none.0
      ∙ ap (λ (w : List Op). ops_at place q w ++ (shared_ops (summary_missing place q B X) ++ k)) (ops_local n x.own)
      ∙ ap (λ (w : List Op). w ++ (shared_ops (summary_missing place q B X) ++ k)) none.1
      ∙ ap (λ (w : List Op). w ++ k) (missing_all place ks D q B X shared none.0)
      ∙ ap (λ (w : List Op). w ++ k) (sym (take_all (length (ops l)) (ops l) (omega arith)))
      ∙ ap (λ (w : List Op). take (length (ops l)) (ops l) ++ (w ++ k)) (sym none.1)
  view_is ks D B n x q k shared done false e =
      let X = shown_tx n x in
      let l = serial_at place q D in
      ap (λ (c : Bool). summary_view place q D X ++ (shared_ops (cond c [] (summary_missing place q B X)) ++ k)) (touched_is n q x ∙ ap not e)
      ∙ append_assoc (ops (take (seen_in x.seen.entries q) l)) (ops_at place q (local_ops X.own)) k
      ∙ ap (λ (w : List Op). w ++ (ops_at place q (local_ops X.own) ++ k)) (sym (take-map (λ (p : Item Op). p.op) (seen_in x.seen.entries q) l))
      ∙ ap (λ (w : List Op). take (seen_in x.seen.entries q) (ops l) ++ (ops_at place q w ++ k)) (ops_local n x.own)

module _ {Shape State Op Undo : Type 0} (o : Object Shape State Op Undo) (place : Op → ℕ) (SameAt : ℕ → State → State → Type 0) (laws : IsLawful o) (places : IsPlaced o place SameAt) (v : Kept Shape State Op Undo) (h : Keeps o place v) where
  -- a transaction that is not open
  pub not_open : (t : Name) (P : OpenSummary Op → Type 0) → open_in t v.slots.entries ≡ None → (X : OpenSummary Op) × (open_named t (filled shown_tx v.slots.entries) ≡ Some X) × P X → ⊥
  not_open t P e g = let z : None ≡ Some g.0 = sym (open_is o place SameAt laws places v h t ∙ ap (option_map (shown_tx t)) e) ∙ g.1 in cc

  module _ (t : Name) (x : OpenTx (List (Item Op))) (found : open_in t v.slots.entries ≡ Some x) where
    -- the summary of the open transaction
    abbrev pub X : OpenSummary Op
    X = shown_tx t x

    -- The transaction is open in the summary.
    pub here : open_named t (filled shown_tx v.slots.entries) ≡ Some (shown_tx t x)
    here = open_there o place SameAt laws places v h t x found

    -- What is true of the open transaction of this name is true of this one.
    pub of_it : (P : OpenSummary Op → Type 0) → (Y : OpenSummary Op) × (open_named t (filled shown_tx v.slots.entries) ≡ Some Y) × P Y → P (shown_tx t x)
    of_it P g = subst P (same_Some g.0 (shown_tx t x) (sym g.1 ∙ here)) g.2

    -- What is true of this one is true of the open transaction of its name.
    pub it_is : (P : OpenSummary Op → Type 0) → P (shown_tx t x) → (Y : OpenSummary Op) × (open_named t (filled shown_tx v.slots.entries) ≡ Some Y) × P Y
    it_is P p = (shown_tx t x, here, p)

    module _ (id : ℕ) (op : Op) where
      view : (ks : List Kind) (k : List Op) → summary_view place (place op) v.committed X ++ (shared_ops (summary_pulled place (Some h0) (place op) (shown ks v) X) ++ k)
          ≡ take (snapshot_of o place (done_ops o place v.committed) op x) (done_ops o place v.committed (place op)) ++ (ops_at place (place op) (ops x.own) ++ k)
      view ks k = view_is place ks v.committed (shown ks v) t x (place op) k refl refl (has_nothing place (place op) x) refl

      -- If an operation is good by the summary, it is good by what is kept.
      pub from_good : (ks : List Kind) → IsGood o place ks v (records.Op t id op) → OpIsGood o place v.shape (done_ops o place v.committed) v.ids id op x
      from_good ks g =
          let s = of_it (SummaryOp (rules_of o v.shape) place Optimistic (shown ks v) id op) g in
          record {
            new = by (list_any (λ i. id == i) v.ids) refl s.new;
            begins = subst (λ (l : List (Item Op)). Begins x.walk.body (calls (rules_of o v.shape) l ++ o.call op ∷ [])) (items_local t x.own) s.begins;
            allowed = subst (IsAllowed o v.shape) (view ks (op ∷ [])) s.allowed;
          }
        where
          by : (b : Bool) → list_any (λ i. id == i) v.ids ≡ b → (In id (reverse v.ids) → ⊥) → list_any (λ i. id == i) v.ids ≡ false
          by false e n = e
          by true e n = absurd (n (in_reverse id v.ids (used_in v.ids id e)))

      -- If an operation is good by what is kept, it is good by the summary.
      pub to_good : OpIsGood o place v.shape (done_ops o place v.committed) v.ids id op x → (ks : List Kind) → IsGood o place ks v (records.Op t id op)
      to_good g ks = it_is (SummaryOp (rules_of o v.shape) place Optimistic (shown ks v) id op) (record {
        new = λ i. not_used v.ids id g.new (from_reverse id v.ids i);
        begins = subst (λ (l : List (Item Op)). Begins x.walk.body (calls (rules_of o v.shape) l ++ o.call op ∷ [])) (sym (items_local t x.own)) g.begins;
        swaps = λ a e i there j. absurd (apart (has_nothing place (place op) x) refl a e i there j);
        allowed = subst (IsAllowed o v.shape) (sym (view ks (op ∷ []))) g.allowed;
        pushed = tt;
      })
        where
          apart : (b : Bool) → has_nothing place (place op) x ≡ b → (a : LocalEntry Op) (e : SharedEntry Op) → In a (map (as_local t) x.own) → place a.op ≡ place op → In e (summary_pulled place (Some h0) (place op) (shown ks v) X) → ⊥
          apart true q a e i there j = no_own place t (place op) x (nothing_seen place (place op) x q).1 a i there
          apart false q a e i there j = absurd (subst (λ (c : Bool). In e (cond c [] (summary_missing place (place op) (shown ks v) X))) (touched_is place t (place op) x ∙ ap not q) j)

      -- the transaction after it
      module _ (n : ℕ) (y : OpenTx (List (Item Op))) (snap : n ≡ snapshot_of o place (done_ops o place v.committed) op x) (grows : IsGrown o place x n (record { id = id; op = op }) y) where
        all_is : length (done_ops o place v.committed (place op)) ≡ length (serial_at place (place op) v.committed)
        all_is = length-map (serial_at place (place op) v.committed) (λ (p : Item Op). p.op)

        seen_is : (q : ℕ) → seen_in y.seen.entries q ≡ cond (nat_eq (place op) q) n (seen_in x.seen.entries q)
        seen_is q = ap count_or_none (grows.seen q) ∙ by (nat_eq (place op) q)
          where
            by : (b : Bool) → count_or_none (cond b (Some n) (lookup (nat_eq q) x.seen.entries)) ≡ cond b n (seen_in x.seen.entries q)
            by true = refl
            by false = refl

        turned : (q : ℕ) → nat_eq (place op) q ≡ (q == place op)
        turned q = elim (same_or_not (place op) q) [
          | inl e ↦ eq-eqb (place op) q e ∙ sym (eq-eqb q (place op) (sym e))
          | inr m ↦ not_eq (place op) q m ∙ sym (not_eq q (place op) (λ e. m (sym e)))
        ]

        seen_then : (b : Bool) → has_nothing place (place op) x ≡ b → seen_in y.seen.entries ≡ cond (not b) (seen_in x.seen.entries) (at_number (place op) (length (serial_at place (place op) v.committed)) (seen_in x.seen.entries))
        seen_then true e = fun_ext (λ q.
            seen_is q
            ∙ ap (λ (m : ℕ). cond (nat_eq (place op) q) m (seen_in x.seen.entries q)) (snap ∙ ap (λ (b : Bool). cond b (length (done_ops o place v.committed (place op))) (seen_in x.seen.entries (place op))) e ∙ all_is)
            ∙ ap (λ (b : Bool). cond b (length (serial_at place (place op) v.committed)) (seen_in x.seen.entries q)) (turned q))
        seen_then false e = fun_ext (λ q.
            seen_is q
            ∙ ap (λ (m : ℕ). cond (nat_eq (place op) q) m (seen_in x.seen.entries q)) (snap ∙ ap (λ (b : Bool). cond b (length (done_ops o place v.committed (place op))) (seen_in x.seen.entries (place op))) e)
            ∙ same q (same_or_not (place op) q))
          where
            same : (q : ℕ) → (place op ≡ q) ⊎ (place op ≢ q) → cond (nat_eq (place op) q) (seen_in x.seen.entries (place op)) (seen_in x.seen.entries q) ≡ seen_in x.seen.entries q
            same q (inl k) = ap (λ (b : Bool). cond b (seen_in x.seen.entries (place op)) (seen_in x.seen.entries q)) (eq-eqb (place op) q k) ∙ ap (seen_in x.seen.entries) k
            same q (inr k) = ap (λ (b : Bool). cond b (seen_in x.seen.entries (place op)) (seen_in x.seen.entries q)) (not_eq (place op) q k)

        own_then : map (as_local t) y.own ≡ map (as_local t) x.own ++ as_local t (record { id = id; op = op }) ∷ []
        own_then = ap (λ (l : List (Item Op)). map (as_local t) l) grows.own ∙ local_more t x.own (record { id = id; op = op })

        -- The summary of the transaction with one more operation is the one after the operation.
        pub after_is : (ks : List Kind) → shown_tx t y ≡ after_op place Optimistic (shown ks v) t id op (shown_tx t x)
        after_is ks = by (has_nothing place (place op) x) refl
          where
            by : (b : Bool) → has_nothing place (place op) x ≡ b → shown_tx t y ≡ after_op place Optimistic (shown ks v) t id op (shown_tx t x)
            by true e =
                same_open t y.thread x.thread y.walk.body x.walk.body _ _ _ _ grows.thread grows.body own_then (seen_then true e)
                ∙ ap (λ (c : Bool). with_entry (new_entry (Some h0) t id op) (cond c (shown_tx t x) (seen_all place (place op) v.committed (shown_tx t x)))) (sym (touched_is place t (place op) x ∙ ap not e))
            by false e =
                same_open t y.thread x.thread y.walk.body x.walk.body _ _ _ _ grows.thread grows.body own_then (seen_then false e)
                ∙ ap (λ (c : Bool). with_entry (new_entry (Some h0) t id op) (cond c (shown_tx t x) (seen_all place (place op) v.committed (shown_tx t x)))) (sym (touched_is place t (place op) x ∙ ap not e))

        after_thread : (ks : List Kind) (z : OpenSummary Op) → (after_op place Optimistic (shown ks v) t id op z).thread ≡ z.thread
        after_thread ks z = by (touched_since place (place op) h0 z)
          where
            by : (c : Bool) → (with_entry (new_entry (Some h0) t id op) (cond c z (seen_all place (place op) v.committed z))).thread ≡ z.thread
            by true = refl
            by false = refl

        grown_fine : IsOpAsked o v.shape op → IsFine o place v.shape y
        grown_fine asked =
            let f = fine_of o place SameAt laws places v h t x found in
            record {
              taken = subst (λ (l : List (Item Op)). HasTaken y.walk (calls_of o l)) (sym grows.own)
                  (subst (λ l. HasTaken y.walk l) (sym (map-append (λ (q : Item Op). o.call q.op) x.own (record { id = id; op = op } ∷ []))) (grows.taken (calls_of o x.own) f.taken));
              asked = λ p i. elim (in_cases p x.own (record { id = id; op = op } ∷ []) (subst (λ (l : List (Item Op)). In p l) grows.own i)) [
                | inl j ↦ f.asked p j
                | inr (inl j) ↦ subst (λ (q : Item Op). IsTrue (o.fits v.shape q.op) × IsTrue (o.ranged q.op)) (sym j) asked
                | inr (inr j) ↦ absurd j
              ];
            }

        -- A good operation leads to the next summary.
        pub grown_moves : (w : Kept Shape State Op Undo) → ((ks : List Kind) → IsGood o place ks v (records.Op t id op)) → IsOpAsked o v.shape op
            → w.slots.entries ≡ set_value (λ m. t =ⁿ m) v.slots.entries (Some y) → w.ids ≡ v.ids ++ id ∷ [] → w.shape ≡ v.shape → w.threads.keys ≡ v.threads.keys
            → IsPast o place v.shape w.past (done_ops o place v.committed) → w.past.size ≡ v.past.size → w.committed ≡ v.committed → w.count ≡ v.count + 1 → Moves o place v (records.Op t id op) w
        grown_moves w good asked slots ids shape threads past size committed count =
            let opened = λ (ks : List Kind). opened_set o place SameAt laws places v h t x y (after_op place Optimistic (shown ks v) t id op) w.slots.entries found slots (after_is ks) in
            moves o place SameAt laws places v h (records.Op t id op) w tt good shape count
            (λ ks. same_summary ks _ _ _ _ _ _ _ _ _ _
            (keys_set o place SameAt laws places v h t (Some y) w.slots.entries slots)
            (ap (λ (l : List ℕ). reverse l) ids ∙ reverse_more v.ids id)
            (opened ks)
            (ap shared_done committed ∙ sym (append-nil (shared_done v.committed)) ∙ ap (λ (m : Option (OpenSummary Op)). shared_done v.committed ++ shared_by place Optimistic ks t id op m) (sym here))
            committed)
            (names_set o place SameAt laws places v h t (Some y) w.slots.entries slots)
            (subst (λ (l : List Name). AreThreads l (threads_of (filled shown_tx w.slots.entries))) (sym threads)
            (subst (λ (l : List Name). AreThreads v.threads.keys l)
            (sym (ap (λ (l : List (OpenSummary Op)). threads_of l) (opened []) ∙ threads_on o place SameAt laws places v h t (after_op place Optimistic (shown [] v) t id op) (filled shown_tx v.slots.entries) (after_thread []))) h.threads))
            (fine_set o place SameAt laws places v h t (Some y) w.slots.entries slots (λ z e. subst (λ (u : OpenTx (List (Item Op))). IsFine o place v.shape u) (same_Some y z e) (grown_fine asked)))
            (subst (λ (D : List (CommittedTx Op)). IsPast o place v.shape w.past (done_ops o place D)) (sym committed) past)
            (let total = total_set t v.slots.entries x (Some y) (slot_there o place SameAt laws places v h t x found) in
            let same : own_total w.slots.entries ≡ own_total (set_value (λ m. t =ⁿ m) v.slots.entries (Some y)) = ap (λ (z : SlotList Op). own_total z) slots in
            let own : length y.own ≡ length x.own + 1 = ap (λ (l : List (Item Op)). length l) grows.own ∙ length-append x.own (record { id = id; op = op } ∷ []) in
            let few = h.few in
            omega (arith, total, same, own, size, few))
