-- How many steps a record has, from what is kept.
use Rattle.std.proofs.Common.{◌≡◌, ◌≢◌, ◌≤◌, ◌==◌, ◌&&◌, ◌||◌, ◌+◌, ◌-◌, ℕ, zero, suc, Bool, true, false, not, cond, nat_eq, List, [], ◌∷◌, length, map, filter, take, option_map, Option, None, Some}
use Rattle.std.proofs.Common.{refl, sym, ap, subst, ◌∙◌, inl, inr, arith}
use Rattle.std.specs.List.{list_any}
use Rattle.std.specs.Map.{lookup}
use Rattle.std.proofs.lemmas.Bool.{eqb-true, eq-eqb, ne_eqb}
use Rattle.std.proofs.lemmas.List.{length-drop, length-map}
use Rattle.pp_core.specs.declared.call.Kind.{Kind}
use Rattle.pp_core.specs.declared.call.Style.TheVariants.{Optimistic}
use Rattle.pp_core.specs.declared.entry.CommittedTx.{CommittedTx}
use Rattle.pp_core.specs.declared.entry.Item.{Item}
use Rattle.pp_model.specs.Config.{LocalEntry}
use Rattle.pp_model.specs.Lists.{In}
use Rattle.pp_model.specs.Names.{Name}
use Rattle.pp_model.specs.Object.{HasDistinctIds}
use Rattle.pp_model.specs.Serial.{has_id}
use Rattle.pp_model.specs.Sound.{serial_items, serial_ops}
use Rattle.pp_model.proofs.Lists.{before_from_filter, from_filter, from_map, in_filter}
use Rattle.pp_kind.specs.Object.{AllRanged, IsLawful, IsPlaced, Object, rules_of}
use Rattle.pp_kind.proofs.Fitting.{in_ranged}
use Rattle.pp_kind.proofs.Places.{tells_states}
use Rattle.pp_records.specs.Records.{RunRecord}
use Rattle.pp_records.specs.Records as records
use Rattle.pp_records.specs.Expansions.{IsOfStyle}
use Rattle.pp_laws_summary.specs.Counts.{first_ids, missing_count, open_count, op_count, record_steps, seen_items}
use Rattle.pp_laws_summary.specs.LocalLogs.{pushed_ids, serial_at, unpushed}
use Rattle.pp_laws_summary.specs.Places.{ops_at}
use Rattle.pp_laws_summary.specs.Summary.{OpenSummary, Summary, open_named, open_summary, touched_since}
use Rattle.pp_laws_summary.specs.Views.{seen_at}
use Rattle.pp_laws_summary.proofs.Counts.{counts}
use Rattle.pp_laws_summary.proofs.Entries.{same_or_not}
use Rattle.pp_laws_summary.proofs.Placed.{parts_of}
use Rattle.pp_laws_summary.proofs.Relog.{filter_none, filter_same, filter_within}
use Rattle.pp_laws_summary.proofs.Snapshots.{few_seen}
use Rattle.pp_summary.specs.Seen.{HaveOwnPlaces, seen_total}
use Rattle.pp_summary.specs.Shown.{filled, open_in}
use Rattle.pp_summary.specs.declared.parts.OpenTx.{OpenTx}
use Rattle.pp_summary.proofs.Places.{count_looked_up, count_there, filter_twice, length_parts, total_is, total_within}
use Rattle.pp_snapshots.specs.Held.{HasStepCount}
use Rattle.pp_snapshots.specs.Moving.{as_taken}
use Rattle.pp_snapshots.specs.Past.{made_at}
use Rattle.pp_snapshots.specs.Shown.{Keeps, Kept, SlotList, as_local, count_or_none, done_ops, seen_in, shown, shown_tx}
use Rattle.pp_snapshots.specs.Steps.{CountsAs, SawNoMore, first_pulls}
use Rattle.pp_snapshots.proofs.Asking.{filter_short}
use Rattle.pp_snapshots.proofs.Costs.{all_is}
use Rattle.pp_snapshots.proofs.Manies.{asked_there}
use Rattle.pp_snapshots.proofs.Moving.{in_slot_of, open_is, open_there, slot_there}
use Rattle.pp_snapshots.proofs.OnOp.{h0}
use Rattle.pp_snapshots.proofs.OnRefresh.{distinct, drop_by_ids}
use Rattle.pp_snapshots.proofs.Takens.{summary_is}
use Rattle.pp_snapshots.proofs.Views.{ops_items, pushed_none, unpushed_local}

-- The open transaction in a slot has its summary among those of all.
pub in_filled : {Op : Type 0} (n : Name) (x : OpenTx (List (Item Op))) (es : SlotList Op) → In (n, Some x) es → In (shown_tx n x) (filled shown_tx es)
in_filled n x [] i = absurd i
in_filled {Op} n x ((m, None) ∷ es) (inl e) = absurd (let k : Some x ≡ None = ap (λ (s : Name × Option (OpenTx (List (Item Op)))). s.1) e in cc)
in_filled n x ((m, None) ∷ es) (inr i) = in_filled n x es i
in_filled {Op} n x ((m, Some y) ∷ es) (inl e) = inl (ap (λ (s : Name × Option (OpenTx (List (Item Op)))). shown_slot s.0 s.1) e)
  where
    shown_slot : Name → Option (OpenTx (List (Item Op))) → OpenSummary Op
    shown_slot k None = shown_tx n x
    shown_slot k (Some z) = shown_tx k z
in_filled n x ((m, Some y) ∷ es) (inr i) = inr (in_filled n x es i)

-- As many items of a list with distinct ids have the ids of the first n items, if it has so many.
take_by_ids : {Op : Type 0} (l : List (Item Op)) → HasDistinctIds l → (n : ℕ) → n ≤ length l → length (filter (λ p. has_id p.id (map (λ q. q.id) (take n l))) l) ≡ n
take_by_ids {Op} l d n few =
    let parts = length_parts (λ (p : Item Op). has_id p.id (map (λ (q : Item Op). q.id) (take n l))) l in
    let rest = ap (λ (w : List (Item Op)). length w) (drop_by_ids l d n) ∙ length-drop n l in
    omega (arith, parts, rest, few)

-- An own entry is at a place exactly if its operation is.
any_local : {Op : Type 0} (place : Op → ℕ) (n : Name) (q : ℕ) (l : List (Item Op)) → list_any (λ e. place e.op == q) (map (as_local n) l) ≡ list_any (λ p. place p.op == q) l
any_local place n q [] = refl
any_local place n q (p ∷ l) = ap (λ (b : Bool). (place p.op == q) || b) (any_local place n q l)

module _ {Op : Type 0} (place : Op → ℕ) (D : List (CommittedTx Op)) (distinct : HasDistinctIds (serial_items D)) (entries : List (ℕ × ℕ)) (own : HaveOwnPlaces entries)
    (within : (q k : ℕ) → In (q, k) entries → k ≤ length (serial_at place q D)) where
  -- A transaction has as many pulled entries as its counts are together.
  pub items_total : length (seen_items place D (seen_in entries)) ≡ seen_total entries
  items_total = total_is (λ (p : Item Op). place p.op) entries (seen_items place D (seen_in entries)) own here there
    where
      test : Item Op → Bool
      test p = has_id p.id (first_ids place (place p.op) D (seen_in entries (place p.op)))

      here : (q k : ℕ) → In (q, k) entries → length (filter (λ p. place p.op == q) (seen_items place D (seen_in entries))) ≡ k
      here q k i =
          ap (λ (w : List (Item Op)). length w) (filter_twice (λ (p : Item Op). place p.op == q) test (serial_items D)
          ∙ filter_same (λ (p : Item Op). test p && (place p.op == q)) (λ (p : Item Op). (place p.op == q) && first p) (serial_items D) (λ p j. at p (place p.op == q) refl (test p) refl)
          ∙ sym (filter_twice first (λ (p : Item Op). place p.op == q) (serial_items D)))
          ∙ take_by_ids (serial_at place q D) (λ p r b. distinct p r (before_from_filter (λ (w : Item Op). place w.op == q) p r (serial_items D) b)) k (within q k i)
        where
          first : Item Op → Bool
          first p = has_id p.id (map (λ w. w.id) (take k (serial_at place q D)))

          seen_is : seen_in entries q ≡ k
          seen_is = ap count_or_none (count_looked_up entries own q k i)

          same : (p : Item Op) → place p.op ≡ q → test p ≡ first p
          same p e = ap (λ (r : ℕ). has_id p.id (first_ids place r D (seen_in entries r))) e ∙ ap (λ (n : ℕ). has_id p.id (first_ids place q D n)) seen_is

          at : (p : Item Op) (b : Bool) → (place p.op == q) ≡ b → (c : Bool) → test p ≡ c → (c && b) ≡ (b && first p)
          at p true e true f = sym f ∙ same p (eqb-true (place p.op) q e)
          at p true e false f = sym f ∙ same p (eqb-true (place p.op) q e)
          at p false e true f = refl
          at p false e false f = refl

      there : (p : Item Op) → In p (seen_items place D (seen_in entries)) → (k : ℕ) × In (place p.op, k) entries
      there p i = by (lookup (nat_eq (place p.op)) entries) refl
        where
          by : (m : Option ℕ) → lookup (nat_eq (place p.op)) entries ≡ m → (k : ℕ) × In (place p.op, k) entries
          by (Some k) e = (k, count_there entries (place p.op) k e)
          by None e =
              let f = from_filter test p (serial_items D) i in
              absurd (let z : false ≡ true = ap (λ (m : Option ℕ). has_id p.id (first_ids place (place p.op) D (count_or_none m))) (sym e) ∙ f.1 in cc)

-- the operations at other places
abbrev ops_off : {Op : Type 0} → (Op → ℕ) → ℕ → List Op → List Op
ops_off place p l = filter (λ b. not (place b == p)) l

-- Lists with the same operations at each place are equally long.
pub same_length : {Op : Type 0} (place : Op → ℕ) (n : ℕ) (x y : List Op) → length x ≤ n → ((q : ℕ) → ops_at place q x ≡ ops_at place q y) → length x ≡ length y
same_length place n [] [] few same = refl
same_length {Op} place n [] (b ∷ y) few same =
    absurd (let z : [] ≡ b ∷ ops_at place (place b) y = same (place b) ∙ ap (λ (c : Bool). cond c (b ∷ ops_at place (place b) y) (ops_at place (place b) y)) (eq-eqb (place b) (place b) refl) in cc)
same_length place zero (a ∷ x) y few same = absurd (omega (arith, few))
same_length {Op} place (suc n) (a ∷ x) y few same =
    let p = place a in
    let first : ops_at place p (a ∷ x) ≡ a ∷ ops_at place p x = ap (λ (c : Bool). cond c (a ∷ ops_at place p x) (ops_at place p x)) (eq-eqb p p refl) in
    let here = ap (λ (l : List Op). length l) first in
    let there = ap (λ (l : List Op). length l) (same p) in
    let parts = length_parts (λ (b : Op). place b == p) (a ∷ x) in
    let others = length_parts (λ (b : Op). place b == p) y in
    let rest = same_length place n (ops_off place p (a ∷ x)) (ops_off place p y) (omega (arith, here, parts, few)) (λ q. not_there p q) in
    omega (arith, there, parts, others, rest)
  where
    not_there : (p q : ℕ) → ops_at place q (ops_off place p (a ∷ x)) ≡ ops_at place q (ops_off place p y)
    not_there p q = elim (same_or_not p q) [
      | inl e ↦ none e (a ∷ x) ∙ sym (none e y)
      | inr e ↦ all e (a ∷ x) ∙ same q ∙ sym (all e y)
    ]
      where
        not_is : (b : Bool) → not b ≡ true → b ≡ false
        not_is true e = absurd (cc)
        not_is false e = refl

        none : p ≡ q → (l : List Op) → ops_at place q (ops_off place p l) ≡ []
        none e l = filter_none (λ (b : Op). place b == q) (ops_off place p l) (λ b i.
            let f = from_filter (λ (c : Op). not (place c == p)) b l i in
            ap (λ (r : ℕ). place b == r) (sym e) ∙ not_is (place b == p) f.1)

        all : p ≢ q → (l : List Op) → ops_at place q (ops_off place p l) ≡ ops_at place q l
        all n l = filter_within (λ (b : Op). place b == q) (λ (b : Op). not (place b == p)) l
            (λ b i h. ap not (ne_eqb (place b) p (λ e. n (sym e ∙ eqb-true (place b) q h))))

module _ {Shape State Op Undo : Type 0} (o : Object Shape State Op Undo) (place : Op → ℕ) (SameAt : ℕ → State → State → Type 0) (laws : IsLawful o) (places : IsPlaced o place SameAt) (v : Kept Shape State Op Undo) (h : Keeps o place v) where
  -- At most as many operations are kept of a place as were applied.
  pub place_few : (q : ℕ) → length (made_at q v.past.places.items) ≤ v.count + 256
  place_few q =
      let all = all_is o place v h q in
      let ops_are = length-map (serial_at place q v.committed) (λ (p : Item Op). p.op) in
      let at = ap (λ (l : List Op). length l) (h.past.at_places q) in
      let short = filter_short (λ (b : Op). place b == q) h.past.log in
      let size = h.past.size in
      let few = h.few in
      omega (arith, all, ops_are, at, short, size, few)

  -- As many operations were applied as the serial run has.
  pub serial_size : length (serial_ops v.committed) ≡ v.past.size
  serial_size =
      sym (same_length place (length h.past.log) h.past.log (serial_ops v.committed) (omega arith) (λ q. h.past.at_places q ∙ sym (ops_items place q (serial_items v.committed))))
      ∙ sym h.past.size

  -- The serial run has at most 256 operations more than records were taken.
  pub serial_few : length (serial_ops v.committed) ≤ v.count + 256
  serial_few =
      let size = serial_size in
      let few = h.few in
      omega (arith, size, few)

  module _ (t : Name) where
    -- A record of a transaction that is not open has one step.
    pub alone_count : open_in t v.slots.entries ≡ None → (f : OpenSummary Op → ℕ) → 1 ≡ open_count (open_named t (filled shown_tx v.slots.entries)) f
    alone_count e f = ap (λ (m : Option (OpenSummary Op)). open_count m f) (sym (open_is o place SameAt laws places v h t ∙ ap (option_map (shown_tx t)) e))

    module _ (x : OpenTx (List (Item Op))) (found : open_in t v.slots.entries ≡ Some x) where
      counted : (f : OpenSummary Op → ℕ) (n : ℕ) → n ≡ f (shown_tx t x) → n ≡ open_count (open_named t (filled shown_tx v.slots.entries)) f
      counted f n e = e ∙ ap (λ (m : Option (OpenSummary Op)). open_count m f) (sym (open_there o place SameAt laws places v h t x found))

      -- An open transaction has seen no more of a place than was committed there.
      pub saw_no_more : (q : ℕ) → SawNoMore v q x
      saw_no_more q =
          let p = h.is_held.0 in
          let s = h.is_held.1 in
          let opened : map (open_summary place p.front) p.config.opened ≡ filled shown_tx v.slots.entries = ap (λ (B : Summary Op). B.opened) s.is in
          let m = from_map (open_summary place p.front) (shown_tx t x) p.config.opened
          (subst (λ (l : List (OpenSummary Op)). In (shown_tx t x) l) (sym opened) (in_filled t x v.slots.entries (in_slot_of t v.slots.entries x (slot_there o place SameAt laws places v h t x found)))) in
          let seen : seen_in x.seen.entries q ≡ seen_at place q (m.0).local = ap (λ (X : OpenSummary Op). X.seen q) m.2 in
          let done : p.config.done ≡ v.committed = ap (λ (B : Summary Op). B.done) s.is in
          let few = few_seen (rules_of o v.shape) place q p.config.done (m.0).local (s.summable.snapshots m.0 m.1 q) in
          let same = ap (λ (D : List (CommittedTx Op)). length (serial_at place q D)) done in
          let all = all_is o place v h q in
          omega (arith, seen, few, same, all)

      -- how many an operation pulls, by the summary
      pulls_are : (ks : List Kind) (q : ℕ) → first_pulls place v q x ≡ cond (touched_since place q h0 (shown_tx t x)) 0 (missing_count place q (shown ks v) (shown_tx t x))
      pulls_are ks q =
          by (nat_eq (seen_in x.seen.entries q) zero) refl (list_any (λ p. place p.op == q) x.own)
          ∙ ap (λ (b : Bool). cond (not (seen_in x.seen.entries q == zero) || b) 0 (missing_count place q (shown ks v) (shown_tx t x))) (sym (any_local place t q x.own))
        where
          by : (b : Bool) → nat_eq (seen_in x.seen.entries q) zero ≡ b → (c : Bool) →
              cond (b && not c) (length (made_at q v.past.places.items)) 0 ≡ cond (not b || c) 0 (missing_count place q (shown ks v) (shown_tx t x))
          by true e true = refl
          by true e false =
              let none = eqb-true (seen_in x.seen.entries q) zero e in
              let all = all_is o place v h q in
              omega (arith, none, all)
          by false e c = refl

      -- An operation has one step for each commit that it pulls, and one more.
      pub op_counts : (id : ℕ) (op : Op) (n : ℕ) → n ≡ first_pulls place v (place op) x + 1 → CountsAs place v (records.Op t id op) n
      op_counts id op n e ks = counted (op_count place Optimistic (shown ks v) op) n (e ∙ ap (λ (m : ℕ). m + 1) (pulls_are ks (place op)))

      -- An operation pulls at most what was applied.
      pub pulls_few : (q : ℕ) → first_pulls place v q x ≤ v.count + 256
      pulls_few q = by (nat_eq (seen_in x.seen.entries q) zero && not (list_any (λ p. place p.op == q) x.own))
        where
          by : (b : Bool) → cond b (length (made_at q v.past.places.items)) 0 ≤ v.count + 256
          by true = place_few q
          by false = omega arith

      -- A refresh has one step for each commit that was not seen, and one more.
      pub refresh_counts : (q n : ℕ) → n ≡ (length (made_at q v.past.places.items) - seen_in x.seen.entries q) + 1 → CountsAs place v (records.Refresh t q) n
      refresh_counts q n e ks =
          counted (λ y. missing_count place q (shown ks v) y + 1) n (e ∙ ap (λ (m : ℕ). (m - seen_in x.seen.entries q) + 1) (all_is o place v h q))

      -- A commit has one step for each own operation, and one more.
      pub commit_counts : (n : ℕ) → n ≡ length x.own + 1 → CountsAs place v (records.Commit t) n
      commit_counts n e ks =
          counted (λ y. length (unpushed y.own) + 1) n
          (e ∙ ap (λ (m : ℕ). m + 1) (sym (ap (λ (l : List (LocalEntry Op)). length l) (unpushed_local t x.own) ∙ length-map x.own (as_local t))))

      module _ (own : HaveOwnPlaces x.seen.entries) where
        within : (q k : ℕ) → In (q, k) x.seen.entries → k ≤ length (serial_at place q v.committed)
        within q k i =
            let seen : seen_in x.seen.entries q ≡ k = ap count_or_none (count_looked_up x.seen.entries own q k i) in
            let few = saw_no_more q in
            let all = all_is o place v h q in
            omega (arith, seen, few, all)

        -- The counts of a transaction are together at most what was applied.
        pub seen_few : seen_total x.seen.entries ≤ v.past.size
        seen_few =
            let most = total_within place x.seen.entries h.past.log own (λ q k i.
            let few = within q k i in
            let ops_are = length-map (serial_at place q v.committed) (λ (p : Item Op). p.op) in
            let at = ap (λ (l : List Op). length l) (h.past.at_places q) in
            omega (arith, few, ops_are, at)) in
            let size = h.past.size in
            omega (arith, most, size)

        back_is : (ks : List Kind) → seen_total x.seen.entries + length x.own
            ≡ length (map (as_local t) x.own) + length (pushed_ids (map (as_local t) x.own)) + length (seen_items place v.committed (seen_in x.seen.entries))
        back_is ks =
            let len = length-map x.own (as_local t) in
            let none = ap (λ (l : List ℕ). length l) (pushed_none t x.own) in
            let seen = items_total place v.committed (distinct o place SameAt laws places v h) x.seen.entries own within in
            omega (arith, len, none, seen)

        -- An abort has one step for each commit that was seen and each own operation, and one more.
        pub abort_counts : (n : ℕ) → n ≡ seen_total x.seen.entries + length x.own + 1 → CountsAs place v (records.Abort t) n
        abort_counts n e ks =
            counted (λ y. (length y.own + length (pushed_ids y.own)) + length (seen_items place v.committed y.seen) + 1) n (e ∙ ap (λ (m : ℕ). m + 1) (back_is ks))

        -- A retry has one step for each commit that was seen and each own operation, and one more.
        pub retry_counts : (n : ℕ) → n ≡ seen_total x.seen.entries + length x.own + 1 → CountsAs place v (records.Retry t) n
        retry_counts n e ks =
            counted (λ y. (length y.own + length (pushed_ids y.own)) + length (seen_items place v.committed y.seen) + 1) n (e ∙ ap (λ (m : ℕ). m + 1) (back_is ks))

  -- The steps that are counted by the summary are those of the record.
  pub steps_are : (r : RunRecord Op) (n : ℕ) → IsOfStyle Optimistic r → CountsAs place v r n → HasStepCount o place (as_taken v) r n
  steps_are r n style e p is =
      e p.front.kinds
      ∙ ap (λ (B : Summary Op). record_steps place Optimistic B r) (sym (is.is ∙ summary_is p.front.kinds v))
      ∙ (counts (rules_of o v.shape) place (parts_of o place SameAt laws places v.shape) (tells_states o laws v.shape) Optimistic tt).record_count p.front p.config r style is.summable

  -- The operations of the serial run are in the range of records.
  pub serial_ranged : AllRanged o (serial_ops v.committed)
  serial_ranged = in_ranged o (serial_ops v.committed) (λ a i.
      let there = in_filter (λ (b : Op). place b == place a) a (serial_ops v.committed) i (eq-eqb (place a) (place a) refl) in
      (asked_there o place SameAt laws places v.shape v.past (done_ops o place v.committed) h.past (place a) a
      (subst (λ (l : List Op). In a l) (ops_items place (place a) (serial_items v.committed)) there)).1)
