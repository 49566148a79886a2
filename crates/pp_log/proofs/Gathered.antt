-- A batch of items of one place leaves a log.
use Rattle.std.proofs.Common.{◌≡◌, ℕ, nat_eq, ◌<◌, ◌+◌, ◌-◌, Bool, true, false, cond, not, ◌&&◌, IsTrue, List, [], ◌∷◌, ◌++◌}
use Rattle.std.proofs.Common.{filter, length, take, get_or, refl, sym, ◌∙◌, ap, subst, arith, inl, inr, Some, length-append}
use Rattle.std.specs.List.{slice_get, slice_set}
use Rattle.std.proofs.Math.Seq.{take-length}
use Rattle.std.proofs.Math.Bool.{and_comm}
use Rattle.std.proofs.lemmas.Bool.{eq-eqb, eqb-true, not-true}
use Rattle.std.proofs.lemmas.List.{take_at}
use Rattle.std.proofs.lemmas.List.Sums.{count_by-le-length, length-filter}
use Rattle.std.proofs.lemmas.Option.{get_or_from_slice_get}
use Rattle.pp_core.specs.declared.entry.Item.{Item}
use Rattle.pp_model.specs.Lists.{Before, In}
use Rattle.pp_model.specs.Object.{HasDistinctIds, ops}
use Rattle.pp_model.specs.Serial.{has_id}
use Rattle.pp_model.proofs.Lists.{before_filter, before_from_filter, before_in_first, before_in_second, by_key, from_filter, in_cases, in_filter}
use Rattle.pp_model.proofs.Finding.{stands_in}
use Rattle.pp_model.proofs.Lengths.{length-ops}
use Rattle.pp_kind.proofs.Lists.{allowed-first}
use Rattle.pp_kind.specs.Object.{AllRanged, AllowedFrom, IsAllowed, IsLawful, IsPlaced, Object, state_after, state_from}
use Rattle.pp_log.specs.Batches.{AreOnOnePlace, CanGather, Gathers, HasBatch, IsAlong}
use Rattle.pp_log.specs.declared.place.Place.{Place}
use Rattle.pp_log.specs.Keeps.{KeptIn, Keeps}
use Rattle.pp_log.specs.Leaving.{MayLeave, without_items}
use Rattle.pp_log.specs.Parts.{elsewhere, there}
use Rattle.pp_log.specs.Room.{ids_of}
use Rattle.pp_log.specs.Runs.{GoesOn, HasRun, IsRun, kept_along}
use Rattle.pp_log.specs.TakesOut.{IsWhole, itself}
use Rattle.pp_log.proofs.Distinct.{apart, distinct_there, told}
use Rattle.pp_log.proofs.Forgotten.{item_with}
use Rattle.pp_log.proofs.Leaving.{filter_twice, has_none, now_distinct}
use Rattle.pp_log.proofs.Lists.{in_at, set_other, set_same}
use Rattle.pp_log.proofs.Parted.{ops-append}
use Rattle.pp_log.proofs.Runs.{length-kept}
use Rattle.pp_log.proofs.Sites.{IsSite, id_there, kept_of, place_at, place_there, site_of}
use Rattle.pp_log.proofs.Whole.{allowed_fit, base_allowed, log_of, whole_of}

-- The items of a place, and those of all others, as those that pass a test.
module _ {Op : Type 0} (place : Op → ℕ) (p : ℕ) where
  -- An item of the place p.
  abbrev pub at_place : Item Op → Bool
  at_place e = nat_eq (place e.op) p

  -- The items of a place are those that pass the test for the place.
  pub there_is : (x : List (Item Op)) → there place p x ≡ filter at_place x
  there_is [] = refl
  there_is (e ∷ x) = ap (λ (l : List (Item Op)). cond (at_place e) (e ∷ l) l) (there_is x)

  -- The items of all other places are those that fail the test for the place.
  pub elsewhere_is : (x : List (Item Op)) → elsewhere place p x ≡ filter (λ e. not (at_place e)) x
  elsewhere_is [] = refl
  elsewhere_is (e ∷ x) = ap (λ (l : List (Item Op)). cond (at_place e) l (e ∷ l)) (elsewhere_is x) ∙ by (at_place e)
    where
      by : (b : Bool) → cond b (filter (λ d. not (at_place d)) x) (e ∷ filter (λ d. not (at_place d)) x) ≡ cond (not b) (e ∷ filter (λ d. not (at_place d)) x) (filter (λ d. not (at_place d)) x)
      by true = refl
      by false = refl

-- ranges, item by item
module _ {Shape State Op Undo : Type 0} (o : Object Shape State Op Undo) where
  ranged_at : (x : List (Item Op)) → AllRanged o (ops x) → (e : Item Op) → In e x → IsTrue (o.ranged e.op)
  ranged_at [] h e i = absurd i
  ranged_at (d ∷ x) h e (inl here) = subst (λ (c : Item Op). IsTrue (o.ranged c.op)) (sym here) h.0
  ranged_at (d ∷ x) h e (inr later) = ranged_at x h.1 e later

  ranged_of : (x : List (Item Op)) → ((e : Item Op) → In e x → IsTrue (o.ranged e.op)) → AllRanged o (ops x)
  ranged_of [] h = tt
  ranged_of (d ∷ x) h = (h d (inl refl), ranged_of x (λ e i. h e (inr i)))

-- The batch may leave the log, and its items have the place of the first of them.
module _ {Shape State Op Undo : Type 0} (o : Object Shape State Op Undo) (place : Op → ℕ) (SameAt : ℕ → State → State → Type 0) (laws : IsLawful o) (places : IsPlaced o place SameAt)
    (s : State) (ps : List (Place Undo)) (log : List (Item Op)) (h : Keeps o place s log ps)
    (batch : List (Item Op)) (may : MayLeave o batch log) (one_place : AreOnOnePlace place batch) (first : Item Op) (first_own : slice_get batch 0 ≡ Some first) where
  abbrev p : ℕ
  p = place first.op

  -- The items of the place p.
  abbrev pub items : List (Item Op)
  items = there place p log

  -- The items of the place that are not of the batch.
  abbrev pub others : List (Item Op)
  others = without_items itself batch items

  -- The log without the batch.
  abbrev pub rest_log : List (Item Op)
  rest_log = without_items itself batch log

  abbrev b : State
  b = state_after o (o.shape s) (ops (elsewhere place p log))

  inside : In first batch
  inside = stands_in batch 0 first first_own

  batch_at : (e : Item Op) → In e batch → at_place place p e ≡ true
  batch_at e i = eq-eqb (place e.op) p (one_place e first i inside)

  items_is : items ≡ filter (at_place place p) log
  items_is = there_is place p log

  in_items : (e : Item Op) → In e batch → In e items
  in_items e i = subst (In e) (sym items_is) (in_filter (at_place place p) e log (may.stand e i) (batch_at e i))

  before_log : (e d : Item Op) → Before e d items → Before e d log
  before_log e d w = before_from_filter (at_place place p) e d log (subst (Before e d) items_is w)

  -- The items of the place of a batch have distinct ids.
  pub distinct_items : HasDistinctIds items
  distinct_items = told items (distinct_there place p log (apart log h.distinct))

  -- A batch that may leave the log may leave the items of its place.
  pub may_items : MayLeave o batch items
  may_items = record {
    stand = in_items;
    order = λ e d w. subst (Before e d) (sym items_is)
        (before_filter (at_place place p) e d log (may.order e d w) (batch_at e (before_in_first e d batch w)) (batch_at d (before_in_second e d batch w)));
    pass = λ e d i w n. may.pass e d i (before_log e d w) n;
  }

  spot : (j : ℕ) × (j < length log) × (slice_get log j ≡ Some first)
  spot = in_at log first (may.stand first inside)

  site : IsSite place log spot.0 first p
  site = site_of place log spot.0 first p spot.1 (sym (get_or_from_slice_get log spot.0 first first spot.2)) refl

  -- The log has the place of the batch.
  pub has_place : p < length ps
  has_place = place_there o place s log ps spot.0 first p h site

  module _ (q : Place Undo) (value : q ≡ get_or ps p q) where
    at : slice_get ps p ≡ Some q
    at = place_at o place s log ps spot.0 first p q h site value

    -- The id of the first item of the batch is among the ids of its place.
    pub has_id_there : (In first.id q.ids.items → ⊥) → ⊥
    has_id_there none = id_there o place s log ps spot.0 first p q h site at none

    -- The ids that the place keeps are those of its items.
    pub ids_there : q.ids.items ≡ ids_of items
    ids_there = kept_of o place s log ps p q h at

    whole : IsWhole o b items q s
    whole = whole_of o place SameAt laws places p s log ps q h at

    many : length q.undos.items ≡ length items
    many = whole.all

    all_taken : take (length q.undos.items) (ops items) ≡ ops items
    all_taken = ap (λ (n : ℕ). take n (ops items)) (many ∙ sym (length-ops items)) ∙ take-length (ops items)

    along : IsAlong o b whole.run.base (ops items) q.undos.items s
    along = record {
      log = whole.run.log;
      allowed = subst (AllowedFrom o b) all_taken whole.run.allowed;
      kept = whole.run.kept ∙ ap (kept_along o b) all_taken;
      is = whole.run.is ∙ ap (state_from o b) all_taken;
    }

    module _ (from : ℕ) (found : slice_get q.ids.items from ≡ Some first.id) where
      -- The items of the place have the batch, from the position of its first item on.
      pub has_batch : HasBatch o place batch from q.ids.items items
      has_batch = record {
        stand = record {
          stand = may_items.stand;
          order = may_items.order;
          distinct = distinct_items;
          first = first;
          first_own = first_own;
          first_there = item_with items distinct_items first (in_items first inside) from (ap (λ (l : List ℕ). slice_get l from) (sym ids_there) ∙ found);
        };
        may = may_items;
        same_ids = ids_there;
        one_place = λ e d i j. one_place e first i inside ∙ sym (eqb-true (place d.op) p (from_filter (at_place place p) d log (subst (In d) items_is j)).1);
      }

      -- The batch can be gathered at the end of its place.
      pub can_gather : CanGather o place batch from q.ids.items q.undos.items
      can_gather = (items, has_batch, many)

      -- The items of the batch have come after all others of their place.
      module _ (vs : List Undo) (gathers : Gathers o place batch from q.ids.items q.undos.items vs) where
        behind : IsAlong o b whole.run.base (ops (others ++ batch)) vs s
        behind = gathers b s whole.run.base items has_batch along

        -- The gathered undo values are as many as the other items and the batch together.
        pub sizes : length vs ≡ length others + length batch
        sizes = ap length behind.kept ∙ length-kept o b (ops (others ++ batch)) ∙ length-ops (others ++ batch) ∙ length-append others batch

        vs_taken : take (length vs) (ops (others ++ batch)) ≡ ops (others ++ batch)
        vs_taken = ap (λ (k : ℕ). take k (ops (others ++ batch))) (sizes ∙ sym (length-append others batch) ∙ sym (length-ops (others ++ batch))) ∙ take-length (ops (others ++ batch))

        ranged_items : AllRanged o (ops items)
        ranged_items = whole.run.ranged

        run : length vs ≡ length q.undos.items → IsRun o b (others ++ batch) vs s
        run same = record {
          base = whole.run.base;
          log = whole.run.log;
          few = let few = whole.run.few in let k = sizes in let m = many in let two = length-append others batch in omega arith;
          fit = allowed_fit o laws b (ops (others ++ batch)) behind.allowed;
          ranged = ranged_of o (others ++ batch) (λ e i. elim (in_cases e others batch i) [
            | inl w ↦ ranged_at o items ranged_items e (from_filter (λ (d : Item Op). not (has_id d.id (ids_of batch))) e items w).0
            | inr w ↦ ranged_at o items ranged_items e (in_items e w)
          ]);
          within = let k = sizes in let two = length-append others batch in omega arith;
          allowed = subst (AllowedFrom o b) (sym vs_taken) behind.allowed;
          is = behind.is ∙ ap (state_from o b) (sym vs_taken);
          kept = behind.kept ∙ ap (kept_along o b) (sym vs_taken);
        }

        many_others : (n : ℕ) → n ≡ length vs - length batch → length others ≡ n
        many_others n is = let k = sizes in omega arith

        -- The batch, gathered at the end of its place, makes a run that leads to the log's state.
        pub has_run : length vs ≡ length q.undos.items → (n : ℕ) → n ≡ length vs - length batch → HasRun o n batch vs s
        has_run same n is = record { start = b; before = others; size = many_others n is; run = run same }

        -- and are taken back there
        module _ (same : length vs ≡ length q.undos.items) (n : ℕ) (n_is : n ≡ length vs - length batch) (ws : List Undo) (t : State) (goes : GoesOn o n batch vs s ws t) (len : length ws ≡ n) (r : Place Undo) (undos : r.undos.items ≡ ws) (ids : r.ids.items ≡ ids_of others) where
          left : IsRun o b (others ++ batch) ws t
          left = goes b others (many_others n n_is) (run same)

          ws_taken : take (length ws) (ops (others ++ batch)) ≡ take (length ws) (ops others)
          ws_taken =
              let k = many_others n n_is in
              let m = length-ops others in
              let size : length ws ≡ length (ops others) = omega arith in
              ap (take (length ws)) (ops-append others batch) ∙ take_at (ops others) (ops batch) (length ws) (sym size)
              ∙ sym (ap (λ (j : ℕ). take j (ops others)) size ∙ take-length (ops others))

          whole_left : IsWhole o b others r t
          whole_left = record {
            run = subst (λ (l : List Undo). IsRun o b others l t) (sym undos) (record {
              base = left.base;
              log = left.log;
              few = let few = left.few in let two = length-append others batch in omega arith;
              fit = allowed_fit o laws b (ops others) (allowed-first o b (ops others) (ops batch) (subst (AllowedFrom o b) (ops-append others batch) behind.allowed));
              ranged = ranged_of o others (λ e w. ranged_at o items ranged_items e (from_filter (λ (d : Item Op). not (has_id d.id (ids_of batch))) e items w).0);
              within = let k = many_others n n_is in omega arith;
              allowed = subst (AllowedFrom o b) ws_taken left.allowed;
              is = left.is ∙ ap (state_from o b) ws_taken;
              kept = left.kept ∙ ap (kept_along o b) ws_taken;
            });
            all = ap length undos ∙ len ∙ sym (many_others n n_is);
            ids = ids;
          }

          abbrev stays : Item Op → Bool
          stays e = not (has_id e.id (ids_of batch))

          -- the other places are as they were
          off_stays : (e : Item Op) → In e log → at_place place p e ≡ false → stays e ≡ true
          off_stays e i off = ap not (has_none e.id batch (λ d j k.
              let one : d ≡ e = by_key (λ (c : Item Op). c.id) log h.distinct d e (may.stand d j) i k in
              let w : true ≡ false = sym (batch_at d j) ∙ ap (at_place place p) one ∙ off in
              cc))

          there_left : there place p rest_log ≡ others
          there_left = there_is place p rest_log
              ∙ filter_twice (at_place place p) stays (λ (e : Item Op). stays e && at_place place p e) log (λ e i. refl)
              ∙ sym (filter_twice stays (at_place place p) (λ (e : Item Op). stays e && at_place place p e) log (λ e i. and_comm (at_place place p e) (stays e)))
              ∙ ap (filter stays) (sym items_is)

          others_left : (t : Item Op → Bool) → ((e : Item Op) → In e log → t e ≡ true → at_place place p e ≡ false) → filter t rest_log ≡ filter t log
          others_left t off = filter_twice t stays t log (λ e i. by e i (t e) refl)
            where
              by : (e : Item Op) → In e log → (v : Bool) → t e ≡ v → (stays e && v) ≡ v
              by e i true k = ap (λ (w : Bool). w && true) (off_stays e i (off e i k))
              by e i false k = and_comm (stays e) false

          elsewhere_left : elsewhere place p rest_log ≡ elsewhere place p log
          elsewhere_left = elsewhere_is place p rest_log ∙ others_left (λ e. not (at_place place p e)) (λ e i k. not-true (at_place place p e) k) ∙ sym (elsewhere_is place p log)

          there_others : (r' : ℕ) → (p ≡ r' → ⊥) → there place r' rest_log ≡ there place r' log
          there_others r' n' = there_is place r' rest_log
              ∙ others_left (at_place place r') (λ e i k. apart_from e (at_place place p e) refl (eqb-true (place e.op) r' k)) ∙ sym (there_is place r' log)
            where
              apart_from : (e : Item Op) (v : Bool) → at_place place p e ≡ v → place e.op ≡ r' → v ≡ false
              apart_from e true k at_r = absurd (n' (sym (eqb-true (place e.op) p k) ∙ at_r))
              apart_from e false k at_r = refl

          -- After the batch was taken back, the log keeps the other items, in its shape.
          pub keeps_rest : Keeps o place t rest_log (slice_set ps p r) × (o.shape t ≡ o.shape s)
          keeps_rest =
              let sh = o.shape s in
              let base : ops (elsewhere place p log) ≡ ops (elsewhere place p rest_log) = ap (λ (l : List (Item Op)). ops l) (sym elsewhere_left) in
              let shorter = count_by-le-length stays log in
              let counted = length-filter stays log in
              let few = h.few in
              log_of o place SameAt laws places p sh t rest_log (slice_set ps p r) r
              (subst (IsAllowed o sh) base (base_allowed o place SameAt laws places p (o.start sh) log h.allowed))
              (subst (λ (l : List (Item Op)). IsWhole o (state_after o sh (ops (elsewhere place p rest_log))) l r t) (sym there_left)
              (subst (λ (l : List Op). IsWhole o (state_after o sh l) others r t) base whole_left))
              (ranged_of o rest_log (λ e w. ranged_at o log h.ranged e (from_filter stays e log w).0)) (omega arith)
              (now_distinct o batch log h.distinct may batch) (set_same ps p r has_place)
              (λ j m. subst (λ (l : List (Item Op)). KeptIn o (o.start sh) l (slice_get (slice_set ps p r) j)) (sym (there_others j m))
              (subst (KeptIn o (o.start sh) (there place j log)) (sym (set_other ps p j r m)) (h.kept j)))
