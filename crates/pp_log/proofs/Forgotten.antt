-- The ids of a batch, taken out of the index and of their place.
use Rattle.std.proofs.Common.{◌≡◌, ℕ, nat_eq, position, ◌<◌, ◌≤◌, ◌+◌, List, [], length, drop, get_or, sym, ◌∙◌, ap, subst, arith, None, Some}
use Rattle.std.specs.List.{remove, slice_get}
use Rattle.std.proofs.lemmas.List.{drop_all}
use Rattle.std.proofs.lemmas.Option.{slice_get-map}
use Rattle.std.specs.Option.{option_map}
use Rattle.pp_core.specs.declared.entry.Item.{Item}
use Rattle.pp_model.specs.Lists.{In}
use Rattle.pp_model.specs.Object.{HasDistinctIds}
use Rattle.pp_model.proofs.Lists.{by_key, in_map}
use Rattle.pp_model.proofs.Finding.{stands_in}
use Rattle.pp_kind.specs.Object.{Object}
use Rattle.pp_log.specs.declared.index.Index.{Index}
use Rattle.pp_log.specs.Batches.{CanForget, Forgets}
use Rattle.pp_log.specs.Index.{IsIndexOf, index_len}
use Rattle.pp_log.specs.Leaving.{without_items}
use Rattle.pp_log.specs.Room.{ids_of}
use Rattle.pp_log.specs.TakesOut.{itself}
use Rattle.pp_log.proofs.Grown.{ids-remove}
use Rattle.pp_log.proofs.Leaves.{distinct_now, item_at, item_within, not_nowhere, now_of, one_gone, still_in}
use Rattle.pp_log.proofs.Leaving.{without_none}
use Rattle.pp_log.proofs.Lists.{mapped_from}
use Rattle.pp_log.proofs.Rest.{drop_none}

-- An item is found by its id if all are distinct.
pub item_with : {Op : Type 0} (x : List (Item Op)) → HasDistinctIds x → (e : Item Op) → In e x → (at : ℕ) → slice_get (ids_of x) at ≡ Some e.id → slice_get x at ≡ Some e
item_with {Op} x distinct e inside at found =
    let f = mapped_from (λ (d : Item Op). d.id) x at e.id found in
    let one = by_key (λ (d : Item Op). d.id) x distinct f.0 e (stands_in x at f.0 f.1) inside f.2 in
    f.1 ∙ ap (λ (d : Item Op). Some d) one

-- Those of the batch from this one on are forgotten.
pub record AreForgotten {Shape State Op Undo : Type 0} (o : Object Shape State Op Undo) (batch : List (Item Op)) (ids : Index) (here : List ℕ)
    (left : ℕ) (js : Index) (now : List ℕ) : Type 0 where
  pub within : left ≤ length batch
  pub both : (log items : List (Item Op)) → CanForget o batch ids here log items
      → IsIndexOf js (ids_of (without_items itself (drop left batch) log)) × (now ≡ ids_of (without_items itself (drop left batch) items))

module _ {Shape State Op Undo : Type 0} (o : Object Shape State Op Undo) (batch : List (Item Op)) (ids : Index) (here : List ℕ) where
  -- At the start no id of the batch is forgotten, and index and ids are as they were.
  pub forgotten_first : (n : ℕ) → n ≡ length batch → AreForgotten o batch ids here n ids here
  forgotten_first n is = record {
    within = omega arith;
    both = λ log items can.
        let none : drop n batch ≡ [] = drop_all n batch (omega arith) in
        let still : (x : List (Item Op)) → x ≡ without_items itself (drop n batch) x = λ x. sym (ap (λ (l : List (Item Op)). without_items itself l x) none ∙ without_none itself x) in (
          subst (λ (l : List (Item Op)). IsIndexOf ids (ids_of l)) (still log) can.index_of,
          can.same_ids ∙ ap (λ (l : List (Item Op)). ids_of l) (still items),
        );
  }

  -- If no item of the batch is left, all ids of the batch are forgotten.
  pub forgotten_last : (n : ℕ) (js : Index) (now : List ℕ) → n ≡ 0 → AreForgotten o batch ids here n js now → Forgets o batch ids here js now
  forgotten_last n js now zero part log items can =
      let those : drop n batch ≡ batch = ap (λ (k : ℕ). drop k batch) zero ∙ drop_none batch in
      let both = part.both log items can in (
        subst (λ (l : List (Item Op)). IsIndexOf js (ids_of (without_items itself l log))) those both.0,
        both.1 ∙ ap (λ (l : List (Item Op)). ids_of (without_items itself l items)) those,
      )

  -- the k-th one, e, is next
  module _ (k : ℕ) (e : Item Op) (lt : k < length batch) (is : e ≡ get_or batch k e) (n : ℕ) (n_is : n ≡ k + 1) (js : Index) (now : List ℕ) (part : AreForgotten o batch ids here n js now)
      (log items : List (Item Op)) (can : CanForget o batch ids here log items) where
    -- The log without the batch.
    abbrev pub log_now : List (Item Op)
    log_now = now_of o batch log can.distinct can.may k e lt is

    -- The items of the place without the batch.
    abbrev pub items_now : List (Item Op)
    items_now = now_of o batch items can.distinct_here can.may_here k e lt is

    before : IsIndexOf js (ids_of log_now) × (now ≡ ids_of items_now)
    before = subst (λ (j : ℕ). IsIndexOf js (ids_of (without_items itself (drop j batch) log)) × (now ≡ ids_of (without_items itself (drop j batch) items))) n_is (part.both log items can)

    -- Before the next id is forgotten, the index is of the ids that are left.
    pub index_before : IsIndexOf js (ids_of log_now)
    index_before = before.0

    -- The next id to forget is found among the ids that are left of the log.
    pub id_stands : position (nat_eq e.id) (ids_of log_now) ≡ None → ⊥
    id_stands = not_nowhere o batch log can.distinct can.may k e lt is

    -- The next id to forget is among the ids that are left at the place.
    pub id_here : In e.id now
    id_here = subst (In e.id) (sym before.1) (in_map (λ (d : Item Op). d.id) e items_now (still_in o batch items can.distinct_here can.may_here k e lt is))

    module _ (i : ℕ) (found : position (nat_eq e.id) (ids_of log_now) ≡ Some i) where
      stands : slice_get log_now i ≡ Some e
      stands = item_at o batch log can.distinct can.may k e lt is i found

      -- The position at which the next id is found is within the index.
      pub index_within : i < index_len js
      index_within = item_within js log_now i e before.0 stands

      -- To remove the next id from the index and the place forgets one more of the batch.
      pub forgotten_both : (at : ℕ) (ls : Index) (left : List ℕ) → slice_get now at ≡ Some e.id → left ≡ remove now at
          → (slice_get (ids_of log_now) i ≡ Some e.id → IsIndexOf ls (remove (ids_of log_now) i))
          → IsIndexOf ls (ids_of (without_items itself (drop k batch) log)) × (left ≡ ids_of (without_items itself (drop k batch) items))
      forgotten_both at ls left there less removes =
          let id_at = slice_get-map (λ (d : Item Op). d.id) log_now i ∙ ap (option_map (λ (d : Item Op). d.id)) stands in
          let item = item_with items_now (distinct_now o batch items can.distinct_here can.may_here k e lt is) e (still_in o batch items can.distinct_here can.may_here k e lt is) at
          (ap (λ (l : List ℕ). slice_get l at) (sym before.1) ∙ there) in
          let log_next = one_gone o batch log can.distinct can.may k e lt is i stands in
          let items_next = one_gone o batch items can.distinct_here can.may_here k e lt is at item in (
            subst (λ (l : List ℕ). IsIndexOf ls l) (ids-remove log_now i ∙ ap (λ (l : List (Item Op)). ids_of l) (sym log_next)) (removes id_at),
            less ∙ ap (λ (l : List ℕ). remove l at) before.1 ∙ ids-remove items_now at ∙ ap (λ (l : List (Item Op)). ids_of l) (sym items_next),
          )
