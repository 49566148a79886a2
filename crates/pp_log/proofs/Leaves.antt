-- One entry after another leaves a log.
use Rattle.std.proofs.Common.{◌≡◌, ◌==◌, nat_eq, ℕ, position, None, inl, inr, ◌<◌, ◌+◌, List, [], ◌∷◌, ◌++◌, length, take, drop, get_or}
use Rattle.std.proofs.Common.{refl, sym, ◌∙◌, ap, subst, arith, Some}
use Rattle.std.specs.List.{remove, slice_get, slice_set}
use Rattle.std.proofs.lemmas.Bool.{eqb-true}
use Rattle.std.proofs.lemmas.List.Quantifiers.{position-Some}
use Rattle.std.proofs.lemmas.Option.{get_or_from_slice_get, slice_get-get_or, slice_get-map, slice_get_within}
use Rattle.std.proofs.lemmas.List.{drop_all, length-map}
use Rattle.std.specs.Option.{option_map}
use Rattle.pp_core.specs.declared.entry.Item.{Item}
use Rattle.pp_model.specs.Lists.{In}
use Rattle.pp_model.specs.Object.{HasDistinctIds, ops}
use Rattle.pp_model.proofs.Lists.{by_key}
use Rattle.pp_model.proofs.Finding.{stands_in}
use Rattle.pp_kind.specs.Object.{Object, IsLawful, IsPlaced, state_after}
use Rattle.pp_log.specs.declared.index.Index.{Index}
use Rattle.pp_log.specs.declared.place.Place.{Place}
use Rattle.pp_log.specs.declared.index.Index.TheVariants.{Few, Many}
use Rattle.pp_log.specs.Index.{IsIndexOf, index_len}
use Rattle.pp_log.specs.Keeps.{Keeps, KeepsAll}
use Rattle.pp_log.specs.Leaves.{MayPassOut}
use Rattle.pp_log.specs.Leaving.{MayLeave, without_items}
use Rattle.pp_log.specs.Parts.{elsewhere, there}
use Rattle.pp_log.specs.Room.{ids_of}
use Rattle.pp_log.specs.TakesOut.{CanPassOut, Passes, PassesOutOf, itself}
use Rattle.pp_log.proofs.Carried.{all_there}
use Rattle.pp_log.proofs.Distinct.{IsNew}
use Rattle.pp_log.proofs.Ids.{position_of_id}
use Rattle.pp_log.proofs.Leaving.{lets_behind, leaves_next, now_distinct, still_there, without_none}
use Rattle.pp_log.proofs.Lists.{at_first, behind_first, cut_there, drop_there, none_len}
use Rattle.pp_log.proofs.Maps.{new_len}
use Rattle.pp_log.proofs.Parted.{there_at}
use Rattle.pp_log.proofs.Sites.{IsFound, IsSite, found_in, id_there, place_at, place_there, site_of, taken_out}
use Rattle.pp_log.proofs.Whole.{whole_of}

-- An index has as many entries as ids.
pub index_size : (x : Index) (ids : List ℕ) → IsIndexOf x ids → index_len x ≡ length ids
index_size (Few few) ids h = ap length h
index_size (Many table) ids h = h.size

-- The position of an item of a log is within its index.
pub item_within : {Op : Type 0} (x : Index) (log : List (Item Op)) (i : ℕ) (e : Item Op) → IsIndexOf x (ids_of log) → slice_get log i ≡ Some e → i < index_len x
item_within x log i e h at =
    let size = index_size x (ids_of log) h in
    let all = length-map log (λ d. d.id) in
    let within = slice_get_within log i e at in
    omega arith

module _ {Shape State Op Undo : Type 0} (o : Object Shape State Op Undo) (place : Op → ℕ) (SameAt : ℕ → State → State → Type 0) (laws : IsLawful o) (places : IsPlaced o place SameAt)
    (s : State) (ps : List (Place Undo)) (log : List (Item Op)) (i : ℕ) (e : Item Op) (h : Keeps o place s log ps) (stands : MayPassOut o place log i e) where
  abbrev behind : List (Item Op)
  behind = drop (i + 1) log

  within : i < length log
  within = slice_get_within log i e stands.is

  read : e ≡ get_or log i e
  read = sym (get_or_from_slice_get log i e e stands.is)

  site : IsSite place log i e (place e.op)
  site = site_of place log i e (place e.op) within read refl

  -- The log has the place of the item that is to leave.
  pub has_place : place e.op < length ps
  has_place = place_there o place s log ps i e (place e.op) h site

  -- The id of the item that is to leave is at its position among the ids.
  pub id_at : slice_get (ids_of log) i ≡ Some e.id
  id_at = slice_get-map (λ (d : Item Op). d.id) log i ∙ ap (option_map (λ (d : Item Op). d.id)) stands.is

  module _ (q : Place Undo) (value : q ≡ get_or ps (place e.op) q) where
    at : slice_get ps (place e.op) ≡ Some q
    at = place_at o place s log ps i e (place e.op) q h site value

    -- The id of the item that is to leave is among the ids of its place.
    pub has_id_there : (In e.id q.ids.items → ⊥) → ⊥
    has_id_there none = id_there o place s log ps i e (place e.op) q h site at none

    module _ (k : ℕ) (found : slice_get q.ids.items k ≡ Some e.id) where
      is_found : IsFound place log ps i e (place e.op) k q
      is_found = found_in o place s log ps i e (place e.op) k q h within site value found

      rest : is_found.site.v ≡ there place (place e.op) behind
      rest =
          let both : e ∷ is_found.site.v ≡ e ∷ there place (place e.op) (drop (i + 1) log) =
          sym is_found.site.tail ∙ ap (there place (place e.op)) (drop_there log i e within read) ∙ there_at place (place e.op) e (drop (i + 1) log) refl in
          cc

      parts : there place (place e.op) log ≡ is_found.site.u ++ e ∷ is_found.site.v
      parts = is_found.site.here

      passes : Passes o (there place (place e.op) log) k e.op (there place (place e.op) behind)
      passes = record {
        item = e;
        is = ap (λ (l : List (Item Op)). slice_get l k) parts ∙ ap (slice_get (is_found.site.u ++ e ∷ is_found.site.v)) is_found.index ∙ at_first is_found.site.u is_found.site.v e;
        op = refl;
        others = ap (λ (l : List (Item Op)). drop (k + 1) l) parts ∙ ap (λ (n : ℕ). drop (n + 1) (is_found.site.u ++ e ∷ is_found.site.v)) is_found.index
            ∙ behind_first is_found.site.u is_found.site.v e ∙ rest;
        behind = stands.passes;
      }

      -- The item that is to leave can pass out of its place, at the position of its id there.
      pub can_pass_out : CanPassOut o place q s k e.op
      can_pass_out = record {
        start = state_after o (o.shape s) (ops (elsewhere place (place e.op) log));
        items = there place (place e.op) log;
        behind = there place (place e.op) behind;
        whole = whole_of o place SameAt laws places (place e.op) s log ps q h is_found.at;
        passes = passes;
        one_place = all_there place (place e.op) behind;
      }

      -- Once the item has passed out of its place, the log keeps the others, in its shape.
      pub keeps_left : (r : Place Undo) (t : State) → PassesOutOf o place k e.op q s r t
          → Keeps o place t (remove log i) (slice_set ps (place e.op) r) × (o.shape t ≡ o.shape s)
      keeps_left r t out =
          let b = state_after o (o.shape s) (ops (elsewhere place (place e.op) log)) in
          taken_out o place SameAt laws places s t log ps i e (place e.op) k q r h is_found.within is_found.site is_found.is is_found.at is_found.index
          (out b (there place (place e.op) log) (there place (place e.op) behind) passes (all_there place (place e.op) behind) (whole_of o place SameAt laws places (place e.op) s log ps q h is_found.at))

-- An item that is in a list is found there.
pub nowhere : {Op : Type 0} (x : List (Item Op)) (e : Item Op) → position (λ d. d.id == e.id) x ≡ None → In e x → ⊥
nowhere x e none inside = new_not_in x e (new_len x e.id (none_len (λ d. d.id == e.id) x none)) inside
  where
    new_not_in : {Op : Type 0} (y : List (Item Op)) (d : Item Op) → IsNew d.id y → In d y → ⊥
    new_not_in [] d n i = i
    new_not_in {Op} (c ∷ y) d n (inl here) = n.0 (ap (λ (w : Item Op). w.id) here)
    new_not_in (c ∷ y) d n (inr later) = new_not_in y d n.1 later

-- If ids are distinct, an item of the list is at the position at which its id is found.
pub found_item : {Op : Type 0} (x : List (Item Op)) → HasDistinctIds x → (e : Item Op) (i : ℕ) → position (λ d. d.id == e.id) x ≡ Some i → In e x → slice_get x i ≡ Some e
found_item {Op} x distinct e i found inside =
    let p = position-Some (λ (d : Item Op). d.id == e.id) x i e found in
    let there = slice_get-get_or x i e p.0 in
    let one : get_or x i e ≡ e = by_key (λ (d : Item Op). d.id) x distinct (get_or x i e) e (stands_in x i (get_or x i e) there) inside (eqb-true (get_or x i e).id e.id p.1) in
    there ∙ ap (λ (d : Item Op). Some d) one

-- Those after the k-th of the items, e, have left the list, and e is to leave.
module _ {Shape State Op Undo : Type 0} (o : Object Shape State Op Undo) (own log : List (Item Op)) (distinct : HasDistinctIds log) (may : MayLeave o own log)
    (k : ℕ) (e : Item Op) (lt : k < length own) (is : e ≡ get_or own k e) where
  -- The log without the items after the k-th.
  abbrev pub now_of : List (Item Op)
  now_of = without_items itself (drop (k + 1) own) log

  cut : own ≡ take k own ++ e ∷ drop (k + 1) own
  cut = cut_there own k e lt is

  -- The next item to leave is in what is left.
  pub still_in : In e now_of
  still_in = still_there o own log distinct may (take k own) (drop (k + 1) own) e cut

  -- The id of the next item to leave is found among the ids that are left.
  pub not_nowhere : position (nat_eq e.id) (ids_of now_of) ≡ None → ⊥
  not_nowhere none = nowhere now_of e (sym (position_of_id now_of e.id) ∙ none) still_in

  -- The items that are left have distinct ids.
  pub distinct_now : HasDistinctIds now_of
  distinct_now = now_distinct o own log distinct may (drop (k + 1) own)

  -- The next item to leave is at the position at which its id is found.
  pub item_at : (i : ℕ) → position (nat_eq e.id) (ids_of now_of) ≡ Some i → slice_get now_of i ≡ Some e
  item_at i found = found_item now_of distinct_now e i (sym (position_of_id now_of e.id) ∙ found) still_in

  module _ (i : ℕ) (at : slice_get now_of i ≡ Some e) where
    -- The next item to leave swaps with those of its place after it, in what is left.
    pub may_pass : (place : Op → ℕ) → MayPassOut o place now_of i e
    may_pass place = record {
      is = at;
      passes = lets_behind o own log distinct may (take k own) (drop (k + 1) own) e cut i at place;
    }

    -- To remove the next item from what is left leaves out one more of the own items.
    pub one_gone : without_items itself (drop k own) log ≡ remove now_of i
    one_gone = ap (λ (l : List (Item Op)). without_items itself l log) (drop_there own k e lt is) ∙ leaves_next o own log distinct may (take k own) (drop (k + 1) own) e cut i at

-- Those of its own from the k-th on have left.
pub record HaveLeft {Shape State Op Undo : Type 0} (o : Object Shape State Op Undo) (place : Op → ℕ) (own : List (Item Op)) (s : State) (ps : List (Place Undo)) (ids : Index)
    (k : ℕ) (t : State) (qs : List (Place Undo)) (js : Index) : Type 0 where
  pub keeps : (log : List (Item Op)) → KeepsAll o place s log ps ids → MayLeave o own log
      → KeepsAll o place t (without_items itself (drop k own) log) qs js × (o.shape t ≡ o.shape s)

module _ {Shape State Op Undo : Type 0} (o : Object Shape State Op Undo) (place : Op → ℕ) (own : List (Item Op)) (s : State) (ps : List (Place Undo)) (ids : Index) where
  -- At the start no own item has left, and all is kept as it was.
  pub left_first : (n : ℕ) → n ≡ length own → HaveLeft o place own s ps ids n s ps ids
  left_first n is = record {
    keeps = λ log h leaves.
        let none : without_items itself (drop n own) log ≡ log = ap (λ (l : List (Item Op)). without_items itself l log) (drop_all n own (omega arith)) ∙ without_none itself log in
        (subst (λ (l : List (Item Op)). KeepsAll o place s l ps ids) (sym none) h, refl);
  }

  -- Once all own items have left, the log keeps the others, in its shape.
  pub left_last : (k : ℕ) (t : State) (qs : List (Place Undo)) (js : Index) → k ≡ 0 → HaveLeft o place own s ps ids k t qs js
      → (log : List (Item Op)) → KeepsAll o place s log ps ids → MayLeave o own log → KeepsAll o place t (without_items itself own log) qs js × (o.shape t ≡ o.shape s)
  left_last k t qs js zero_is left log h leaves =
      let now = left.keeps log h leaves in
      let those : without_items itself (drop k own) log ≡ without_items itself own log = ap (λ (n : ℕ). without_items itself (drop n own) log) zero_is in
      (subst (λ (l : List (Item Op)). KeepsAll o place t l qs js) those now.0, now.1)

  -- the k-th one, e, is to leave
  module _ (k : ℕ) (e : Item Op) (lt : k < length own) (is : e ≡ get_or own k e) (n : ℕ) (n_is : n ≡ k + 1) (t : State) (qs : List (Place Undo)) (js : Index) (left : HaveLeft o place own s ps ids n t qs js) where
    module _ (log : List (Item Op)) (h : KeepsAll o place s log ps ids) (leaves : MayLeave o own log) where
      -- The log without the items after the k-th.
      abbrev pub now_log : List (Item Op)
      now_log = without_items itself (drop (k + 1) own) log

      -- Before the next item leaves, the log keeps what is left, in its shape.
      pub now : KeepsAll o place t now_log qs js × (o.shape t ≡ o.shape s)
      now = subst (λ (j : ℕ). KeepsAll o place t (without_items itself (drop j own) log) qs js × (o.shape t ≡ o.shape s)) n_is (left.keeps log h leaves)

      -- The id of the next item to leave is found in what is left of the log.
      pub found_somewhere : position (nat_eq e.id) (ids_of now_log) ≡ None → ⊥
      found_somewhere = not_nowhere o own log h.keeps.distinct leaves k e lt is

      -- Before the next item leaves, the index is of the ids that are left.
      pub index_now : IsIndexOf js (ids_of now_log)
      index_now = now.0.index

      module _ (i : ℕ) (found : position (nat_eq e.id) (ids_of now_log) ≡ Some i) where
        e_at : slice_get now_log i ≡ Some e
        e_at = item_at o own log h.keeps.distinct leaves k e lt is i found

        -- The next item to leave may pass out of what is left.
        pub stands_now : MayPassOut o place now_log i e
        stands_now = may_pass o own log h.keeps.distinct leaves k e lt is i e_at place

        next_is : without_items itself (drop k own) log ≡ remove now_log i
        next_is = one_gone o own log h.keeps.distinct leaves k e lt is i e_at

        -- If what is left is kept without the next item, one more of the own items has left.
        pub left_next : (u : State) (rs : List (Place Undo)) (ls : Index) → KeepsAll o place u (remove now_log i) rs ls → o.shape u ≡ o.shape t
            → KeepsAll o place u (without_items itself (drop k own) log) rs ls × (o.shape u ≡ o.shape s)
        left_next u rs ls keeps shape = (
          subst (λ (l : List (Item Op)). KeepsAll o place u l rs ls) (sym next_is) keeps,
          shape ∙ now.1,
        )
