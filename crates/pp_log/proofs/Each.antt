-- Items that leave a list from the last to the first, by their positions before.
use Rattle.std.proofs.Common.{◌≡◌, ◌<◌, ◌+◌, ℕ, zero, suc, nat_eq, position, Bool, true, false, cond, not, List, [], ◌∷◌, ◌++◌}
use Rattle.std.proofs.Common.{filter, length, map, take, drop, get_or, refl, sym, ◌∙◌, ap, subst, inl, inr, Some, None}
use Rattle.std.specs.List.{remove, slice_get}
use Rattle.std.proofs.lemmas.List.{take-append-drop, take-map}
use Rattle.std.proofs.lemmas.Option.{get_or_from_slice_get, slice_get_within}
use Rattle.pp_core.specs.declared.entry.Item.{Item}
use Rattle.pp_model.specs.Lists.{Before, In}
use Rattle.pp_model.specs.Serial.{has_id}
use Rattle.pp_model.proofs.Lists.{before_across, before_from_filter, before_map, before_right, by_key, in_left, in_map, in_right, not_both}
use Rattle.pp_log.specs.declared.index.Index.{Index}
use Rattle.pp_log.specs.Leaves.{CanLeaveOut}
use Rattle.pp_log.specs.Leaving.{without_items}
use Rattle.pp_log.specs.Room.{ids_of}
use Rattle.pp_log.proofs.Ids.{position_of_id}
use Rattle.pp_log.proofs.Leaves.{found_item, nowhere}
use Rattle.pp_log.proofs.Leaving.{has_none, one_less}
use Rattle.pp_log.proofs.Lists.{cut_there, drop_there, mapped_from}

-- An element that a filter keeps has its old position, if the filter keeps all elements before it.
filter_at : {A : Type 0} (t : A → Bool) (x : List A) (i : ℕ) (a : A) → slice_get x i ≡ Some a → ((b : A) → In b (take i x) → t b ≡ true) → t a ≡ true → slice_get (filter t x) i ≡ Some a
filter_at t [] i a at front here = cc
filter_at {A} t (b ∷ x) zero a at front here =
    let same : b ≡ a = cc in
    ap (λ (v : Bool). slice_get (cond v (b ∷ filter t x) (filter t x)) 0) (ap t same ∙ here) ∙ ap (λ (c : A). Some c) same
filter_at {A} t (b ∷ x) (suc i) a at front here =
    ap (λ (v : Bool). slice_get (cond v (b ∷ filter t x) (filter t x)) (suc i)) (front b (inl refl))
    ∙ filter_at t x i a at (λ c j. front c (inr j)) here

-- Those after the k-th of the items, e, have left the entries x, and e is to leave.
module _ {Op E : Type 0} (f : E → Item Op) (own : List (Item Op)) (x : List E) (ids : Index) (can : CanLeaveOut own (map f x) ids)
    (k : ℕ) (e : Item Op) (lt : k < length own) (is : e ≡ get_or own k e) (n : ℕ) (n_is : n ≡ k + 1) (now : List E) (left : now ≡ without_items f (drop n own) x) where
  -- The items of the entries.
  abbrev pub log : List (Item Op)
  log = map f x

  -- The items after the k-th.
  abbrev pub last : List (Item Op)
  last = drop (k + 1) own

  cut : own ≡ take k own ++ e ∷ last
  cut = cut_there own k e lt is

  e_own : In e own
  e_own = subst (In e) (sym cut) (in_right e (take k own) (e ∷ last) (inl refl))

  last_own : (p : Item Op) → In p last → In p own
  last_own p i = subst (In p) (sym cut) (in_right p (take k own) (e ∷ last) (inr i))

  e_then : (p : Item Op) → In p last → Before e p log
  e_then p i = can.order e p (subst (Before e p) (sym cut) (before_right e p (take k own) (e ∷ last) (inl (refl, i))))

  now_is : now ≡ without_items f last x
  now_is = left ∙ ap (λ (m : ℕ). without_items f (drop m own) x) n_is

  -- The id of the next item to leave is found in the log.
  pub found_before : position (nat_eq e.id) (ids_of log) ≡ None → ⊥
  found_before none = nowhere log e (sym (position_of_id log e.id) ∙ none) (can.stand e e_own)

  module _ (i : ℕ) (found : position (nat_eq e.id) (ids_of log) ≡ Some i) where
    e_at : slice_get log i ≡ Some e
    e_at = found_item log can.distinct e i (sym (position_of_id log e.id) ∙ found) (can.stand e e_own)

    e_behind : In e (drop i log)
    e_behind = subst (In e) (sym (drop_there log i e (slice_get_within log i e e_at) (sym (get_or_from_slice_get log i e e e_at)))) (inl refl)

    parts : take i log ++ drop i log ≡ log
    parts = take-append-drop i log

    those_before_stay : (b : E) → In b (take i x) → has_id (f b).id (ids_of last) ≡ false
    those_before_stay b j =
        let there : In (f b) (take i log) = subst (In (f b)) (sym (take-map f i x)) (in_map f b (take i x) j) in
        let before : Before (f b) e log = subst (Before (f b) e) parts (before_across (f b) e (take i log) (drop i log) there e_behind) in
        let inside : In (f b) log = subst (In (f b)) parts (in_left (f b) (take i log) (drop i log) there) in
        has_none (f b).id last (λ p m same.
        let one : p ≡ f b = by_key (λ (r : Item Op). r.id) log can.distinct p (f b) (can.stand p (last_own p m)) inside same in
        not_both (λ (r : Item Op). r.id) log can.distinct e (f b) (subst (λ (r : Item Op). Before e r log) one (e_then p m)) before)

    entry : (a : E) × (slice_get x i ≡ Some a) × (f a ≡ e)
    entry = mapped_from f x i e e_at

    it_stays : has_id (f entry.0).id (ids_of last) ≡ false
    it_stays = has_none (f entry.0).id last (λ p m same. can.distinct e p (e_then p m) (sym (ap (λ (r : Item Op). r.id) entry.2) ∙ sym same))

    still_at : slice_get (without_items f last x) i ≡ Some entry.0
    still_at = filter_at (λ (r : E). not (has_id (f r).id (ids_of last))) x i entry.0 entry.1 (λ b j. ap not (those_before_stay b j)) (ap not it_stays)

    apart_now : (p q : E) → Before p q (without_items f last x) → (f p).id ≡ (f q).id → ⊥
    apart_now p q b = can.distinct (f p) (f q) (before_map f p q x (before_from_filter (λ (r : E). not (has_id (f r).id (ids_of last))) p q x b))

    -- The next entry to leave is at a position of what is left.
    pub still_within : i < length now
    still_within = subst (λ (l : List E). i < length l) (sym now_is) (slice_get_within (without_items f last x) i entry.0 still_at)

    -- To remove the next entry leaves out one more of the items.
    pub left_next : remove now i ≡ without_items f (drop k own) x
    left_next =
        ap (λ (l : List E). remove l i) now_is ∙ sym (one_less f x e last i entry.0 still_at entry.2 apart_now)
        ∙ sym (ap (λ (l : List (Item Op)). without_items f l x) (drop_there own k e lt is))
