-- Operations of a batch, carried together behind the others of their place.
use Rattle.std.proofs.Common.{◌≡◌, ℕ, ◌<◌, ◌≤◌, ◌+◌, List, [], ◌∷◌, ◌++◌, length, take, drop}
use Rattle.std.proofs.Common.{get_or, cond, not, Bool, false, refl, sym, ◌∙◌, ap, subst, arith, inl}
use Rattle.std.proofs.Common.{append_assoc, append-nil, length-append}
use Rattle.std.proofs.Math.Seq.{take-length}
use Rattle.std.proofs.Math.ListN.{get_or-map}
use Rattle.std.proofs.lemmas.List.{length-map, get_or_default, drop_all, length-drop, length-take-le, take-append-drop, take_all, take_more}
use Rattle.std.proofs.lemmas.Option.{slice_get_within}
use Rattle.pp_core.specs.declared.entry.Item.{Item}
use Rattle.pp_model.specs.Lists.{In}
use Rattle.pp_model.specs.Object.{ops}
use Rattle.pp_model.specs.Serial.{has_id}
use Rattle.pp_model.proofs.Lists.{in_left, in_right}
use Rattle.pp_kind.specs.Object.{IsLawful, Object, Swaps}
use Rattle.pp_log.specs.Batches.{CarriesAllOver, HasBatch, IsAlong}
use Rattle.pp_log.specs.Carries.{CarriesOver}
use Rattle.pp_log.specs.Leaves.{HasIdAt}
use Rattle.pp_log.specs.Leaving.{without_items}
use Rattle.pp_log.specs.Room.{ids_of}
use Rattle.pp_log.specs.TakesOut.{itself}
use Rattle.std.proofs.lemmas.List.Elements.{filter-append}
use Rattle.pp_model.proofs.Lengths.{length-ops}
use Rattle.pp_log.proofs.Leaving.{filter_all}
use Rattle.pp_log.proofs.Lists.{drop_there}
use Rattle.pp_log.proofs.Others.{IsAt, across, d_there, front, has_it, has_not_it, none_before, own_front, rest, same}
use Rattle.pp_log.proofs.Parted.{ops-append}
use Rattle.pp_log.proofs.Passed.{one_end}
use Rattle.pp_log.proofs.Rest.{drop_none}
use Rattle.pp_log.proofs.Runs.{length-kept}

-- one operation comes behind the next one
pub along_over : {Shape State Op Undo : Type 0} (o : Object Shape State Op Undo) (laws : IsLawful o) (place : Op → ℕ) (a c : Op) (at : ℕ) (us vs : List Undo) → CarriesOver o place a at us vs
    → (b s : State) (base x z : List Op) → length x ≡ at → Swaps o a c → place a ≡ place c → IsAlong o b base (x ++ a ∷ c ∷ z) us s → IsAlong o b base ((x ++ c ∷ []) ++ a ∷ z) vs s
along_over o laws place a c at us vs carries b s base x z n swaps here h =
    let way = carries b base x z c n swaps here (record { log = h.log; allowed = h.allowed; kept = h.kept }) in
    record {
      log = way.log;
      allowed = way.allowed;
      kept = way.kept;
      is = h.is ∙ one_end o laws b base h.log x z a c swaps h.allowed;
    }

-- Those of the batch from this one on have come behind the operation at the position.
pub record IsPartOver {Shape State Op Undo : Type 0} (o : Object Shape State Op Undo) (place : Op → ℕ) (batch : List (Item Op)) (at : ℕ)
    (us : List Undo) (left : ℕ) (vs : List Undo) : Type 0 where
  pub within : left ≤ length batch
  pub size : length vs ≡ length us
  pub carries : (b s : State) (base x z : List Op) (c : Op) → length x + length batch ≡ at → ((p : Item Op) → In p batch → Swaps o p.op c × (place p.op ≡ place c))
      → IsAlong o b base (x ++ (ops batch ++ c ∷ z)) us s
      → IsAlong o b base (x ++ (ops (take left batch) ++ c ∷ (ops (drop left batch) ++ z))) vs s

module _ {Shape State Op Undo : Type 0} (o : Object Shape State Op Undo) (laws : IsLawful o) (place : Op → ℕ) (batch : List (Item Op)) (at : ℕ) (us : List Undo) where
  -- At the start no operation of the batch has been carried over the one at the position.
  pub over_first : (left : ℕ) → left ≡ length batch → IsPartOver o place batch at us left us
  over_first left is = record {
    within = omega arith;
    size = refl;
    carries = λ b s base x z c n swap h.
        let all : take left batch ≡ batch = ap (λ (k : ℕ). take k batch) is ∙ take-length batch in
        let none : drop left batch ≡ [] = drop_all left batch (omega arith) in
        subst (λ (l : List (Item Op)). IsAlong o b base (x ++ (ops l ++ c ∷ (ops (drop left batch) ++ z))) us s) (sym all)
        (subst (λ (l : List (Item Op)). IsAlong o b base (x ++ (ops batch ++ c ∷ (ops l ++ z))) us s) (sym none) h);
  }

  -- If none of the batch is left, all of it has been carried over the one at the position.
  pub over_last : (left : ℕ) (vs : List Undo) → left ≡ 0 → IsPartOver o place batch at us left vs → CarriesAllOver o place batch at us vs
  over_last left vs none part b s base x z c n swap h =
      let now = part.carries b s base x z c n swap h in
      let at_none : IsAlong o b base (x ++ (ops (take 0 batch) ++ c ∷ (ops (drop 0 batch) ++ z))) vs s =
      subst (λ (k : ℕ). IsAlong o b base (x ++ (ops (take k batch) ++ c ∷ (ops (drop k batch) ++ z))) vs s) none now in
      subst (λ (l : List Op). IsAlong o b base l vs s) (sym (append_assoc x (c ∷ []) (ops batch ++ z)))
      (subst (λ (l : List (Item Op)). IsAlong o b base (x ++ c ∷ (ops l ++ z)) vs s) (drop_none batch) at_none)

  -- the k-th one, e, is next
  module _ (k : ℕ) (e : Item Op) (lt : k < length batch) (is : e ≡ get_or batch k e) where
    front_of : take (k + 1) batch ≡ take k batch ++ e ∷ []
    front_of = take_more batch k e lt ∙ ap (λ (d : Item Op). take k batch ++ d ∷ []) (sym is)

    rest_of : drop k batch ≡ e ∷ drop (k + 1) batch
    rest_of = drop_there batch k e lt is

    inside : In e batch
    inside = subst (In e) (take-append-drop (k + 1) batch)
        (in_left e (take (k + 1) batch) (drop (k + 1) batch) (subst (In e) (sym front_of) (in_right e (take k batch) (e ∷ []) (inl refl))))

    -- To carry one more operation of the batch over leaves one fewer to carry.
    pub over_next : (n first : ℕ) (vs ws : List Undo) → n ≡ k + 1 → first + length batch ≡ at → length ws ≡ length vs → CarriesOver o place e.op (first + k) vs ws → IsPartOver o place batch at us n vs → IsPartOver o place batch at us k ws
    over_next n first vs ws n_is first_is one_size over part = record {
      within = omega arith;
      size = one_size ∙ part.size;
      carries = λ b s base x z c m swap h.
          let T = ops (take k batch) in
          let R = ops (drop (k + 1) batch) ++ z in
          let now : IsAlong o b base (x ++ (ops (take (k + 1) batch) ++ c ∷ R)) vs s =
          subst (λ (j : ℕ). IsAlong o b base (x ++ (ops (take j batch) ++ c ∷ (ops (drop j batch) ++ z))) vs s) n_is (part.carries b s base x z c m swap h) in
          let cut : x ++ (ops (take (k + 1) batch) ++ c ∷ R) ≡ (x ++ T) ++ e.op ∷ c ∷ R =
          ap (λ (l : List (Item Op)). x ++ (ops l ++ c ∷ R)) front_of ∙ ap (λ (l : List Op). x ++ (l ++ c ∷ R)) (ops-append (take k batch) (e ∷ []))
          ∙ ap (λ (l : List Op). x ++ l) (append_assoc T (e.op ∷ []) (c ∷ R)) ∙ sym (append_assoc x T (e.op ∷ c ∷ R)) in
          let long : length (x ++ T) ≡ first + k =
          (let two = length-append x T in let t = length-ops (take k batch) in let u = length-take-le k batch (omega arith) in omega arith) in
          let pair = swap e inside in
          let then = along_over o laws place e.op c (first + k) vs ws over b s base (x ++ T) R long pair.0 pair.1 (subst (λ (l : List Op). IsAlong o b base l vs s) cut now) in
          let joined : ((x ++ T) ++ c ∷ []) ++ e.op ∷ R ≡ x ++ (T ++ c ∷ (ops (drop k batch) ++ z)) =
          append_assoc (x ++ T) (c ∷ []) (e.op ∷ R) ∙ append_assoc x T (c ∷ e.op ∷ R)
          ∙ ap (λ (l : List (Item Op)). x ++ (T ++ c ∷ (ops l ++ z))) (sym rest_of) in
          subst (λ (l : List Op). IsAlong o b base l ws s) joined then;
    }

-- Those of the batch that stand before a position have come behind the others there.
pub record IsGathering {Shape State Op Undo : Type 0} (o : Object Shape State Op Undo) (place : Op → ℕ) (batch : List (Item Op)) (from : ℕ) (ids : List ℕ)
    (us : List Undo) (at next : ℕ) (vs : List Undo) : Type 0 where
  pub begun : next + from ≤ at
  pub some : next ≤ length batch
  pub within : at ≤ length ids
  pub size : length vs ≡ length us
  pub gathers : (items : List (Item Op)) → HasBatch o place batch from ids items → IsAt batch items at next
      × ((b s : State) (base : List Op) → IsAlong o b base (ops items) us s → IsAlong o b base (ops (without_items itself batch (take at items) ++ (take next batch ++ drop at items))) vs s)

module _ {Shape State Op Undo : Type 0} (o : Object Shape State Op Undo) (place : Op → ℕ) (batch : List (Item Op)) (from : ℕ) (ids : List ℕ) (items : List (Item Op)) (h : HasBatch o place batch from ids items) where
  abbrev stays : Item Op → Bool
  stays e = not (has_id e.id (ids_of batch))

  abbrev others : List (Item Op) → List (Item Op)
  others x = without_items itself batch x

  -- A place has as many ids as items.
  pub many : length ids ≡ length items
  many = ap length h.same_ids ∙ length-map items (λ e. e.id)

  -- the id of the item at a position
  pub id_of_item : (at : ℕ) → at < length items → (get_or items at h.stand.first).id ≡ get_or ids at 0
  id_of_item at lt =
      let all = many in
      let size = ap length h.same_ids in
      sym (get_or-map (λ (e : Item Op). e.id) items at h.stand.first) ∙ get_or_default (ids_of items) at h.stand.first.id 0 (omega arith) ∙ ap (λ (l : List ℕ). get_or l at 0) (sym h.same_ids)

  -- The first item of a batch is at a position of the list.
  pub first_within : from < length items
  first_within = slice_get_within items from h.stand.first h.stand.first_there

  front_stays : others (take from items) ≡ take from items
  front_stays = filter_all stays (take from items) (λ e i. ap not (none_before batch items from h.stand e i))

  -- The gathering of a batch begins with the list as it is.
  pub gathered_first : (b s : State) (base : List Op) (us : List Undo) → IsAlong o b base (ops items) us s
      → IsAlong o b base (ops (others (take from items) ++ (take 0 batch ++ drop from items))) us s
  gathered_first b s base us along =
      subst (λ (l : List (Item Op)). IsAlong o b base (ops (l ++ drop from items)) us s) (sym front_stays)
      (subst (λ (l : List (Item Op)). IsAlong o b base (ops l) us s) (sym (take-append-drop from items)) along)

  module _ (at next : ℕ) (here : IsAt batch items at next) (d : Item Op) (lt : at < length items) (is : d ≡ get_or items at d) where
    more : (l : List (Item Op)) → others (d ∷ []) ≡ l → others (take (at + 1) items) ≡ others (take at items) ++ l
    more l e = ap others (front batch items from h.stand at next here d lt is) ∙ filter-append stays (take at items) (d ∷ []) ∙ ap (λ (z : List (Item Op)). others (take at items) ++ z) e

    rest_is : drop at items ≡ d ∷ drop (at + 1) items
    rest_is = rest batch items from h.stand at next here d lt is

    -- it is the next one of the batch
    pub gathered_own : HasIdAt batch next d.id → others (take (at + 1) items) ++ (take (next + 1) batch ++ drop (at + 1) items) ≡ others (take at items) ++ (take next batch ++ drop at items)
    gathered_own has =
        let out : others (d ∷ []) ≡ [] = ap (λ (t : Bool). cond (not t) (d ∷ []) []) (has_it batch items from h.stand at next here d lt is has) in
        let one = same batch items from h.stand at next here d lt is has in
        let taken : take (next + 1) batch ≡ take next batch ++ d ∷ [] =
        own_front batch items from h.stand at next here d lt is has ∙ ap (λ (e : Item Op). take next batch ++ e ∷ []) one in
        ap (λ (z : List (Item Op)). z ++ (take (next + 1) batch ++ drop (at + 1) items)) (more [] out ∙ append-nil (others (take at items)))
        ∙ ap (λ (z : List (Item Op)). others (take at items) ++ (z ++ drop (at + 1) items)) taken
        ∙ ap (λ (z : List (Item Op)). others (take at items) ++ z) (append_assoc (take next batch) (d ∷ []) (drop (at + 1) items) ∙ ap (λ (z : List (Item Op)). take next batch ++ z) (sym rest_is))

    -- it is none, and those of the batch that were met come behind it
    module _ (none : HasIdAt batch next d.id → ⊥) (some : next ≤ length batch) where
      abbrev W : List (Item Op)
      W = others (take at items)

      abbrev N : List (Item Op)
      N = take next batch

      abbrev R : List (Item Op)
      R = drop (at + 1) items

      not_own : has_id d.id (ids_of batch) ≡ false
      not_own = has_not_it batch items from h.stand at next here d lt is none

      into : others (take (at + 1) items) ≡ W ++ d ∷ []
      into = more (d ∷ []) (ap (λ (t : Bool). cond (not t) (d ∷ []) []) not_own)

      d_in : In d items
      d_in = subst (In d) (take-append-drop at items) (in_right d (take at items) (drop at items) (d_there batch items from h.stand at next here d lt is))

      N_in : (p : Item Op) → In p N → In p batch
      N_in p i = subst (In p) (take-append-drop next batch) (in_left p N (drop next batch) i)

      -- Each item of the batch met so far swaps with the next other item, and has its place.
      pub lets_pass : (p : Item Op) → In p N → Swaps o p.op d.op × (place p.op ≡ place d.op)
      lets_pass p i =
          let before = across batch items from h.stand at p d (here.done p i) (d_there batch items from h.stand at next here d lt is) in
          (h.may.pass p d (N_in p i) before not_own, h.one_place p d (N_in p i) d_in)

      -- The items gathered so far, if carried over the next other item, are gathered after it.
      pub gathered_other : (us vs ws : List Undo) (b s : State) (base : List Op) → length vs ≡ length us → IsAlong o b base (ops items) us s → CarriesAllOver o place N at vs ws
          → IsAlong o b base (ops (W ++ (N ++ drop at items))) vs s → IsAlong o b base (ops (others (take (at + 1) items) ++ (N ++ R))) ws s
      gathered_other us vs ws b s base size begun carries along =
          let parts : ops (W ++ (N ++ drop at items)) ≡ ops W ++ (ops N ++ d.op ∷ ops R) =
          ap (λ (l : List (Item Op)). ops (W ++ (N ++ l))) rest_is ∙ ops-append W (N ++ d ∷ R) ∙ ap (λ (l : List Op). ops W ++ l) (ops-append N (d ∷ R)) in
          let joined : (ops W ++ d.op ∷ []) ++ (ops N ++ ops R) ≡ ops (others (take (at + 1) items) ++ (N ++ R)) =
          ap (λ (l : List Op). (ops W ++ d.op ∷ []) ++ l) (sym (ops-append N R)) ∙ ap (λ (l : List Op). l ++ ops (N ++ R)) (sym (ops-append W (d ∷ [])))
          ∙ sym (ops-append (W ++ d ∷ []) (N ++ R)) ∙ ap (λ (l : List (Item Op)). ops (l ++ (N ++ R))) (sym into) in
          let all = ap length along.kept ∙ length-kept o b (ops (W ++ (N ++ drop at items))) ∙ length-ops (W ++ (N ++ drop at items)) in
          let first = ap length begun.kept ∙ length-kept o b (ops items) ∙ length-ops items in
          let two = length-append W (N ++ drop at items) in
          let three = length-append N (drop at items) in
          let tail = length-drop at items in
          let n = length-take-le next batch some in
          let w = length-ops W in
          let place_of : length (ops W) + length N ≡ at = omega arith in
          subst (λ (l : List Op). IsAlong o b base l ws s) joined
          (carries b s base (ops W) (ops R) d.op place_of lets_pass (subst (λ (l : List Op). IsAlong o b base l vs s) parts along))

  -- all were met
  pub gathered_last : (at next : ℕ) → length items ≤ at → IsAt batch items at next → others (take at items) ++ (take next batch ++ drop at items) ≡ others items ++ batch
  gathered_last at next all here =
      let end : drop at items ≡ [] = drop_all at items all in
      let left : drop next batch ≡ [] = nothing (drop next batch) (λ p i. subst (In p) end (here.left p i)) in
      let whole : take next batch ≡ batch = sym (append-nil (take next batch)) ∙ ap (λ (z : List (Item Op)). take next batch ++ z) (sym left) ∙ take-append-drop next batch in
      ap (λ (z : List (Item Op)). others z ++ (take next batch ++ drop at items)) (take_all at items all)
      ∙ ap (λ (z : List (Item Op)). others items ++ (take next batch ++ z)) end
      ∙ ap (λ (z : List (Item Op)). others items ++ z) (append-nil (take next batch) ∙ whole)
    where
      nothing : (l : List (Item Op)) → ((p : Item Op) → In p l → ⊥) → l ≡ []
      nothing [] none = refl
      nothing (p ∷ l) none = absurd (none p (inl refl))
