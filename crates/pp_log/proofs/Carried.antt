-- Undo values of operations, carried after the operations of their place.
use Rattle.std.proofs.Common.{◌≡◌, ℕ, zero, suc, ◌<◌, ◌≤◌, ◌+◌, ◌-◌, true, false, List, [], ◌∷◌, ◌++◌, length, get_or}
use Rattle.std.proofs.Common.{refl, sym, ◌∙◌, ap, subst, arith, inl, inr, append_assoc, append-nil, length-append}
use Rattle.std.specs.List.{remove, swap}
use Rattle.std.proofs.lemmas.List.{nil_from_length}
use Rattle.pp_core.specs.declared.entry.Item.{Item}
use Rattle.pp_model.specs.Object.{ops}
use Rattle.pp_kind.specs.Object.{Object, IsLawful, MayKeep, KeptAs, LetsPass, Swaps, state_from}
use Rattle.pp_log.specs.Carries.{CarriesOut, CarriesOver, IsOnWay}
use Rattle.pp_log.specs.Parts.{AllAt, there}
use Rattle.pp_log.proofs.Parted.{is_at, there_at, there_off}
use Rattle.pp_log.specs.Runs.{kept_along}
use Rattle.pp_log.proofs.Lists.{push-injective}
use Rattle.pp_log.proofs.Passed.{carried_alone, kept_alone, kept_in_turn, other_may_keep, turned_on}
use Rattle.pp_log.proofs.Runs.{kept-push, length-kept}

module _ {Shape State Op Undo : Type 0} (o : Object Shape State Op Undo) (laws : IsLawful o) (b : State) (base x z : List Op) (a c : Op) (swaps : Swaps o a c) (us : List Undo) (way : IsOnWay o b base x (c ∷ z) a us) where
  -- The undo value of the other operation is one that it keeps in some state.
  pub is_kept : (at : ℕ) (v : Undo) → length x ≡ at → v ≡ get_or us (at + 1) v → MayKeep o c v
  is_kept at v n is = subst (λ (w : Undo). MayKeep o c w) (sym is) (other_may_keep o laws b base way.log x z a c swaps way.allowed us v at n way.kept)

  -- An operation comes after one that keeps what it kept.
  pub over_alone : (at : ℕ) → length x ≡ at → KeptAs o false a c → IsOnWay o b base (x ++ c ∷ []) z a (swap us at (at + 1))
  over_alone at n alone = record {
    log = way.log;
    allowed = turned_on o laws b base way.log x z a c swaps way.allowed;
    kept = kept_alone o laws b base way.log x z a c swaps way.allowed us at n alone way.kept;
  }

  -- An operation comes after one with which it exchanges the undo value.
  pub over_in_turn : KeptAs o true a c → IsOnWay o b base (x ++ c ∷ []) z a us
  over_in_turn in_turn = record {
    log = way.log;
    allowed = turned_on o laws b base way.log x z a c swaps way.allowed;
    kept = kept_in_turn o laws b base way.log x z a c swaps way.allowed us in_turn way.kept;
  }

lets_second : {Shape State Op Undo : Type 0} (o : Object Shape State Op Undo) (a : Op) (x y : List Op) → LetsPass o a (x ++ y) → LetsPass o a y
lets_second o a [] y h = h
lets_second o a (c ∷ x) y h = lets_second o a x y h.1

all_second : {Op : Type 0} (place : Op → ℕ) (p : ℕ) (x y : List Op) → AllAt place p (x ++ y) → AllAt place p y
all_second place p [] y h = h
all_second place p (c ∷ x) y h = all_second place p x y h.1

-- those of a place have it
pub all_there : {Op : Type 0} (place : Op → ℕ) (p : ℕ) (x : List (Item Op)) → AllAt place p (ops (there place p x))
all_there place p [] = tt
all_there {Op} place p (e ∷ x) = elim (is_at place e p) [
  | inl h ↦ subst (λ (l : List (Item Op)). AllAt place p (ops l)) (sym (there_at place p e x h)) (sym h, all_there place p x)
  | inr h ↦ subst (λ (l : List (Item Op)). AllAt place p (ops l)) (sym (there_off place p e x h)) (all_there place p x)
]

-- a list that is not empty ends
ends : {A : Type 0} (y : List A) (n : ℕ) → length y ≡ suc n → (z : List A) × (c : A) × (y ≡ z ++ c ∷ []) × (length z ≡ n)
ends [] n h = absurd (omega arith)
ends (c ∷ []) n h = ([], c, refl, (omega arith))
ends (c ∷ d ∷ y) zero h = absurd (omega arith)
ends {A} (c ∷ d ∷ y) (suc n) h =
    let r = ends (d ∷ y) n (omega arith) in
    (c ∷ r.0, r.1, ap (λ (l : List A). c ∷ l) r.2, (let k = r.3 in omega arith))

-- It has come to this position.
pub record IsPart {Shape State Op Undo : Type 0} (o : Object Shape State Op Undo) (place : Op → ℕ) (a : Op) (from : ℕ)
    (us : List Undo) (at : ℕ) (vs : List Undo) : Type 0 where
  pub size : length vs ≡ length us
  pub begun : from ≤ at
  pub within : at < length us
  pub carries : (b : State) (base x y z : List Op) → length x ≡ from → from + length y ≡ at
      → LetsPass o a (y ++ z) → AllAt place (place a) (y ++ z)
      → IsOnWay o b base x (y ++ z) a us → IsOnWay o b base (x ++ y) z a vs

-- as many are kept as there are operations
many_kept : {Shape State Op Undo : Type 0} (o : Object Shape State Op Undo) (b : State) (base x z : List Op) (a : Op) (us : List Undo) → IsOnWay o b base x z a us → length us ≡ suc (length x + length z)
many_kept o b base x z a us way =
    let both = length-append x (a ∷ z) in
    ap length way.kept ∙ length-kept o b (x ++ a ∷ z) ∙ omega arith

module _ {Shape State Op Undo : Type 0} (o : Object Shape State Op Undo) (place : Op → ℕ) (a : Op) (from : ℕ) (us : List Undo) where
  -- An operation that is carried to the end begins at its own position.
  pub part_first : from < length us → IsPart o place a from us from us
  part_first lt = record {
    size = refl;
    begun = omega arith;
    within = lt;
    carries = λ b base x y z n m h all way.
        let none = nil_from_length y (omega arith) in
        subst (λ (l : List Op). IsOnWay o b base (x ++ l) z a us) (sym none)
        (subst (λ (l : List Op). IsOnWay o b base l z a us) (sym (append-nil x))
        (subst (λ (l : List Op). IsOnWay o b base x (l ++ z) a us) none way));
  }

  -- The undo value of the operation is last, and is taken out.
  pub part_last : (at : ℕ) (vs ws : List Undo) (w : Undo) → length us ≤ at + 1 → IsPart o place a from us at vs → vs ≡ ws ++ w ∷ [] → CarriesOut o place a from us ws w
  part_last at vs ws w end part last b base x z n h all way =
      let within = part.within in
      let many = many_kept o b base x z a us way in
      let whole = sym (append-nil z) in
      let behind = part.carries b base x z [] n (omega arith)
      (subst (λ (l : List Op). LetsPass o a l) whole h) (subst (λ (l : List Op). AllAt place (place a) l) whole all)
      (subst (λ (l : List Op). IsOnWay o b base x l a us) whole way) in
      let both = push-injective ws (kept_along o b (x ++ z)) w (o.upkeep.kept (state_from o b (x ++ z)) a) (sym last ∙ behind.kept ∙ kept-push o b (x ++ z) a) in
      record { others = both.0; own = both.1 }

  module _ (at : ℕ) (vs : List Undo) (part : IsPart o place a from us at vs) where
    -- An operation that is carried over one more is one position further.
    pub part_next : (ws : List Undo) → at + 1 < length us → length ws ≡ length vs → CarriesOver o place a at vs ws → IsPart o place a from us (at + 1) ws
    part_next ws more same over = record {
      size = same ∙ part.size;
      begun = let begun = part.begun in omega arith;
      within = omega arith;
      carries = λ b base x y z n m h all way.
          let begun = part.begun in
          let r = ends y (at - from) (omega arith) in
          let z_now : y ++ z ≡ r.0 ++ (r.1 ∷ z) = ap (λ (l : List Op). l ++ z) r.2 ∙ append_assoc r.0 (r.1 ∷ []) z in
          let lets = subst (λ (l : List Op). LetsPass o a l) z_now h in
          let here = subst (λ (l : List Op). AllAt place (place a) l) z_now all in
          let size = r.3 in
          let now = part.carries b base x r.0 (r.1 ∷ z) n (omega arith) lets here (subst (λ (l : List Op). IsOnWay o b base x l a us) z_now way) in
          let many : length (x ++ r.0) ≡ at = let both = length-append x r.0 in omega arith in
          let swaps = (lets_second o a r.0 (r.1 ∷ z) lets).0 in
          let one_place = (all_second place (place a) r.0 (r.1 ∷ z) here).0 in
          subst (λ (l : List Op). IsOnWay o b base l z a ws) (append_assoc x r.0 (r.1 ∷ []) ∙ ap (λ (l : List Op). x ++ l) (sym r.2))
          (over b base (x ++ r.0) z r.1 many swaps one_place now);
    }

-- If an operation exchanges its undo value with none, it is taken out at its position.
pub out_alone : {Shape State Op Undo : Type 0} (o : Object Shape State Op Undo) (laws : IsLawful o) (place : Op → ℕ) (a : Op) → ((c : Op) → Swaps o a c → KeptAs o false a c)
    → (from : ℕ) (us vs : List Undo) (v : Undo) → vs ≡ remove us from → v ≡ get_or us from v → CarriesOut o place a from us vs v
out_alone o laws place a alone from us vs v rest is b base x z n h all way =
    let carried = carried_alone o laws b base way.log a alone x z us v from n h way.allowed way.kept in
    record { others = rest ∙ carried.others; own = is ∙ carried.own }
