-- Proof machinery: operations that are applied after others, and taken back.
use Rattle.std.specs.Prelude.{◌≡◌, ◌<◌, ◌≤◌, ◌+◌, ℕ, Bool, true, false, IsTrue, List, [], ◌∷◌, ◌++◌, cond, length, take, drop}
use Rattle.std.proofs.Common.{refl, sym, ap, subst, ◌∙◌, arith, get_or, append_assoc, inl, inr}
use Rattle.std.proofs.Math.Seq.{take-length}
use Rattle.std.proofs.lemmas.List.{append-nil, length-append, length-take, same_from_push, take-append-drop, take-map}
use Rattle.pp_model.specs.Object.{Item, ops}
use Rattle.pp_kind.specs.Calls.{WasApplied}
use Rattle.pp_kind.specs.Object.{Object, IsLegal, IsReached, AllowedFrom, IsLawful, state_from}
use Rattle.pp_kind.proofs.Lists.{allowed-append, allowed-first, allowed-second, allowed_is_state, state-append}
use Rattle.pp_attempts.specs.Trying.{IsTrail, MayFollow, kept_from}
use Rattle.pp_attempts.proofs.Fronts.{cut_there, take_there}
use Rattle.pp_attempts.proofs.Trails.{kept-append, may-first, next_fits, next_ranged, reached_there}
use Rattle.pp_opacity.specs.Trials.{IsAppliedIf, IsDecidedNext, IsTried}

module _ {Shape State Op Undo : Type 0} (o : Object Shape State Op Undo) where
  -- For each operation one undo value is kept.
  pub length-kept : (s : State) (x : List Op) → length (kept_from o s x) ≡ length x
  length-kept s [] = refl
  length-kept s (a ∷ x) = let rest = length-kept (o.next s a) x in omega (arith, rest)

  -- A list that may follow is the operations up to a position, the one there, and the others.
  pub may_cut : (s : State) (x l : List Op) (i : ℕ) (a : Op) → i < length l → a ≡ get_or l i a → MayFollow o s (x ++ l)
      → MayFollow o s ((x ++ take i l) ++ a ∷ drop (i + 1) l)
  may_cut s x l i a there is may =
      subst (λ (w : List Op). MayFollow o s w) (ap (λ (w : List Op). x ++ w) (cut_there l i a there is) ∙ sym (append_assoc x (take i l) (a ∷ drop (i + 1) l))) may

  -- If a list may follow, so may its first part.
  pub may_front : (s : State) (x l : List Op) (i : ℕ) → MayFollow o s (x ++ l) → MayFollow o s (x ++ take i l)
  may_front s x l i may =
      may-first o s (x ++ take i l) (drop i l)
      (subst (λ (w : List Op). MayFollow o s w) (ap (λ (w : List Op). x ++ w) (sym (take-append-drop i l)) ∙ sym (append_assoc x (take i l) (drop i l))) may)

  -- One more operation was applied.
  pub trail_more : (s t u : State) (x : List Op) (us vs : List Undo) (a : Op) (k : Undo) → IsTrail o s x us t → IsLegal o t a → k ≡ o.upkeep.kept t a → u ≡ o.next t a
      → vs ≡ us ++ k ∷ [] → IsTrail o s (x ++ a ∷ []) vs u
  trail_more s t u x us vs a k h legal kept leads pushed = record {
    allowed = allowed-append o s x (a ∷ []) h.allowed (subst (λ (w : State). IsLegal o w a) h.leads legal, tt);
    kept = pushed ∙ ap (λ (w : List Undo). w ++ k ∷ []) h.kept
        ∙ ap (λ (w : Undo). kept_from o s x ++ w ∷ []) (kept ∙ ap (λ (w : State). o.upkeep.kept w a) h.leads) ∙ sym (kept-append o s x a);
    leads = leads ∙ ap (λ (w : State). o.next w a) h.leads ∙ sym (state-append o s x (a ∷ []));
  }

  -- What is kept of operations that were applied is as long as they are.
  pub kept_long : (s t : State) (x : List Op) (us : List Undo) → IsTrail o s x us t → length us ≡ length x
  kept_long s t x us h = ap (λ (w : List Undo). length w) h.kept ∙ length-kept s x

  -- If all undo values are gone, no operation of the list is left.
  pub none_left : (s t : State) (x l : List Op) (n : ℕ) (us : List Undo) → IsTrail o s (x ++ take n l) us t → length us ≡ 0 → n ≤ length l → n ≡ 0
  none_left s t x l n us h none within =
      let long = kept_long s t (x ++ take n l) us h in
      omega (arith, long, none, length-append x (take n l), length-take n l, within)

  module _ (laws : IsLawful o) where
    -- The last operation that was applied is taken back.
    trail_less : (s t : State) (x : List Op) (us vs : List Undo) (a : Op) (k : Undo) → us ≡ vs ++ k ∷ [] → MayFollow o s (x ++ a ∷ []) → IsTrail o s (x ++ a ∷ []) us t
        → WasApplied o a k t × IsTrail o s x vs (o.upkeep.back t a k)
    trail_less s t x us vs a k popped may h =
        let mid = state_from o s x in
        let before = allowed-first o s x (a ∷ []) h.allowed in
        let legal = (allowed-second o s x (a ∷ []) h.allowed).0 in
        let kept = same_from_push vs (kept_from o s x) k (o.upkeep.kept mid a) (sym popped ∙ h.kept ∙ kept-append o s x a) in
        let leads : t ≡ o.next mid a = h.leads ∙ state-append o s x (a ∷ []) in
        let shorter : IsTrail o s x vs mid = record { allowed = before; kept = kept.0; leads = refl } in
        let reached = reached_there o laws s mid x (a ∷ []) vs may shorter in
        let is_state : o.upkeep.IsState mid = subst (λ (w : State). o.upkeep.IsState w) (sym reached.log.is)
        (allowed_is_state o (o.start (o.shape mid)) reached.ops laws.next_is_state (laws.start_is_state (o.shape mid)) reached.log.allowed) in (
          (mid, reached, next_ranged o laws s mid x [] a vs may shorter, legal, leads, kept.1),
          record {
            allowed = before;
            kept = kept.0;
            leads = ap (λ (w : State). o.upkeep.back w a k) leads ∙ ap (λ (w : Undo). o.upkeep.back (o.next mid a) a w) kept.1 ∙ laws.taken_back mid a is_state legal;
          },
        )

    -- The operation at a position is taken back, if it was applied last.
    pub back_one : (s t : State) (x l : List Op) (i : ℕ) (a : Op) (us vs : List Undo) (k : Undo) → i < length l → a ≡ get_or l i a → MayFollow o s (x ++ l) → us ≡ vs ++ k ∷ []
        → IsTrail o s (x ++ take (i + 1) l) us t → WasApplied o a k t × IsTrail o s (x ++ take i l) vs (o.upkeep.back t a k)
    back_one s t x l i a us vs k there is may popped h =
        let grown : x ++ take (i + 1) l ≡ (x ++ take i l) ++ a ∷ [] = ap (λ (w : List Op). x ++ w) (take_there l i a there is) ∙ sym (append_assoc x (take i l) (a ∷ [])) in
        trail_less s t (x ++ take i l) us vs a k popped (subst (λ (w : List Op). MayFollow o s w) grown (may_front s x l (i + 1) may)) (subst (λ (w : List Op). IsTrail o s w us t) grown h)

    -- So it is at the last position of those that were applied.
    pub back_at : (s t : State) (x l : List Op) (n i : ℕ) (a : Op) (us vs : List Undo) (k : Undo) → n ≡ i + 1 → i < length l → a ≡ get_or l i a → MayFollow o s (x ++ l) → us ≡ vs ++ k ∷ []
        → IsTrail o s (x ++ take n l) us t → WasApplied o a k t × IsTrail o s (x ++ take i l) vs (o.upkeep.back t a k)
    back_at s t x l n i a us vs k e there is may popped h =
        back_one s t x l i a us vs k there is may popped (subst (λ (m : ℕ). IsTrail o s (x ++ take m l) us t) e h)

    -- The operation at a position may be applied, and is the next one.
    module _ (s t : State) (x l : List Op) (i : ℕ) (a : Op) (us : List Undo) (there : i < length l) (is : a ≡ get_or l i a) (may : MayFollow o s (x ++ l))
        (h : IsTrail o s (x ++ take i l) us t) where
      -- it fits
      pub here_fits : IsTrue (o.fits (o.shape t) a)
      here_fits = next_fits o laws s t (x ++ take i l) (drop (i + 1) l) a us (may_cut s x l i a there is may) h

      -- it is ranged
      pub here_ranged : IsTrue (o.ranged a)
      here_ranged = next_ranged o laws s t (x ++ take i l) (drop (i + 1) l) a us (may_cut s x l i a there is may) h

      -- the state is reached
      pub here_reached : IsReached o t
      here_reached = reached_there o laws s t (x ++ take i l) (a ∷ drop (i + 1) l) us (may_cut s x l i a there is may) h

      -- One more of the list was applied.
      pub here_more : (u : State) (vs : List Undo) (k : Undo) → o.gives t a ≡ o.recorded a → k ≡ o.upkeep.kept t a → u ≡ o.next t a → vs ≡ us ++ k ∷ []
          → IsTrail o s (x ++ take (i + 1) l) vs u
      here_more u vs k gives kept leads pushed =
          subst (λ (w : List Op). IsTrail o s w vs u) (append_assoc x (take i l) (a ∷ []) ∙ ap (λ (w : List Op). x ++ w) (sym (take_there l i a there is)))
          (trail_more s t u (x ++ take i l) us vs a k h (here_fits, gives) kept leads pushed)

      -- The list is not allowed if its next operation differs.
      pub here_differs : (u : State) → u ≡ t → (o.gives t a ≡ o.recorded a → ⊥) → IsTried o s x l false us u
      here_differs u same differs = record {
        count = i;
        within = omega (arith, there);
        trail = subst (λ (w : State). IsTrail o s (x ++ take i l) us w) (sym same) h;
        whole = inr (
          refl,
          λ allowed.
              let cut : x ++ l ≡ (x ++ take i l) ++ a ∷ drop (i + 1) l = ap (λ (w : List Op). x ++ w) (cut_there l i a there is) ∙ sym (append_assoc x (take i l) (a ∷ drop (i + 1) l)) in
              let legal = (allowed-second o s (x ++ take i l) (a ∷ drop (i + 1) l) (subst (λ (w : List Op). AllowedFrom o s w) cut allowed)).0 in
              differs (subst (λ (w : State). IsLegal o w a) (sym h.leads) legal).1,
        );
      }

  -- All of the list were applied.
  pub all_tried : (s t : State) (x l : List Op) (i : ℕ) (us : List Undo) → length l ≤ i → i ≤ length l → IsTrail o s (x ++ take i l) us t → IsTried o s x l true us t
  all_tried s t x l i us all within h = record {
    count = i;
    within = within;
    trail = h;
    whole = inl (refl, omega (arith, all, within));
  }

  -- What was tried of a list: as many undo values more.
  pub tried_count : (s t v : State) (x l : List Op) (all : Bool) (us vs : List Undo) → IsTrail o s x us v → (h : IsTried o s x l all vs t) → length vs ≡ length us + h.count
  tried_count s t v x l all us vs before h =
      let old = ap (λ (w : List Undo). length w) before.kept ∙ length-kept s x in
      let new = ap (λ (w : List Undo). length w) (h.trail).kept ∙ length-kept s (x ++ take h.count l) in
      let within = h.within in
      let some = length-take h.count l in
      omega (arith, old, new, length-append x (take h.count l), some, within)

  -- The items that were tried, as many as there are undo values more, are those that are taken back.
  pub tried_front : (s t v : State) (x : List Op) (items : List (Item Op)) (all : Bool) (us vs : List Undo) (n : ℕ) → n + length us ≡ length vs → MayFollow o s (x ++ ops items) → IsTrail o s x us v
      → IsTried o s x (ops items) all vs t → MayFollow o s (x ++ ops (take n items)) × IsTrail o s (x ++ ops (take n items)) vs t
  tried_front s t v x items all us vs n e may before h =
      let long = tried_count s t v x (ops items) all us vs before h in
      let is : h.count ≡ n = omega (arith, e, long) in
      let same : take h.count (ops items) ≡ ops (take n items) = take-map (λ (w : Item Op). w.op) h.count items ∙ ap (λ (k : ℕ). ops (take k items)) is in (
        subst (λ (w : List Op). MayFollow o s (x ++ w)) same (may_front s x (ops items) h.count may),
        subst (λ (w : List Op). IsTrail o s (x ++ w) vs t) same h.trail,
      )

  -- If all of the list were applied, it is allowed.
  pub applied_all : (s t : State) (x l : List Op) (us : List Undo) → IsTried o s x l true us t → IsAppliedIf o s x l true us t
  applied_all s t x l us h = elim h.whole [
    | inl w ↦
        let whole = subst (λ (v : List Op). IsTrail o s (x ++ v) us t) (ap (λ (n : ℕ). take n l) w.1 ∙ take-length l) h.trail in
        record { trail = whole; decides = (λ k. whole.allowed, λ k. refl) }
    | inr w ↦ absurd (let no : true ≡ false = w.0 in cc)
  ]

  -- If not all of the list were applied, and these are taken back, it is the same as before.
  pub applied_none : (s t u : State) (x l : List Op) (us vs : List Undo) → IsTried o s x l false us t → IsTrail o s x vs u → IsAppliedIf o s x l false vs u
  applied_none s t u x l us vs h back = record {
    trail = subst (λ (w : List Op). IsTrail o s w vs u) (sym (append-nil x)) back;
    decides = elim h.whole [
      | inl w ↦ absurd (let no : false ≡ true = w.0 in cc)
      | inr w ↦ ((λ k. absurd (let no : false ≡ true = k in cc)), (λ k. absurd (w.1 k)))
    ];
  }

  -- What is applied if it is allowed is taken back.
  pub decided_after : (s t : State) (x l : List Op) (all : Bool) (us : List Undo) → IsAppliedIf o s x l all us t → all ≡ false → IsDecidedNext o s x l all us t
  decided_after s t x l all us h none = record {
    trail = subst (λ (w : List Op). IsTrail o s w us t) (ap (λ (b : Bool). x ++ cond b l []) none ∙ append-nil x) h.trail;
    decides = h.decides;
  }

  -- What is applied is the list, if it is allowed.
  pub applied_whole : (s t : State) (x l : List Op) (all : Bool) (us : List Undo) → IsAppliedIf o s x l all us t → all ≡ true → IsTrail o s (x ++ l) us t
  applied_whole s t x l all us h whole = subst (λ (b : Bool). IsTrail o s (x ++ cond b l []) us t) whole h.trail
