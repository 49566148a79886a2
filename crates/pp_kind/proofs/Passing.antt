-- Proof machinery: an operation after those that may move past it.
use Rattle.std.proofs.Common.{◌≡◌, List, [], ◌∷◌, ◌++◌, sym, ◌∙◌, ap, subst}
use Rattle.std.proofs.Common.{append_assoc, append-nil}
use Rattle.pp_kind.specs.Object.{Object, IsLawful, IsLegal, IsAllowed, LetsPass, Swaps, state_after}
use Rattle.pp_kind.proofs.Lists.{allowed-first, allowed-second, state-append}
use Rattle.pp_kind.proofs.Places.{reached_is_state, tells_states}

module _ {Shape State Op Undo : Type 0} (o : Object Shape State Op Undo) (laws : IsLawful o) where
  -- A pair that swaps may be turned in the middle of an allowed list.
  pub turned : (sh : Shape) (x y : List Op) (a b : Op) → Swaps o a b → IsAllowed o sh (x ++ a ∷ b ∷ y)
      → IsAllowed o sh ((x ++ b ∷ []) ++ a ∷ y)
  turned sh x y a b swaps h =
      subst (IsAllowed o sh) (sym (append_assoc x (b ∷ []) (a ∷ y))) ((swaps sh).always x y h)

  -- An operation moves after those that swap with it.
  pub passed : (sh : Shape) (x y k : List Op) (a : Op) → LetsPass o a y
      → IsAllowed o sh (x ++ (a ∷ (y ++ k))) → IsAllowed o sh (x ++ (y ++ (a ∷ k)))
  passed sh x [] k a p h = h
  passed sh x (b ∷ y) k a p h =
      subst (IsAllowed o sh) (append_assoc x (b ∷ []) (y ++ (a ∷ k)))
      (passed sh (x ++ b ∷ []) y k a p.1 (turned sh x (y ++ k) a b p.0 h))

  -- An operation moves to the end of an allowed list if it swaps with all those after it.
  pub passed_last : (sh : Shape) (x y : List Op) (a : Op) → LetsPass o a y
      → IsAllowed o sh (x ++ a ∷ y) → IsAllowed o sh ((x ++ y) ++ a ∷ [])
  passed_last sh x y a p h =
      subst (IsAllowed o sh) (sym (append_assoc x y (a ∷ [])))
      (passed sh x y [] a p (subst (λ (z : List Op). IsAllowed o sh (x ++ (a ∷ z)))
      (sym (append-nil y)) h))

  -- and leaves the same state
  pub left_by : (sh : Shape) (x y : List Op) (a : Op) → LetsPass o a y
      → IsAllowed o sh (x ++ a ∷ y)
      → state_after o sh (x ++ a ∷ y) ≡ o.next (state_after o sh (x ++ y)) a
  left_by sh x y a p h =
      let P : List Op → Type 0 = IsAllowed o sh in
      tells_states o laws sh (x ++ (a ∷ y)) (x ++ (y ++ (a ∷ []))) h
      (λ k f. subst P (sym (append_assoc x (y ++ (a ∷ [])) k))
      (subst (λ (z : List Op). P (x ++ z)) (sym (append_assoc y (a ∷ []) k))
      (passed sh x y k a p (subst P (append_assoc x (a ∷ y) k) f))))
      ∙ (ap (state_after o sh) (sym (append_assoc x y (a ∷ [])))
      ∙ state-append o (o.start sh) (x ++ y) (a ∷ []))

  -- A pair of operations that are legal in a state, one after the other.
  pub record IsPair (s : State) (a b : Op) : Type 0 where
    pub is_state : o.upkeep.IsState s
    pub first : IsLegal o s a
    pub second : IsLegal o (o.next s a) b
    pub other : IsLegal o s b
    pub one_state : o.next (o.next s a) b ≡ o.next (o.next s b) a

  -- Neighbours of an allowed list that swap are a pair (`IsPair`) in the state before them.
  pub pair : (sh : Shape) (x y : List Op) (a b : Op) → Swaps o a b → IsAllowed o sh (x ++ a ∷ b ∷ y)
      → IsPair (state_after o sh x) a b
  pair sh x y a b swaps h =
      let s = state_after o sh x in
      let there = allowed-second o (o.start sh) x (a ∷ b ∷ y) h in
      let turn = allowed-second o (o.start sh) x (b ∷ a ∷ y) ((swaps sh).always x y h) in
      let alone = allowed-first o (o.start sh) (x ++ a ∷ b ∷ []) y
      (subst (IsAllowed o sh) (sym (append_assoc x (a ∷ b ∷ []) y)) h) in
      record {
        is_state = reached_is_state o laws sh x (allowed-first o (o.start sh) x (a ∷ b ∷ y) h);
        first = there.0;
        second = there.1.0;
        other = turn.0;
        one_state = sym (state-append o (o.start sh) x (a ∷ b ∷ []))
            ∙ left_by sh x (b ∷ []) a (swaps, tt) alone
            ∙ ap (λ (t : State). o.next t a) (state-append o (o.start sh) x (b ∷ []));
      }
