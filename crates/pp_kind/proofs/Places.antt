-- Proof machinery: what the laws of a kind say of lists of operations.
use Rattle.std.proofs.Common.{◌≡◌, ℕ, IsTrue, List, [], ◌∷◌, ◌++◌, Option, Some, None, refl, sym}
use Rattle.std.proofs.Common.{◌∙◌, ap, subst, append_assoc, append-nil}
use Rattle.pp_kind.specs.Object.{Object, AllowedFrom, state_from, IsAllowed, state_after, IsLawful}
use Rattle.pp_kind.specs.Object.{IsPlaced, AllElsewhere, UndoneBehindOthers, Swaps, SwapsNowhere}
use Rattle.pp_kind.specs.Object.{FitNowhere, IsRefutedBy, rules_of}
use Rattle.pp_model.specs.Object.{TellsStates}
use Rattle.pp_kind.proofs.Lists.{state-append, allowed-first, allowed-second, allowed-append}
use Rattle.pp_kind.proofs.Lists.{allowed_is_state, last_is_legal, keeps_shape, refuted_nowhere}

module _ {Shape State Op Undo : Type 0} (o : Object Shape State Op Undo) (laws : IsLawful o) where
  -- an allowed list keeps the shape
  pub shape_stays : (s : State) (x : List Op) → AllowedFrom o s x
      → o.shape (state_from o s x) ≡ o.shape s
  shape_stays = keeps_shape o laws.next_shape

  -- The state after an allowed list has the shape that the list began in.
  pub reached_shape : (sh : Shape) (x : List Op) → IsAllowed o sh x
      → o.shape (state_after o sh x) ≡ sh
  reached_shape sh x h = shape_stays (o.start sh) x h ∙ laws.start_shape sh

  -- The state after an allowed list is one that the laws speak of (`IsState`).
  pub reached_is_state : (sh : Shape) (x : List Op) → IsAllowed o sh x
      → o.upkeep.IsState (state_after o sh x)
  reached_is_state sh x h = allowed_is_state o (o.start sh) x laws.next_is_state
      (laws.start_is_state sh) h

  -- operations that no shape has together never follow one another
  pub unfitting_swap : (a b : Op) → FitNowhere o a b → Swaps o a b
  unfitting_swap a b never sh =
      record {
        always = λ before after k.
            let first = allowed-first o (o.start sh) before (a ∷ b ∷ after) k in
            let second = allowed-second o (o.start sh) before (a ∷ b ∷ after) k in
            let e = reached_shape sh before first in
            let next = laws.next_shape (state_after o sh before) a second.0 ∙ e in
            absurd (never sh (subst (λ (t : Shape). IsTrue (o.fits t a)) e second.0.0)
            (subst (λ (t : Shape). IsTrue (o.fits t b)) next second.1.0.0));
      }

  -- a pair that does not swap in every shape swaps in none that both fit
  nowhere_by : (a b : Op) (lists : Option (List Op × List Op)) → o.refuting a b ≡ lists
      → IsRefutedBy o a b lists → (Swaps o a b → ⊥) → SwapsNowhere o a b
  nowhere_by a b None e r h = absurd (h ((laws.unrefuted a b).0 e))
  nowhere_by a b (Some lists) e r h = refuted_nowhere o a b lists r

  -- A pair that does not swap in every shape swaps in no shape that both fit.
  pub swaps_nowhere : (a b : Op) → (Swaps o a b → ⊥) → SwapsNowhere o a b
  swaps_nowhere a b h = nowhere_by a b (o.refuting a b) refl (laws.refuted a b) h

  -- Two lists lead to one state if the first is allowed, and all that is allowed after it is allowed after the second.
  pub tells_states : (sh : Shape) → TellsStates (rules_of o sh)
  tells_states sh x y h also =
      let k : IsAllowed o sh y = allowed-first o (o.start sh) y []
      (also [] (allowed-append o (o.start sh) x [] h tt)) in
      laws.told_apart (state_after o sh x) (state_after o sh y) (reached_is_state sh x h)
      (reached_is_state sh y k)
      (reached_shape sh x h ∙ sym (reached_shape sh y k))
      (λ l f. allowed-second o (o.start sh) y l (also l (allowed-append o (o.start sh) x l h f)))

module _ {Shape State Op Undo : Type 0} (o : Object Shape State Op Undo) (place_of : Op → ℕ)
    (SameAt : ℕ → State → State → Type 0) (laws : IsLawful o)
    (places : IsPlaced o place_of SameAt) where
  -- An operation moves after operations of other places.
  pub moved_back : (sh : Shape) (x y k : List Op) (a : Op) → AllElsewhere place_of (place_of a) y
      → IsAllowed o sh (x ++ (a ∷ (y ++ k))) → IsAllowed o sh (x ++ (y ++ (a ∷ k)))
  moved_back sh x [] k a e h = h
  moved_back sh x (b ∷ y) k a e h =
      let swapped = (places.apart a b e.0 sh).always x (y ++ k) h in
      let P : List Op → Type 0 = IsAllowed o sh in
      let later = moved_back sh (x ++ b ∷ []) y k a e.1
      (subst P (sym (append_assoc x (b ∷ []) (a ∷ (y ++ k)))) swapped) in
      subst P (append_assoc x (b ∷ []) (y ++ (a ∷ k))) later

  -- operations of other places leave a place as it was
  pub stays_at : (p : ℕ) (s : State) (y : List Op) → AllElsewhere place_of p y
      → SameAt p s (state_from o s y)
  stays_at p s [] e = places.same p s
  stays_at p s (b ∷ y) e = places.joined p s (o.next s b) (state_from o (o.next s b) y)
      (places.next_elsewhere s b p e.0) (stays_at p (o.next s b) y e.1)

  -- An operation may be seen as the last one, after those of other places.
  turned_last : (sh : Shape) (x y : List Op) (a : Op) → AllElsewhere place_of (place_of a) y
      → IsAllowed o sh (x ++ a ∷ y) → IsAllowed o sh ((x ++ y) ++ a ∷ [])
  turned_last sh x y a e h =
      let P : List Op → Type 0 = IsAllowed o sh in
      let turned = moved_back sh x y [] a e
      (subst (λ (z : List Op). P (x ++ (a ∷ z))) (sym (append-nil y)) h) in
      subst P (sym (append_assoc x y (a ∷ []))) turned

  left_last : (sh : Shape) (x y : List Op) (a : Op) → AllElsewhere place_of (place_of a) y
      → IsAllowed o sh (x ++ a ∷ y)
      → state_after o sh (x ++ a ∷ y) ≡ o.next (state_after o sh (x ++ y)) a
  left_last sh x y a e h =
      let P : List Op → Type 0 = IsAllowed o sh in
      tells_states o laws sh (x ++ (a ∷ y)) (x ++ (y ++ (a ∷ []))) h
      (λ k f. subst P (sym (append_assoc x (y ++ (a ∷ [])) k))
      (subst (λ (z : List Op). P (x ++ z)) (sym (append_assoc y (a ∷ []) k))
      (moved_back sh x y k a e (subst P (append_assoc x (a ∷ y) k) f))))
      ∙ (ap (state_after o sh) (sym (append_assoc x y (a ∷ [])))
      ∙ state-append o (o.start sh) (x ++ y) (a ∷ []))

  -- The undo value of an operation does not depend on later operations of other places.
  kept_behind : (sh : Shape) (x y : List Op) (a : Op) → AllElsewhere place_of (place_of a) y
      → o.upkeep.kept (state_after o sh x) a ≡ o.upkeep.kept (state_after o sh (x ++ y)) a
  kept_behind sh x y a e =
      places.kept_there (state_after o sh x) (state_after o sh (x ++ y)) a
      (subst (SameAt (place_of a) (state_after o sh x)) (sym (state-append o (o.start sh) x y))
      (stays_at (place_of a) (state_after o sh x) y e))

  -- so it is taken back there with the value that was kept when it was applied
  pub undone_behind : UndoneBehindOthers o place_of
  undone_behind sh x y a e h =
      let s = state_after o sh (x ++ y) in
      let t = state_after o sh (x ++ a ∷ y) in
      let last = turned_last sh x y a e h in
      let is_state = reached_is_state o laws sh (x ++ y)
      (allowed-first o (o.start sh) (x ++ y) (a ∷ []) last) in
      let legal = last_is_legal o sh s (x ++ y) a refl last in
      record {
        allowed = last;
        left = left_last sh x y a e h;
        kept = kept_behind sh x y a e;
        undone = ap (o.upkeep.back t a) (kept_behind sh x y a e)
            ∙ ap (λ (r : State). o.upkeep.back r a (o.upkeep.kept s a)) (left_last sh x y a e h)
            ∙ laws.taken_back s a is_state legal;
      }
