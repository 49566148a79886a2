-- Proof machinery: lists of operations, cut in two parts, and with one operation at the end.
use Rattle.std.proofs.Common.{◌≡◌, IsTrue, List, [], ◌∷◌, ◌++◌, ◌↔◌, refl, sym, ◌∙◌, ap, subst}
use Rattle.std.proofs.Common.{Some}
use Rattle.pp_kind.specs.Object.{Object, IsLegal, AllowedFrom, state_from, IsAllowed, state_after}
use Rattle.pp_kind.specs.Object.{AllRanged, Swaps, SwapsNowhere, IsRefutedBy, Commutes, IsLog}

module _ {Shape State Op Undo : Type 0} (o : Object Shape State Op Undo) where
  -- The state after joined lists is that after the second, from the state after the first.
  pub state-append : (s : State) (x y : List Op)
      → state_from o s (x ++ y) ≡ state_from o (state_from o s x) y
  state-append s [] y = refl
  state-append s (a ∷ x) y = state-append (o.next s a) x y

  -- If joined lists are allowed, so is the first.
  pub allowed-first : (s : State) (x y : List Op) → AllowedFrom o s (x ++ y) → AllowedFrom o s x
  allowed-first s [] y h = tt
  allowed-first s (a ∷ x) y h = (h.0, allowed-first (o.next s a) x y h.1)

  -- If joined lists are allowed, so is the second from the state after the first.
  pub allowed-second : (s : State) (x y : List Op) → AllowedFrom o s (x ++ y)
      → AllowedFrom o (state_from o s x) y
  allowed-second s [] y h = h
  allowed-second s (a ∷ x) y h = allowed-second (o.next s a) x y h.1

  -- Joined lists are allowed if the first is, and the second is from the state after it.
  pub allowed-append : (s : State) (x y : List Op) → AllowedFrom o s x
      → AllowedFrom o (state_from o s x) y → AllowedFrom o s (x ++ y)
  allowed-append s [] y h k = k
  allowed-append s (a ∷ x) y h k = (h.0, allowed-append (o.next s a) x y h.1 k)

  -- If joined lists are ranged, so is the first.
  pub ranged-first : (x y : List Op) → AllRanged o (x ++ y) → AllRanged o x
  ranged-first [] y h = tt
  ranged-first (a ∷ x) y h = (h.0, ranged-first x y h.1)

  -- If joined lists are ranged, so is the second.
  pub ranged-second : (x y : List Op) → AllRanged o (x ++ y) → AllRanged o y
  ranged-second [] y h = h
  ranged-second (a ∷ x) y h = ranged-second x y h.1

  -- Two ranged lists joined are ranged.
  pub ranged-append : (x y : List Op) → AllRanged o x → AllRanged o y → AllRanged o (x ++ y)
  ranged-append [] y h k = k
  ranged-append (a ∷ x) y h k = (h.0, ranged-append x y h.1 k)

  -- the last operation is legal in the state before it
  pub last_is_legal : (sh : Shape) (s : State) (x : List Op) (a : Op) → s ≡ state_after o sh x
      → IsAllowed o sh (x ++ a ∷ []) → IsLegal o s a
  last_is_legal sh s x a e h = subst (λ (t : State). IsLegal o t a) (sym e)
      (allowed-second (o.start sh) x (a ∷ []) h).0

  -- one more that is legal there keeps the list allowed
  pub one_more : (sh : Shape) (s : State) (x : List Op) (a : Op) → s ≡ state_after o sh x
      → IsAllowed o sh x → IsLegal o s a → IsAllowed o sh (x ++ a ∷ [])
  one_more sh s x a e h k = allowed-append (o.start sh) x (a ∷ []) h
      (subst (λ (t : State). IsLegal o t a) e k, tt)

  -- the state after one more
  pub state_one_more : (sh : Shape) (s : State) (x : List Op) (a : Op) → s ≡ state_after o sh x
      → o.next s a ≡ state_after o sh (x ++ a ∷ [])
  state_one_more sh s x a e = ap (λ (t : State). o.next t a) e
      ∙ sym (state-append (o.start sh) x (a ∷ []))

  -- a log with one more operation
  pub log_grows : (s : State) (x : List Op) (a : Op) → IsLog o s x → IsLegal o s a
      → IsTrue (o.ranged a) → o.shape (o.next s a) ≡ o.shape s → IsLog o (o.next s a) (x ++ a ∷ [])
  log_grows s x a h k r e = record {
    allowed = subst (λ (sh : Shape). IsAllowed o sh (x ++ a ∷ [])) (sym e)
        (one_more (o.shape s) s x a h.is h.allowed k);
    is = state_one_more (o.shape s) s x a h.is
        ∙ ap (λ (sh : Shape). state_after o sh (x ++ a ∷ [])) (sym e);
    ranged = ranged-append x (a ∷ []) h.ranged (r, tt);
  }

  -- A log stays allowed with an operation after it exactly if that one is legal at its end.
  pub legal_at_end : (s : State) (x : List Op) (a : Op) (seen : Shape × List Op)
      → (o.shape s, x) ≡ seen → IsLog o s x → IsTrue (o.fits seen.0 a)
      → (o.gives s a ≡ o.recorded a) ↔ IsAllowed o seen.0 (seen.1 ++ a ∷ [])
  legal_at_end s x a seen e h =
      let P : Shape × List Op → Type 0 = λ p. IsTrue (o.fits p.0 a)
      → (o.gives s a ≡ o.recorded a) ↔ IsAllowed o p.0 (p.1 ++ a ∷ []) in
      subst P e (λ f. (
        (λ k. one_more (o.shape s) s x a h.is h.allowed (f, k)),
        (λ k. (last_is_legal (o.shape s) s x a h.is k).1),
      ))

  -- If a log is allowed with an operation at its end, this operation is legal in its state.
  pub legal_of_allowed : (s : State) (x : List Op) (a : Op) (seen : Shape × List Op)
      → (o.shape s, x) ≡ seen → IsLog o s x → IsAllowed o seen.0 (seen.1 ++ a ∷ []) → IsLegal o s a
  legal_of_allowed s x a seen e h =
      let P : Shape × List Op → Type 0 = λ p. IsAllowed o p.0 (p.1 ++ a ∷ []) → IsLegal o s a in
      subst P e (λ k. last_is_legal (o.shape s) s x a h.is k)

  -- The operations of a log with one more operation.
  pub seen_one_more : (s t : State) (x y : List Op) (a : Op) (seen : Shape × List Op)
      → (o.shape s, x) ≡ seen → o.shape t ≡ o.shape s → y ≡ x ++ a ∷ []
      → ◌≡◌ {A = Shape × List Op} (o.shape t, y) (seen.0, seen.1 ++ a ∷ [])
  seen_one_more s t x y a seen e f k =
      let P : Shape × List Op → Type 0 =
      λ p. ◌≡◌ {A = Shape × List Op} (o.shape t, y) (p.0, p.1 ++ a ∷ []) in
      subst P e (rw (f, k) refl)

  -- A pair that commutes in each reached state swaps.
  pub commuting_swap : (a b : Op) → Commutes o a b → Swaps o a b
  commuting_swap a b h shape =
      record {
        always = λ before after k.
            let first = allowed-first (o.start shape) before (a ∷ b ∷ after) k in
            let second = allowed-second (o.start shape) before (a ∷ b ∷ after) k in
            let c = h shape before first second.0 second.1.0 in
            allowed-append (o.start shape) before (b ∷ a ∷ after) first
            (c.0, (c.1, subst (λ (s : State). AllowedFrom o s after) (sym c.2) second.1.1));
      }

  -- lists that refute a pair show that it swaps in no shape that both fit
  pub refuted_nowhere : (a b : Op) (lists : List Op × List Op) → IsRefutedBy o a b (Some lists)
      → SwapsNowhere o a b
  refuted_nowhere a b lists r shape f g swaps =
      r.changed shape f g (swaps.always lists.0 lists.1 (r.allowed shape f g))

  -- an allowed list leaves a state
  pub allowed_is_state : (s : State) (x : List Op)
      → ((t : State) (a : Op) → o.upkeep.IsState t → IsLegal o t a → o.upkeep.IsState (o.next t a))
      → o.upkeep.IsState s → AllowedFrom o s x → o.upkeep.IsState (state_from o s x)
  allowed_is_state s [] keeps h k = h
  allowed_is_state s (a ∷ x) keeps h k = allowed_is_state (o.next s a) x keeps (keeps s a h k.0) k.1

  -- If each legal operation keeps the shape, so does an allowed list.
  pub keeps_shape : ((s : State) (a : Op) → IsLegal o s a → o.shape (o.next s a) ≡ o.shape s)
      → (s : State) (l : List Op) → AllowedFrom o s l → o.shape (state_from o s l) ≡ o.shape s
  keeps_shape keeps s [] h = refl
  keeps_shape keeps s (a ∷ l) h = keeps_shape keeps (o.next s a) l h.1 ∙ keeps s a h.0

  -- from this state on the pair may be turned, whatever follows
  abbrev pub MayTurn : State → Op → Op → Type 0
  MayTurn s a b = (l : List Op) → AllowedFrom o s (a ∷ b ∷ l) → AllowedFrom o s (b ∷ a ∷ l)

  -- A pair swaps exactly if it may be turned in each state that is reached.
  pub turned_there : (a b : Op) → Swaps o a b → (sh : Shape) (before : List Op)
      → IsAllowed o sh before → MayTurn (state_after o sh before) a b
  turned_there a b swaps sh before h l k =
      allowed-second (o.start sh) before (b ∷ a ∷ l)
      ((swaps sh).always before l (allowed-append (o.start sh) before (a ∷ b ∷ l) h k))

  -- A pair swaps if it may be turned in each state that an allowed list reaches.
  pub swaps_where_turned : (a b : Op)
      → ((sh : Shape) (before : List Op) → IsAllowed o sh before
      → MayTurn (state_after o sh before) a b)
      → Swaps o a b
  swaps_where_turned a b turned sh =
      record {
        always = λ before l h.
            let first = allowed-first (o.start sh) before (a ∷ b ∷ l) h in
            allowed-append (o.start sh) before (b ∷ a ∷ l) first
            (turned sh before first l (allowed-second (o.start sh) before (a ∷ b ∷ l) h));
      }
