-- The meaning of `reaches`.
use Rattle.std.proofs.Common.{◌≡◌, ◌⊎◌, ℕ, ◌+◌, Bool, true, false, ◌&&◌, List, [], ◌∷◌, ◌++◌, refl}
use Rattle.std.proofs.Common.{ap, sym, ◌∙◌, inl, inr}
use Rattle.pp_model.specs.Body.{Tree, Trees, Skip, One, Seq, Alt, Star, NoPart, Part, Word}
use Rattle.pp_model.specs.Body.{WordInTurn, WordOfSome, Call, Pattern}
use Rattle.pp_core.specs.Trees.{nodes}
use Rattle.pp_body.specs.Positions.{has, reaches, reaches_in_turn, reaches_some, Rest, RestInTurn}
use Rattle.pp_body.specs.Positions.{RestOfSome}
use Rattle.pp_body.proofs.Patterns.{and_left, and_right, both, or_cases, or_left, or_right}
use Rattle.pp_body.proofs.Patterns.{some_call}

-- The calls that may follow, from the set or from the start if that is entered.
abbrev pub Goes : Tree → ℕ → ℕ → Bool → List Call → Type 0
Goes b at set m v = ((m ≡ true) × Word b v) ⊎ Rest b at set v

-- Calls that may follow in parts one after another.
abbrev pub GoesInTurn : Trees → ℕ → ℕ → Bool → List Call → Type 0
GoesInTurn bs at set m v = ((m ≡ true) × WordInTurn bs v) ⊎ RestInTurn bs at set v

-- Calls that may follow in any one of the parts.
abbrev pub GoesOfSome : Trees → ℕ → ℕ → Bool → List Call → Type 0
GoesOfSome bs at set m v = ((m ≡ true) × WordOfSome bs v) ⊎ RestOfSome bs at set v

-- There are calls only if more are allowed.
abbrev pub Allowed : Bool → List Call → Type 0
Allowed more v = (more ≡ true) ⊎ (v ≡ [])

-- If two joined lists are empty, so is the first.
pub left_is_empty : {A : Type 0} (u x : List A) → u ++ x ≡ [] → u ≡ []
left_is_empty [] x e = refl
left_is_empty (c ∷ u) x e = absurd (cc)

-- If two joined lists are empty, so is the second.
pub right_is_empty : {A : Type 0} (u x : List A) → u ++ x ≡ [] → x ≡ []
right_is_empty [] x e = e
right_is_empty (c ∷ u) x e = absurd (cc)

-- A list with nothing more at its end is the list.
pub nothing_more : {A : Type 0} (v : List A) → v ≡ v ++ []
nothing_more [] = refl
nothing_more (c ∷ v) = ap (λ w. c ∷ w) (nothing_more v)

allowed_both : (more : Bool) (u x : List Call) → Allowed more u → Allowed more x → Allowed more (u ++ x)
allowed_both more u x (inl e) q = inl e
allowed_both more u x (inr e) (inl f) = inl f
allowed_both more u x (inr e) (inr f) = inr (rw (e, f) refl)

allowed_left : (more : Bool) (v u x : List Call) → v ≡ u ++ x → Allowed more v → Allowed more u
allowed_left more v u x e (inl h) = inl h
allowed_left more v u x e (inr h) = inr (left_is_empty u x (sym e ∙ h))

allowed_right : (more : Bool) (v u x : List Call) → v ≡ u ++ x → Allowed more v → Allowed more x
allowed_right more v u x e (inl h) = inl h
allowed_right more v u x e (inr h) = inr (right_is_empty u x (sym e ∙ h))

abbrev Reached : Bool → (List Call → Type 0) → Type 0
Reached more P = (v : List Call) × Allowed more v × P v

star_reached : (more : Bool) (b : Tree) (at set : ℕ) (m : Bool) → Reached more (λ v. Goes b at set false v) → Reached more (λ v. Goes (Star b) at set m v)
star_reached more b at set m (v, a, inl h) = absurd (cc (h.0))
star_reached more b at set m (v, a, inr r) = (v, a, inr (v, [], nothing_more v, r, ([], refl, tt)))

turn_reached : (more : Bool) (b : Tree) (bs : Trees) (at set : ℕ) (m : Bool) (x : List Call) → Allowed more x → WordInTurn bs x
    → Reached more (λ u. Goes b at set m u) → Reached more (λ v. GoesInTurn (Part b bs) at set m v)
turn_reached more b bs at set m x ax wx (u, au, inl h) = (u ++ x, allowed_both more u x au ax, inl (h.0, (u, x, refl, h.1, wx)))
turn_reached more b bs at set m x ax wx (u, au, inr r) = (u ++ x, allowed_both more u x au ax, inr (inl (u, x, refl, r, wx)))

one_reached : (more : Bool) (p : Pattern) (at set : ℕ) (m : Bool) → (more && m) ≡ true → Reached more (λ v. Goes (One p) at set m v)
one_reached more p at set m h =
    let some = some_call p in (some.0 ∷ [], inl (and_left more m h), inl (and_right more m h, (some.0, refl, some.1)))

mutual
  -- If `reaches` is true of a body, some calls that are permitted lead to its end.
  pub reached : (more : Bool) (b : Tree) (at set : ℕ) (m : Bool) → reaches more b at set m ≡ true → Reached more (λ v. Goes b at set m v)
  reached more Skip at set m h = ([], inr refl, inl (h, refl))
  reached more (One p) at set m h =
      elim (or_cases (has set at) (more && m) h) [ inl e ↦ ([], inr refl, inr (e, refl)) | inr e ↦ one_reached more p at set m e ]
  reached more (Seq bs) at set m h = reached_in_turn more bs at set m h
  reached more (Alt bs) at set m h = reached_by_some more bs at set m h
  reached more (Star b) at set m h =
      elim (or_cases m (reaches more b at set false) h) [
        | inl e ↦ ([], inr refl, inl (e, ([], refl, tt)))
        | inr e ↦ star_reached more b at set m (reached more b at set false e)
      ]

  -- If `reaches_in_turn` is true of parts, some calls that are permitted lead to their end.
  pub reached_in_turn : (more : Bool) (bs : Trees) (at set : ℕ) (m : Bool) → reaches_in_turn more bs at set m ≡ true → Reached more (λ v. GoesInTurn bs at set m v)
  reached_in_turn more NoPart at set m h = ([], inr refl, inl (h, refl))
  reached_in_turn more (Part b bs) at set m h =
      let rest = reached_in_turn more bs (at + nodes b) set (reaches more b at set m) h in
      elim rest.2 [
        | inl e ↦ turn_reached more b bs at set m rest.0 rest.1 e.1 (reached more b at set m e.0)
        | inr r ↦ (rest.0, rest.1, inr (inr r))
      ]

  -- If `reaches_some` is true of parts, some calls that are permitted lead to the end of one.
  pub reached_by_some : (more : Bool) (bs : Trees) (at set : ℕ) (m : Bool) → reaches_some more bs at set m ≡ true → Reached more (λ v. GoesOfSome bs at set m v)
  reached_by_some more NoPart at set m h = absurd (cc)
  reached_by_some more (Part b bs) at set m h =
      elim (or_cases (reaches more b at set m) (reaches_some more bs (at + nodes b) set m) h) [
        | inl e ↦ let r = reached more b at set m e in (r.0, r.1, elim r.2 [ inl w ↦ inl (w.0, inl w.1) | inr w ↦ inr (inl w) ])
        | inr e ↦ let r = reached_by_some more bs (at + nodes b) set m e in (r.0, r.1, elim r.2 [ inl w ↦ inl (w.0, inr w.1) | inr w ↦ inr (inr w) ])
      ]

mutual
  -- If permitted calls lead to the end of a body, `reaches` is true.
  pub reaching : (more : Bool) (b : Tree) (at set : ℕ) (m : Bool) (v : List Call) → Allowed more v → Goes b at set m v → reaches more b at set m ≡ true
  reaching more Skip at set m v a (inl h) = h.0
  reaching more Skip at set m v a (inr r) = elim r [ ]
  reaching more (One p) at set m v a (inl h) = or_right (has set at) (more && m) (both more m (elim a [ inl e ↦ e | inr e ↦ absurd (cc (sym e ∙ h.1.1)) ]) h.0)
  reaching more (One p) at set m v a (inr r) = or_left (has set at) (more && m) r.0
  reaching more (Seq bs) at set m v a g = reaching_in_turn more bs at set m v a g
  reaching more (Alt bs) at set m v a g = reaching_by_some more bs at set m v a g
  reaching more (Star b) at set m v a (inl h) = or_left m (reaches more b at set false) h.0
  reaching more (Star b) at set m v a (inr r) = or_right m (reaches more b at set false) (reaching more b at set false r.0 (allowed_left more v r.0 r.1 r.2 a) (inr r.3))

  -- If permitted calls lead to the end of parts in turn, `reaches_in_turn` is true.
  pub reaching_in_turn : (more : Bool) (bs : Trees) (at set : ℕ) (m : Bool) (v : List Call) → Allowed more v → GoesInTurn bs at set m v → reaches_in_turn more bs at set m ≡ true
  reaching_in_turn more NoPart at set m v a (inl h) = h.0
  reaching_in_turn more NoPart at set m v a (inr r) = elim r [ ]
  reaching_in_turn more (Part b bs) at set m v a (inl h) =
      let w = h.1 in
      reaching_in_turn more bs (at + nodes b) set (reaches more b at set m) w.1 (allowed_right more v w.0 w.1 w.2 a)
      (inl (reaching more b at set m w.0 (allowed_left more v w.0 w.1 w.2 a) (inl (h.0, w.3)), w.4))
  reaching_in_turn more (Part b bs) at set m v a (inr (inl w)) =
      reaching_in_turn more bs (at + nodes b) set (reaches more b at set m) w.1 (allowed_right more v w.0 w.1 w.2 a)
      (inl (reaching more b at set m w.0 (allowed_left more v w.0 w.1 w.2 a) (inr w.3), w.4))
  reaching_in_turn more (Part b bs) at set m v a (inr (inr r)) = reaching_in_turn more bs (at + nodes b) set (reaches more b at set m) v a (inr r)

  -- If permitted calls lead to the end of one of some parts, `reaches_some` is true.
  pub reaching_by_some : (more : Bool) (bs : Trees) (at set : ℕ) (m : Bool) (v : List Call) → Allowed more v → GoesOfSome bs at set m v → reaches_some more bs at set m ≡ true
  reaching_by_some more NoPart at set m v a (inl h) = elim (h.1) [ ]
  reaching_by_some more NoPart at set m v a (inr r) = elim r [ ]
  reaching_by_some more (Part b bs) at set m v a (inl (e, inl w)) = or_left _ _ (reaching more b at set m v a (inl (e, w)))
  reaching_by_some more (Part b bs) at set m v a (inl (e, inr w)) = or_right _ _ (reaching_by_some more bs (at + nodes b) set m v a (inl (e, w)))
  reaching_by_some more (Part b bs) at set m v a (inr (inl r)) = or_left _ _ (reaching more b at set m v a (inr r))
  reaching_by_some more (Part b bs) at set m v a (inr (inr r)) = or_right _ _ (reaching_by_some more bs (at + nodes b) set m v a (inr r))
