use Rattle.std.proofs.Common.{◌≡◌, ℕ, IsTrue, List, [], ◌∷◌, refl, sym, ◌∙◌, ap, subst, inl, inr}
use Rattle.pp_core.specs.declared.entry.Item.{Item}
use Rattle.pp_kind.specs.Object.{Object, IsLegal, AllowedFrom, IsLawful, IsPlaced, state_from}
use Rattle.pp_kind.proofs.Places.{shape_stays}
use Rattle.pp_model.specs.Object.{ops}
use Rattle.pp_log.specs.Parts.{there}
use Rattle.pp_log.specs.Runs.{kept_along}
use Rattle.pp_log.proofs.Parted.{is_at, there_at, there_off, there_twice}

-- The effect of a list at a place depends on the items of this place alone.
module _ {Shape State Op Undo : Type 0} (o : Object Shape State Op Undo) (place : Op → ℕ) (SameAt : ℕ → State → State → Type 0) (laws : IsLawful o) (places : IsPlaced o place SameAt) where
  -- States that are the same at a place stay so after an operation of this place.
  pub next_at : (p : ℕ) (s t : State) (a : Op) → place a ≡ p → SameAt p s t → SameAt p (o.next s a) (o.next t a)
  next_at p s t a e = subst (λ (q : ℕ). SameAt q s t → SameAt q (o.next s a) (o.next t a)) e (places.next_there s t a)

  -- An operation of another place leaves a place as it was.
  pub next_off : (p : ℕ) (s t : State) (a : Op) → (place a ≡ p → ⊥) → SameAt p s t → SameAt p (o.next s a) t
  next_off p s t a n h = places.joined p (o.next s a) s t (places.turned p s (o.next s a) (places.next_elsewhere s a p (λ e. n (sym e)))) h

  -- An operation has one result in states that are the same at its place.
  pub gives_at : (p : ℕ) (s t : State) (a : Op) → place a ≡ p → SameAt p s t → o.gives s a ≡ o.gives t a
  gives_at p s t a e = subst (λ (q : ℕ). SameAt q s t → o.gives s a ≡ o.gives t a) e (places.gives_there s t a)

  -- An operation keeps one undo value in states that are the same at its place.
  pub kept_at : (p : ℕ) (s t : State) (a : Op) → place a ≡ p → SameAt p s t → o.upkeep.kept s a ≡ o.upkeep.kept t a
  kept_at p s t a e = subst (λ (q : ℕ). SameAt q s t → o.upkeep.kept s a ≡ o.upkeep.kept t a) e (places.kept_there s t a)

  -- A legal operation is legal in each state of the shape that is the same at its place.
  pub legal_at : (p : ℕ) (s t : State) (a : Op) → place a ≡ p → SameAt p s t → o.shape s ≡ o.shape t → IsLegal o s a → IsLegal o t a
  legal_at p s t a e h k l =
      (subst (λ (sh : Shape). IsTrue (o.fits sh a)) k l.0, sym (gives_at p s t a e h) ∙ l.1)

  -- the items of a place leave the place as the whole list does
  pub same_run : (p : ℕ) (s t : State) (x : List (Item Op)) → SameAt p s t → SameAt p (state_from o s (ops x)) (state_from o t (ops (there place p x)))
  same_run p s t [] h = h
  same_run p s t (e ∷ x) h =
      let P : List (Item Op) → Type 0 = λ z. SameAt p (state_from o (o.next s e.op) (ops x)) (state_from o t (ops z)) in
      elim (is_at place e p) [
        | inl k ↦ subst P (sym (there_at place p e x k)) (same_run p (o.next s e.op) (o.next t e.op) x (next_at p s t e.op k h))
        | inr k ↦ subst P (sym (there_off place p e x k)) (same_run p (o.next s e.op) t x (next_off p s t e.op k h))
      ]

  -- The items of a place are allowed if the whole list is.
  pub allowed_there : (p : ℕ) (s t : State) (x : List (Item Op)) → SameAt p s t → o.shape s ≡ o.shape t → AllowedFrom o s (ops x) → AllowedFrom o t (ops (there place p x))
  allowed_there p s t [] h k l = tt
  allowed_there p s t (e ∷ x) h k l =
      let P : List (Item Op) → Type 0 = λ z. AllowedFrom o t (ops z) in
      let next = laws.next_shape s e.op l.0 in
      elim (is_at place e p) [
        | inl i ↦ let legal = legal_at p s t e.op i h k l.0 in
            subst P (sym (there_at place p e x i)) (legal, allowed_there p (o.next s e.op) (o.next t e.op) x (next_at p s t e.op i h) (next ∙ k ∙ sym (laws.next_shape t e.op legal)) l.1)
        | inr i ↦ subst P (sym (there_off place p e x i)) (allowed_there p (o.next s e.op) t x (next_off p s t e.op i h) (next ∙ k) l.1)
      ]

  -- from a state that is the same there
  pub allowed_same : (p : ℕ) (s t : State) (x : List (Item Op)) → SameAt p s t → o.shape s ≡ o.shape t → AllowedFrom o s (ops (there place p x)) → AllowedFrom o t (ops (there place p x))
  allowed_same p s t x h k l = subst (λ (z : List (Item Op)). AllowedFrom o t (ops z)) (there_twice place p x) (allowed_there p s t (there place p x) h k l)

  -- The items of a place keep the same values from states that are the same at the place.
  pub kept_same : (p : ℕ) (s t : State) (x : List (Item Op)) → SameAt p s t → kept_along o s (ops (there place p x)) ≡ kept_along o t (ops (there place p x))
  kept_same p s t [] h = refl
  kept_same p s t (e ∷ x) h =
      let P : List (Item Op) → Type 0 = λ z. kept_along o s (ops z) ≡ kept_along o t (ops z) in
      elim (is_at place e p) [
        | inl i ↦ subst P (sym (there_at place p e x i)) (ap (λ (u : Undo). u ∷ kept_along o (o.next s e.op) (ops (there place p x))) (kept_at p s t e.op i h) ∙ ap (λ (us : List Undo). o.upkeep.kept t e.op ∷ us) (kept_same p (o.next s e.op) (o.next t e.op) x (next_at p s t e.op i h)))
        | inr i ↦ subst P (sym (there_off place p e x i)) (kept_same p s t x h)
      ]

  -- A list is allowed if the items of each place are.
  pub allowed_by_places : (s : State) (x : List (Item Op)) → ((p : ℕ) → AllowedFrom o s (ops (there place p x))) → AllowedFrom o s (ops x)
  allowed_by_places s [] h = tt
  allowed_by_places s (e ∷ x) h =
      let here : AllowedFrom o s (ops (e ∷ there place (place e.op) x)) = subst (λ (z : List (Item Op)). AllowedFrom o s (ops z)) (there_at place (place e.op) e x refl) (h (place e.op)) in
      let t = o.next s e.op in
      let next = laws.next_shape s e.op here.0 in (
        here.0,
        allowed_by_places t x (λ p. elim (is_at place e p) [
          | inl i ↦ (subst (λ (z : List (Item Op)). AllowedFrom o s (ops z)) (there_at place p e x i) (h p)).1
          | inr i ↦ allowed_same p s t x (places.turned p t s (next_off p s s e.op i (places.same p s))) (sym next) (subst (λ (z : List (Item Op)). AllowedFrom o s (ops z)) (there_off place p e x i) (h p))
        ]),
      )

  -- lists with the same items at each place lead to one state
  pub state_by_places : (s : State) (x y : List (Item Op)) → AllowedFrom o s (ops x) → AllowedFrom o s (ops y) → ((p : ℕ) → there place p x ≡ there place p y) → state_from o s (ops x) ≡ state_from o s (ops y)
  state_by_places s x y h k same =
      let u = state_from o s (ops x) in
      let v = state_from o s (ops y) in
      places.everywhere u v (shape_stays o laws s (ops x) h ∙ sym (shape_stays o laws s (ops y) k))
      (λ p.
      let w = state_from o s (ops (there place p x)) in
      let there_x : SameAt p u w = same_run p s s x (places.same p s) in
      let there_y : SameAt p v w = subst (λ (z : List (Item Op)). SameAt p v (state_from o s (ops z))) (sym (same p)) (same_run p s s y (places.same p s)) in
      places.joined p u w v there_x (places.turned p v w there_y))
