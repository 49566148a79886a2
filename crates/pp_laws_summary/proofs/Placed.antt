-- A kind of several objects comes apart at its places.
use Rattle.std.specs.Prelude.{◌≡◌, ◌≢◌, ℕ, IsTrue, Bool, cond, List, [], ◌∷◌}
use Rattle.std.proofs.Common.{refl, sym, ap, subst, ◌∙◌}
use Rattle.std.proofs.lemmas.Bool.{eq-eqb}
use mathlib.Core.Logic.{inl, inr}
use Rattle.pp_kind.specs.Object.{Object, IsLegal, AllowedFrom, IsLawful, IsPlaced, rules_of}
use Rattle.pp_laws_summary.specs.Places.{PlacesPart, ops_at}
use Rattle.pp_laws_summary.proofs.Entries.{same_or_not}
use Rattle.pp_laws_summary.proofs.Parts.{not_eq}

module _ {Shape State Op Undo : Type 0} (o : Object Shape State Op Undo) (place : Op → ℕ) (SameAt : ℕ → State → State → Type 0) (laws : IsLawful o) (places : IsPlaced o place SameAt) where
  here : (p : ℕ) (a : Op) (x : List Op) → place a ≡ p → ops_at place p (a ∷ x) ≡ a ∷ ops_at place p x
  here p a x e = ap (λ (b : Bool). cond b (a ∷ ops_at place p x) (ops_at place p x)) (eq-eqb (place a) p e)

  elsewhere : (p : ℕ) (a : Op) (x : List Op) → place a ≢ p → ops_at place p (a ∷ x) ≡ ops_at place p x
  elsewhere p a x n = ap (λ (b : Bool). cond b (a ∷ ops_at place p x) (ops_at place p x)) (not_eq (place a) p n)

  -- An operation at the place leaves states that are the same there.
  pub next_at : (p : ℕ) (s t : State) (a : Op) → place a ≡ p → SameAt p s t → SameAt p (o.next s a) (o.next t a)
  next_at p s t a e = subst (λ (q : ℕ). SameAt q s t → SameAt q (o.next s a) (o.next t a)) e (places.next_there s t a)

  -- An operation at another place leaves it as it was.
  pub next_off : (p : ℕ) (s t : State) (a : Op) → place a ≢ p → SameAt p s t → SameAt p (o.next s a) t
  next_off p s t a n h = places.joined p (o.next s a) s t (places.turned p s (o.next s a) (places.next_elsewhere s a p (λ e. n (sym e)))) h

  legal_at : (p : ℕ) (s t : State) (a : Op) → place a ≡ p → SameAt p s t → o.shape s ≡ o.shape t → IsLegal o s a → IsLegal o t a
  legal_at p s t a e h k l =
      (subst (λ (sh : Shape). IsTrue (o.fits sh a)) k l.0, sym (subst (λ (q : ℕ). SameAt q s t → o.gives s a ≡ o.gives t a) e (places.gives_there s t a) h) ∙ l.1)

  -- the operations of a place are allowed if the whole list is, from a state that is the same there
  part : (p : ℕ) (s t : State) (x : List Op) → SameAt p s t → o.shape s ≡ o.shape t → AllowedFrom o s x → AllowedFrom o t (ops_at place p x)
  part p s t [] h k l = tt
  part p s t (a ∷ x) h k l =
      let next = laws.next_shape s a l.0 in
      elim (same_or_not (place a) p) [
        | inl e ↦
            let legal = legal_at p s t a e h k l.0 in
            subst (λ (w : List Op). AllowedFrom o t w) (sym (here p a x e))
            (legal, part p (o.next s a) (o.next t a) x (next_at p s t a e h) (next ∙ k ∙ sym (laws.next_shape t a legal)) l.1)
        | inr n ↦ subst (λ (w : List Op). AllowedFrom o t w) (sym (elsewhere p a x n)) (part p (o.next s a) t x (next_off p s t a n h) (next ∙ k) l.1)
      ]

  -- from another state that is the same there
  moved : (p : ℕ) (s t : State) (x : List Op) → SameAt p s t → o.shape s ≡ o.shape t → AllowedFrom o s (ops_at place p x) → AllowedFrom o t (ops_at place p x)
  moved p s t [] h k l = tt
  moved p s t (a ∷ x) h k l = elim (same_or_not (place a) p) [
    | inl e ↦
        let m = subst (λ (w : List Op). AllowedFrom o s w) (here p a x e) l in
        let legal = legal_at p s t a e h k m.0 in
        subst (λ (w : List Op). AllowedFrom o t w) (sym (here p a x e))
        (legal, moved p (o.next s a) (o.next t a) x (next_at p s t a e h) (laws.next_shape s a m.0 ∙ k ∙ sym (laws.next_shape t a legal)) m.1)
    | inr n ↦ subst (λ (w : List Op). AllowedFrom o t w) (sym (elsewhere p a x n)) (moved p s t x h k (subst (λ (w : List Op). AllowedFrom o s w) (elsewhere p a x n) l))
  ]

  -- a list is allowed if the operations of each place are
  whole : (s : State) (x : List Op) → ((p : ℕ) → AllowedFrom o s (ops_at place p x)) → AllowedFrom o s x
  whole s [] h = tt
  whole s (a ∷ x) h =
      let first : AllowedFrom o s (a ∷ ops_at place (place a) x) = subst (λ (w : List Op). AllowedFrom o s w) (here (place a) a x refl) (h (place a)) in
      let next = laws.next_shape s a first.0 in (
        first.0,
        whole (o.next s a) x (λ p. elim (same_or_not (place a) p) [
          | inl e ↦ (subst (λ (w : List Op). AllowedFrom o s w) (here p a x e) (h p)).1
          | inr n ↦ moved p s (o.next s a) x (places.turned p (o.next s a) s (next_off p s s a n (places.same p s))) (sym next) (subst (λ (w : List Op). AllowedFrom o s w) (elsewhere p a x n) (h p))
        ]),
      )

  -- A `Placed` kind is made of objects at places.
  pub parts_of : (shape : Shape) → PlacesPart (rules_of o shape) place
  parts_of shape =
      record {
        parts = λ l. (
          (λ h p. part p (o.start shape) (o.start shape) l (places.same p (o.start shape)) refl h),
          (λ h. whole (o.start shape) l h),
        );
      }
