-- The operations that are allowed at a place.
use Rattle.std.specs.Prelude.{◌≡◌, ◌≢◌, ◌⊎◌, ℕ, ◌==◌, Bool, true, false, cond, List, [], ◌∷◌, ◌++◌}
use Rattle.std.proofs.Common.{refl, sym, ap, subst, ◌∙◌}
use Rattle.std.proofs.lemmas.Bool.{eq-eqb}
use Rattle.std.proofs.lemmas.Bool.Decides.{eqb_tells}
use Rattle.std.proofs.lemmas.List.{append-nil}
use Rattle.std.proofs.lemmas.List.Elements.{filter-append}
use mathlib.Core.Logic.{inl, inr}
use Rattle.pp_model.specs.Lists.{In}
use Rattle.pp_model.specs.Object.{Object, Allowed}
use Rattle.pp_model.proofs.Trace.{keep_all}
use Rattle.pp_laws_summary.specs.Places.{PlacesPart, PlacesSwap, ops_at}
use Rattle.pp_laws_summary.proofs.Entries.{same_or_not}
use Rattle.pp_laws_summary.proofs.Relog.{filter_none}

-- A test for equal numbers is false for two that differ.
pub not_eq : (a b : ℕ) → a ≢ b → (a == b) ≡ false
not_eq a b n = elim (eqb_tells a b) [ inl r ↦ absurd (n r.1) | inr r ↦ r.0 ]

-- all operations are at the place
abbrev pub AllAt : {Op : Type 0} → (Op → ℕ) → ℕ → List Op → Type 0
AllAt {Op} place o m = (a : Op) → In a m → place a ≡ o

-- The operations at a place of two lists, one after another.
pub at-append : {Op : Type 0} (place : Op → ℕ) (o : ℕ) (x y : List Op) → ops_at place o (x ++ y) ≡ ops_at place o x ++ ops_at place o y
at-append {Op} place o x y = filter-append (λ (a : Op). place a == o) x y

-- The operations at a place are all, if all are there.
pub at_all : {Op : Type 0} (place : Op → ℕ) (o : ℕ) (m : List Op) → AllAt place o m → ops_at place o m ≡ m
at_all {Op} place o m h = keep_all (λ (a : Op). place a == o) m (λ a i. eq-eqb (place a) o (h a i))

-- They are none, if none is there.
pub at_none : {Op : Type 0} (place : Op → ℕ) (o : ℕ) (m : List Op) → ((a : Op) → In a m → place a ≢ o) → ops_at place o m ≡ []
at_none {Op} place o m h = filter_none (λ (a : Op). place a == o) m (λ a i. not_eq (place a) o (h a i))

module _ {Op State : Type 0} (O : Object Op State) (place : Op → ℕ) (part : PlacesPart O place) where
  -- operations at one place are allowed after a list if they are after its operations there
  pub whole_from_part : (o : ℕ) (l m : List Op) → AllAt place o m → Allowed O l → Allowed O (ops_at place o l ++ m) → Allowed O (l ++ m)
  whole_from_part o l m at h k = (part.parts (l ++ m)).1 (λ p. subst (λ (w : List Op). Allowed O w) (sym (at-append place p l m)) (by p (same_or_not o p)))
    where
      by : (p : ℕ) → (o ≡ p) ⊎ (o ≢ p) → Allowed O (ops_at place p l ++ ops_at place p m)
      by p (inl e) = subst (λ (q : ℕ). Allowed O (ops_at place q l ++ ops_at place q m)) e (subst (λ (w : List Op). Allowed O (ops_at place o l ++ w)) (sym (at_all place o m at)) k)
      by p (inr n) = subst (λ (w : List Op). Allowed O (ops_at place p l ++ w)) (sym (at_none place p m (λ a i e. n (sym (at a i) ∙ e))))
          (subst (λ (w : List Op). Allowed O w) (sym (append-nil (ops_at place p l))) ((part.parts l).0 h p))

  -- Operations at a place that are allowed after a list are allowed after the list's operations at that place.
  pub part_from_whole : (o : ℕ) (l m : List Op) → AllAt place o m → Allowed O (l ++ m) → Allowed O (ops_at place o l ++ m)
  part_from_whole o l m at h = subst (λ (w : List Op). Allowed O (ops_at place o l ++ w)) (at_all place o m at)
      (subst (λ (w : List Op). Allowed O w) (at-append place o l m) ((part.parts (l ++ m)).0 h o))

  -- operations of different places swap
  turned : (a b : Op) → place a ≢ place b → (p : ℕ) (k : List Op) → ops_at place p (a ∷ b ∷ k) ≡ ops_at place p (b ∷ a ∷ k)
  turned a b n p k = elim (same_or_not (place a) p) [
    | inl e ↦
        let h : (place b == p) ≡ false = not_eq (place b) p (λ f. n (e ∙ sym f)) in
        both (place a == p) (place b == p) (ops_at place p k) (inr h)
    | inr e ↦ both (place a == p) (place b == p) (ops_at place p k) (inl (not_eq (place a) p e))
  ]
    where
      both : (u v : Bool) (w : List Op) → (u ≡ false) ⊎ (v ≡ false) → cond u (a ∷ cond v (b ∷ w) w) (cond v (b ∷ w) w) ≡ cond v (b ∷ cond u (a ∷ w) w) (cond u (a ∷ w) w)
      both true true w (inl e) = absurd (cc)
      both true true w (inr e) = absurd (cc)
      both true false w h = refl
      both false true w h = refl
      both false false w h = refl

  -- Operations at different places swap.
  pub swap_apart : PlacesSwap O place
  swap_apart =
      record {
        apart = λ a b n. record {
          always = λ before after h. (part.parts (before ++ b ∷ a ∷ after)).1 (λ p. subst (λ (w : List Op). Allowed O w)
              (at-append place p before (a ∷ b ∷ after) ∙ ap (λ (w : List Op). ops_at place p before ++ w) (turned a b n p after) ∙ sym (at-append place p before (b ∷ a ∷ after)))
              ((part.parts (before ++ a ∷ b ∷ after)).0 h p));
        };
      }
