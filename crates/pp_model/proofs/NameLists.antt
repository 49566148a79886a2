-- Lists of names, with one more and with one less.
use Rattle.std.specs.Prelude.{◌≡◌, ◌≢◌, Bool, true, false, cond, ◌||◌, List, [], ◌∷◌, ◌++◌}
use Rattle.std.specs.List.{list_any}
use Rattle.std.proofs.Common.{refl, sym, ap, subst, ◌∙◌}
use mathlib.Core.Logic.{inl, inr}
use Rattle.pp_model.specs.Lists.{In, Before}
use Rattle.pp_model.specs.Names.{Name, ◌=ⁿ◌}
use Rattle.pp_model.proofs.Lists.{in_cases, before_cases, before_left, before_right, before_across}
use Rattle.pp_model.proofs.Names.{eq-names, names_tell}

-- The comparison of two names does not depend on their order.
pub names_turned : (a b : Name) → (a =ⁿ b) ≡ (b =ⁿ a)
names_turned a b = elim (names_tell a b) [
  | inl r ↦ r.0 ∙ sym (eq-names b a (sym r.1))
  | inr r ↦ elim (names_tell b a) [ inl q ↦ absurd (r.1 (sym q.1)) | inr q ↦ r.0 ∙ sym q.0 ]
]

-- If no name of a list is p, the search for p finds none.
pub any_none : (l : List Name) (p : Name) → ((q : Name) → In q l → q ≢ p) → list_any (λ q. q =ⁿ p) l ≡ false
any_none [] p n = refl
any_none (q ∷ l) p n = elim (names_tell q p) [
  | inl r ↦ absurd (n q (inl refl) r.1)
  | inr r ↦ ap (λ (b : Bool). b || list_any (λ q. q =ⁿ p) l) r.0 ∙ any_none l p (λ z i. n z (inr i))
]

-- If the search for p finds none, p is not in the list.
pub any_not : (l : List Name) (p : Name) → list_any (λ q. q =ⁿ p) l ≡ false → In p l → ⊥
any_not [] p e i = elim i [ ]
any_not (q ∷ l) p e (inl h) = let k : true ≡ false = sym (ap (λ (b : Bool). b || list_any (λ q. q =ⁿ p) l) (eq-names q p (sym h))) ∙ e in cc
any_not (q ∷ l) p e (inr i) = elim (names_tell q p) [
  | inl r ↦ (let k : true ≡ false = sym (ap (λ (b : Bool). b || list_any (λ q. q =ⁿ p) l) r.0) ∙ e in cc)
  | inr r ↦ any_not l p (sym (ap (λ (b : Bool). b || list_any (λ q. q =ⁿ p) l) r.0) ∙ e) i
]

any_or : (b c d : Bool) → (b || (c || d)) ≡ ((b || c) || d)
any_or true c d = refl
any_or false c d = refl

-- The search for a name in joined lists finds it if the search in one of them does.
pub any_joined : (k l : List Name) (p : Name) → list_any (λ q. q =ⁿ p) (k ++ l) ≡ (list_any (λ q. q =ⁿ p) k || list_any (λ q. q =ⁿ p) l)
any_joined [] l p = refl
any_joined (q ∷ k) l p = ap (λ (b : Bool). (q =ⁿ p) || b) (any_joined k l p) ∙ any_or (q =ⁿ p) (list_any (λ q. q =ⁿ p) k) (list_any (λ q. q =ⁿ p) l)

-- Distinct names stay distinct with one more name at the end that is not among them.
pub apart_more : (l : List Name) (p : Name) → ((s t : Name) → Before s t l → s ≢ t) → (In p l → ⊥) → (s t : Name) → Before s t (l ++ p ∷ []) → s ≢ t
apart_more l p a n s t b e = elim (before_cases s t l (p ∷ []) b) [
  | inl i ↦ a s t i e
  | inr (inl (inl i)) ↦ absurd (i.1)
  | inr (inl (inr i)) ↦ absurd (i)
  | inr (inr (i, inl h)) ↦ n (subst (λ (z : Name). In z l) (e ∙ h) i)
  | inr (inr (i, inr h)) ↦ absurd (h)
]

-- A pair in order in a list is in order with one more name in its middle.
pub before_skip : (k l : List Name) (p s t : Name) → Before s t (k ++ l) → Before s t (k ++ p ∷ l)
before_skip k l p s t b = elim (before_cases s t k l b) [
  | inl i ↦ before_left s t k (p ∷ l) i
  | inr (inl i) ↦ before_right s t k (p ∷ l) (inr i)
  | inr (inr i) ↦ before_across s t k (p ∷ l) i.0 (inr i.1)
]

others_differ : (k l : List Name) (p : Name) → ((s t : Name) → Before s t (k ++ p ∷ l) → s ≢ t) → (q : Name) → In q (k ++ l) → q ≢ p
others_differ k l p a q i e = elim (in_cases q k l i) [
  | inl j ↦ a q p (before_across q p k (p ∷ l) j (inl refl)) e
  | inr j ↦ a p q (before_right p q k (p ∷ l) (inl (refl, j))) (sym e)
]

or_skip : (b c d : Bool) → c ≡ false → (b || (c || d)) ≡ (b || d)
or_skip b c d e = ap (λ (z : Bool). b || (z || d)) e

-- If names are distinct, without p the search finds the others as before, and never p.
pub any_skip : (k l : List Name) (p q : Name) → ((s t : Name) → Before s t (k ++ p ∷ l) → s ≢ t) →
    list_any (λ z. z =ⁿ q) (k ++ l) ≡ cond (p =ⁿ q) false (list_any (λ z. z =ⁿ q) (k ++ p ∷ l))
any_skip k l p q a = elim (names_tell p q) [
  | inl r ↦ any_none (k ++ l) q (λ z i h. others_differ k l p a z i (h ∙ sym r.1)) ∙ sym (ap (λ (b : Bool). cond b false (list_any (λ z. z =ⁿ q) (k ++ p ∷ l))) r.0)
  | inr r ↦ any_joined k l q ∙ sym (or_skip (list_any (λ z. z =ⁿ q) k) (p =ⁿ q) (list_any (λ z. z =ⁿ q) l) r.0) ∙ sym (any_joined k (p ∷ l) q) ∙ sym (ap (λ (b : Bool). cond b false (list_any (λ z. z =ⁿ q) (k ++ p ∷ l))) r.0)
]

-- A disjunction of two booleans is a choice on the second one.
pub or_last : (b c : Bool) → (b || (c || false)) ≡ cond c true b
or_last true true = refl
or_last true false = refl
or_last false true = refl
or_last false false = refl
