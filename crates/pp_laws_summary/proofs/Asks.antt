-- Steps and the conditions of a summary: when the two have one verdict.
use Rattle.std.specs.Prelude.{◌≡◌, ◌↔◌, ℕ, zero, suc, List, [], ◌∷◌, ◌++◌, length, Option, None, Some}
use Rattle.std.proofs.Common.{sym, subst}
use mathlib.Core.Logic.{inl, inr}
use Rattle.pp_model.specs.Config.{Config, Step, after_from, then}
use Rattle.pp_model.specs.Object.{Object}
use Rattle.pp_model.specs.Rules.{FirstFalse, IsVerdictFrom, Meets, RunsFrom, Verdict, criteria, there}
use Rattle.pp_model.proofs.Parted.{one_number}
use Rattle.pp_laws_summary.specs.Failures.{Asked, IsAskedVerdict, IsStep, safe}

-- The facts of two lists follow from one another, one for one.
abbrev pub Alike : List (Type 0) → List (Type 0) → Type 0
Alike [] [] = Unit {0}
Alike [] (q ∷ qs) = ⊥
Alike (p ∷ ps) [] = ⊥
Alike (p ∷ ps) (q ∷ qs) = (p ↔ q) × Alike ps qs

-- They have one first false fact.
pub alike : (ps qs : List (Type 0)) → Alike ps qs → (n : ℕ) → FirstFalse ps n ↔ FirstFalse qs n
alike [] [] a n = ((λ h. h), (λ h. h))
alike [] (q ∷ qs) a n = absurd a
alike (p ∷ ps) [] a n = absurd a
alike (p ∷ ps) (q ∷ qs) a zero = (
  (λ h. (a.0.0 h.0, (alike ps qs a.1 zero).0 h.1)),
  (λ h. (a.0.1 h.0, (alike ps qs a.1 zero).1 h.1)),
)
alike (p ∷ ps) (q ∷ qs) a (suc zero) = ((λ h k. h (a.0.1 k)), (λ h k. h (a.0.0 k)))
alike (p ∷ ps) (q ∷ qs) a (suc (suc n)) = (
  (λ h. (a.0.0 h.0, (alike ps qs a.1 (suc n)).0 h.1)),
  (λ h. (a.0.1 h.0, (alike ps qs a.1 (suc n)).1 h.1)),
)

-- The conditions on a value that is there are those of its facts.
pub there_one : {A : Type 0} (w : Option A) (F : A → List (Type 0)) (x : A) → w ≡ Some x → (qs : List (Type 0)) → Alike qs (Unit {0} ∷ F x) → (n : ℕ) → FirstFalse qs n ↔ FirstFalse (there w F) n
there_one {A} w F x e qs k n = subst (λ (z : Option A). FirstFalse qs n ↔ FirstFalse (there z F) n) (sym e) (alike qs (Unit {0} ∷ F x) k n)

-- The conditions on two values that are there are those of their facts.
pub there_two : {A B : Type 0} (w : Option A) (F : A → Option B) (G : A → B → List (Type 0)) (x : A) (g : B) → w ≡ Some x → F x ≡ Some g → (qs : List (Type 0)) →
    Alike qs (Unit {0} ∷ Unit {0} ∷ G x g) → (n : ℕ) → FirstFalse qs n ↔ FirstFalse (there w (λ z. there (F z) (λ h. G z h))) n
there_two {A} {B} w F G x g e d qs k n =
    subst (λ (z : Option A). FirstFalse qs n ↔ FirstFalse (there z (λ y. there (F y) (λ h. G y h))) n) (sym e)
    (subst (λ (z : Option B). FirstFalse qs n ↔ FirstFalse (Unit {0} ∷ there z (λ h. G x h)) n) (sym d) (alike qs (Unit {0} ∷ Unit {0} ∷ G x g) k n))

-- The conditions on a value that is not there are one false condition.
pub there_none : {A : Type 0} (w : Option A) (F : A → List (Type 0)) → w ≡ None → (n : ℕ) → FirstFalse (⊥ ∷ []) n ↔ FirstFalse (there w F) n
there_none {A} w F e n = subst (λ (z : Option A). FirstFalse (⊥ ∷ []) n ↔ FirstFalse (there z F) n) (sym e) ((λ h. h), (λ h. h))

module _ {Op State : Type 0} (O : Object Op State) where
  -- The conditions match the steps: one for one, with the same criterion, while they are met.
  abbrev pub Matches : Config Op → List (Step Op) → List (Asked Op) → Type 0
  Matches c [] [] = Unit {0}
  Matches c [] (a ∷ qs) = ⊥
  Matches c (s ∷ ss) [] = ⊥
  Matches c (s ∷ ss) (a ∷ qs) =
      IsStep a.step s × ((n : ℕ) → FirstFalse a.asks n ↔ FirstFalse (criteria O c s) n)
      × (Meets O c s → Matches (then c s) ss qs)

  -- Then they have one verdict.
  pub same_verdict : (ss : List (Step Op)) (qs : List (Asked Op)) (c : Config Op) (i : ℕ) (v : Verdict) → Matches c ss qs → IsAskedVerdict i qs v ↔ IsVerdictFrom O i c ss v
  same_verdict [] [] c i v m = ((λ h. h), (λ h. h))
  same_verdict [] (a ∷ qs) c i v m = absurd m
  same_verdict (s ∷ ss) [] c i v m = absurd m
  same_verdict (s ∷ ss) (a ∷ qs) c i v m = (
    (λ h. elim h [
      | inl k ↦ inl (k.0, (m.1 (suc k.0)).0 k.1, k.2)
      | inr k ↦ let g = (m.1 0).0 k.0 in inr (g, (same_verdict ss qs (then c s) (suc i) v (m.2 g)).0 k.1)
    ]),
    (λ h. elim h [
      | inl k ↦ inl (k.0, (m.1 (suc k.0)).1 k.1, k.2)
      | inr k ↦ inr ((m.1 0).1 k.0, (same_verdict ss qs (then c s) (suc i) v (m.2 k.0)).1 k.1)
    ]),
  )

  -- Steps that meet their criteria match what cannot fail.
  pub match_safe : (ss : List (Step Op)) (c : Config Op) → RunsFrom O c ss → Matches c ss (safe (length ss))
  match_safe [] c r = tt
  match_safe (s ∷ ss) c r = (
    tt,
    (λ n. ((λ e. subst (λ (k : ℕ). FirstFalse (criteria O c s) k) (sym e) r.0), (λ h. one_number (criteria O c s) n 0 h r.0))),
    (λ m. match_safe ss (then c s) r.1),
  )

  -- so many of them
  pub match_count : (ss : List (Step Op)) (c : Config Op) (n : ℕ) → n ≡ length ss → RunsFrom O c ss → Matches c ss (safe n)
  match_count ss c n e r = subst (λ (k : ℕ). Matches c ss (safe k)) (sym e) (match_safe ss c r)

  -- more steps, after those that match
  pub match_append : (ss : List (Step Op)) (qs : List (Asked Op)) (rest : List (Step Op)) (more : List (Asked Op)) (c : Config Op) → Matches c ss qs →
      (RunsFrom O c ss → Matches (after_from c ss) rest more) → Matches c (ss ++ rest) (qs ++ more)
  match_append [] [] rest more c m k = k tt
  match_append [] (a ∷ qs) rest more c m k = absurd m
  match_append (s ∷ ss) [] rest more c m k = absurd m
  match_append (s ∷ ss) (a ∷ qs) rest more c m k = (m.0, m.1, (λ h. match_append ss qs rest more (then c s) (m.2 h) (λ r. k (h, r))))
