-- The number of the first false fact of a list.
use Rattle.std.specs.Prelude.{◌≡◌, ◌⊎◌, ℕ, zero, suc, List, [], ◌∷◌, Option, None, Some}
use Rattle.std.proofs.Common.{refl, subst, arith}
use mathlib.Core.Logic.{inl, inr}
use Rattle.pp_model.specs.Lists.{In}
use Rattle.pp_model.specs.Rules.{FirstFalse, there}

-- a true fact is not the first false one
pub after_true : (p : Type 0) (ps : List (Type 0)) (n : ℕ) → p → FirstFalse (p ∷ ps) (suc n) → (k : ℕ) × (n ≡ suc k) × FirstFalse ps (suc k)
after_true p ps zero h b = absurd (b h)
after_true p ps (suc n) h b = (n, refl, b.1)

-- If the option has a value, and a later fact is the first false one, it is the first false fact about this value.
pub after_there : {A : Type 0} (o : Option A) (F : A → List (Type 0)) (x : A) (n : ℕ) → o ≡ Some x → FirstFalse (there o F) (suc n) → (k : ℕ) × (n ≡ suc k) × FirstFalse (F x) (suc k)
after_there {A} o F x n e b = after_true (Unit {0}) (F x) n tt (subst (λ (w : Option A). FirstFalse (there w F) (suc n)) e b)

no_more : (n : ℕ) → suc n ≡ 0 → ⊥
no_more n e = omega (arith, e)

-- An empty list of facts has no first false one.
pub of_none : (n : ℕ) → FirstFalse [] (suc n) → ⊥
of_none n b = no_more n b

-- The first false one of a single fact is the first.
pub of_one : (p : Type 0) (n : ℕ) → FirstFalse (p ∷ []) (suc n) → n ≡ 0
of_one p zero b = refl
of_one p (suc n) b = absurd (of_none n b.1)

-- The first false one of two facts is the first or the second.
pub of_two : (p q : Type 0) (n : ℕ) → FirstFalse (p ∷ q ∷ []) (suc n) → (n ≡ 0) ⊎ (n ≡ 1)
of_two p q zero b = inl refl
of_two p q (suc n) b = inr (let e : n ≡ 0 = of_one q n b.1 in omega (arith, e))

-- The first false one of three facts is the first, the second or the third.
pub of_three : (p q r : Type 0) (n : ℕ) → FirstFalse (p ∷ q ∷ r ∷ []) (suc n) → (n ≡ 0) ⊎ (n ≡ 1) ⊎ (n ≡ 2)
of_three p q r zero b = inl refl
of_three p q r (suc n) b = elim (of_two q r n b.1) [
  | inl e ↦ inr (inl (omega (arith, e)))
  | inr e ↦ inr (inr (omega (arith, e)))
]

-- if the option is None, the first false fact is the first one
pub of_nothing : {A : Type 0} (o : Option A) (F : A → List (Type 0)) (n : ℕ) → o ≡ None → FirstFalse (there o F) (suc n) → n ≡ 0
of_nothing {A} o F n e b = of_one ⊥ n (subst (λ (w : Option A). FirstFalse (there w F) (suc n)) e b)

-- The number of the first fact is in the list of 1.
pub in_one : (n : ℕ) → n ≡ 0 → In (suc n) (1 ∷ [])
in_one n e = inl (omega (arith, e))

-- The number of the first or the second fact is in the list of 1 and 2.
pub in_two : (n : ℕ) → (n ≡ 0) ⊎ (n ≡ 1) → In (suc n) (1 ∷ 2 ∷ [])
in_two n (inl e) = inl (omega (arith, e))
in_two n (inr e) = inr (inl (omega (arith, e)))

-- The number is 4 or 5.
pub four_or_five : (n a b k : ℕ) → n ≡ suc a → a ≡ suc b → b ≡ suc k → (k ≡ 0) ⊎ (k ≡ 1) → In (suc n) (4 ∷ 5 ∷ [])
four_or_five n a b k e f g (inl h) = inl (omega (arith, e, f, g, h))
four_or_five n a b k e f g (inr h) = inr (inl (omega (arith, e, f, g, h)))

-- ---- lists of facts, some of which are true

-- If the first of three facts is true, the first false one is the second or the third.
pub first_holds : (p q r : Type 0) (n : ℕ) → p → FirstFalse (p ∷ q ∷ r ∷ []) (suc n) → (k : ℕ) × (n ≡ suc k) × ((k ≡ 0) ⊎ (k ≡ 1))
first_holds p q r n h b = let a = after_true p (q ∷ r ∷ []) n h b in (a.0, a.1, of_two q r a.0 a.2)

-- If the second of three facts is true, the first false one is the first or the third.
pub second_holds : (p q r : Type 0) (n : ℕ) → q → FirstFalse (p ∷ q ∷ r ∷ []) (suc n) → (n ≡ 0) ⊎ (n ≡ 2)
second_holds p q r zero h b = inl refl
second_holds p q r (suc n) h b = inr (let a = after_true q (r ∷ []) n h b.1 in let e : n ≡ suc a.0 = a.1 in let z : a.0 ≡ 0 = of_one r a.0 a.2 in omega (arith, e, z))

-- If the second and the third of three facts are true, the first false one is the first.
pub two_hold : (p q r : Type 0) (n : ℕ) → q → r → FirstFalse (p ∷ q ∷ r ∷ []) (suc n) → n ≡ 0
two_hold p q r zero h k b = refl
two_hold p q r (suc n) h k b = absurd (let a = after_true q (r ∷ []) n h b.1 in let z = after_true r [] a.0 k a.2 in of_none z.0 z.2)

-- A single fact that is true has no first false one.
pub one_never : (p : Type 0) (n : ℕ) → p → FirstFalse (p ∷ []) (suc n) → ⊥
one_never p n h b = let a = after_true p [] n h b in of_none a.0 a.2

-- Two facts that are true have no first false one.
pub two_never : (p q : Type 0) (n : ℕ) → p → q → FirstFalse (p ∷ q ∷ []) (suc n) → ⊥
two_never p q n h k b = let a = after_true p (q ∷ []) n h b in one_never q a.0 k a.2

-- If the first two of three facts are true, the first false one is the third.
pub two_first_hold : (p q r : Type 0) (n : ℕ) → p → q → FirstFalse (p ∷ q ∷ r ∷ []) (suc n) → n ≡ 2
two_first_hold p q r n h k b =
    let a = after_true p (q ∷ r ∷ []) n h b in
    let d = after_true q (r ∷ []) a.0 k a.2 in
    let e : n ≡ suc a.0 = a.1 in
    let f : a.0 ≡ suc d.0 = d.1 in
    let z : d.0 ≡ 0 = of_one r d.0 d.2 in
    omega (arith, e, f, z)

-- The third fact after two others has the number 5.
pub fifth : (n a k : ℕ) → n ≡ suc a → a ≡ suc k → k ≡ 2 → In (suc n) (5 ∷ [])
fifth n a k e f z = inl (omega (arith, e, f, z))
