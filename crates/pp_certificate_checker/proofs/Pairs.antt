-- Proof machinery: entries at a position and the next one.
use Rattle.std.proofs.Common.{get_or, set, swap, subst, ◌≡◌, ◌⊎◌, ◌+◌, ◌<◌, ◌≤◌, ℕ, zero, suc, List}
use Rattle.std.proofs.Common.{[], ◌∷◌, length, refl, ap, arith, inl, inr}
use Rattle.pp_certificate_exchanges.specs.Exchanges.{AtPair, exchanged}

module _ {A : Type 0} where
  -- A relation that follows from another holds at each position at which that one holds.
  pub at_pair_map : (P Q : A → A → Type 0) → ((a b : A) → P a b → Q a b) → (l : List A) (i : ℕ) →
      AtPair P l i → AtPair Q l i
  at_pair_map P Q f [] i h = elim h [ ]
  at_pair_map P Q f (a ∷ []) i h = elim h [ ]
  at_pair_map P Q f (a ∷ b ∷ l) zero h = f a b h
  at_pair_map P Q f (a ∷ b ∷ l) (suc i) h = at_pair_map P Q f (b ∷ l) i h

  -- Two facts about one pair imply a third, if they do for all elements.
  pub at_pair_both : (P Q : A → A → Type 0) (C : Type 0) → ((a b : A) → P a b → Q a b → C) →
      (l : List A) (i : ℕ) → AtPair P l i → AtPair Q l i → C
  at_pair_both P Q C f [] i h k = elim h [ ]
  at_pair_both P Q C f (a ∷ []) i h k = elim h [ ]
  at_pair_both P Q C f (a ∷ b ∷ l) zero h k = f a b h k
  at_pair_both P Q C f (a ∷ b ∷ l) (suc i) h k = at_pair_both P Q C f (b ∷ l) i h k

  -- If a relation holds at a position, the next position is below the length of the list.
  pub at_pair_within : (P : A → A → Type 0) (l : List A) (i : ℕ) → AtPair P l i → i + 1 < length l
  at_pair_within P [] i h = elim h [ ]
  at_pair_within P (a ∷ []) i h = elim h [ ]
  at_pair_within P (a ∷ b ∷ l) zero h = omega arith
  at_pair_within P (a ∷ b ∷ l) (suc i) h = omega (arith, at_pair_within P (b ∷ l) i h)

  -- if each pair has the one or the other, so has the pair at a position, if there is one
  pub at_pair_decided : (P Q : A → A → Type 0) → ((a b : A) → P a b ⊎ Q a b) → (l : List A) (i : ℕ)
      → AtPair P l i ⊎ AtPair Q l i ⊎ (length l ≤ i + 1)
  at_pair_decided P Q f [] i = inr (inr (omega arith))
  at_pair_decided P Q f (a ∷ []) i = inr (inr (omega arith))
  at_pair_decided P Q f (a ∷ b ∷ l) zero = elim (f a b) [ inl p ↦ inl p | inr q ↦ inr (inl q) ]
  at_pair_decided P Q f (a ∷ b ∷ l) (suc i) = elim (at_pair_decided P Q f (b ∷ l) i) [
    | inl p ↦ inl p
    | inr (inl q) ↦ inr (inl q)
    | inr (inr n) ↦ inr (inr (omega (arith, n)))
  ]

  -- A value that is computed from a pair is that of the pair at the position.
  pub at_pair_named : {B : Type 0} (g : A → A → B) (Q : A → A → Type 0) (l : List A) (i : ℕ) →
      AtPair Q l i → (r : B) × AtPair (λ a b. Q a b × (r ≡ g a b)) l i
  at_pair_named g Q [] i h = elim h [ ]
  at_pair_named g Q (a ∷ []) i h = elim h [ ]
  at_pair_named g Q (a ∷ b ∷ l) zero h = (g a b, (h, refl))
  at_pair_named g Q (a ∷ b ∷ l) (suc i) h = at_pair_named g Q (b ∷ l) i h

  -- An exchange keeps the length of a list.
  pub length-exchanged : (l : List A) (i : ℕ) → length (exchanged l i) ≡ length l
  length-exchanged [] i = refl
  length-exchanged (a ∷ []) i = refl
  length-exchanged (a ∷ b ∷ l) zero = refl
  length-exchanged (a ∷ b ∷ l) (suc i) = ap suc (length-exchanged (b ∷ l) i)

  -- two entries, read from the list
  pub at_pair_at : (P : A → A → Type 0) (l : List A) (i : ℕ) (a b : A) → suc i < length l →
      a ≡ get_or l i a → b ≡ get_or l (suc i) b → P a b → AtPair P l i
  at_pair_at P [] i a b h d e p = absurd (omega arith)
  at_pair_at P (x ∷ []) i a b h d e p = absurd (omega arith)
  at_pair_at P (x ∷ y ∷ l) zero a b h d e p = subst (λ (w : A). P w y) d
      (subst (λ (w : A). P a w) e p)
  at_pair_at P (x ∷ y ∷ l) (suc i) a b h d e p = at_pair_at P (y ∷ l) i a b (omega arith) d e p

  set_both : (l : List A) (i : ℕ) (d : A) → suc i < length l →
      set (set l i (get_or l (suc i) d)) (suc i) (get_or l i d) ≡ exchanged l i
  set_both [] i d h = absurd (omega arith)
  set_both (x ∷ []) i d h = absurd (omega arith)
  set_both (x ∷ y ∷ l) zero d h = refl
  set_both (x ∷ y ∷ l) (suc i) d h = ap (λ (w : List A). x ∷ w) (set_both (y ∷ l) i d (omega arith))

  -- To swap neighbours is to exchange them.
  pub swap_is_exchange : (l : List A) (i : ℕ) → suc i < length l → swap l i (suc i) ≡ exchanged l i
  swap_is_exchange [] i h = absurd (omega arith)
  swap_is_exchange (x ∷ l) i h = set_both (x ∷ l) i x h
