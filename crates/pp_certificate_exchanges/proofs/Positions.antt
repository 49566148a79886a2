-- Proof machinery: positions by ids, and what is ahead.
use Rattle.std.proofs.Common.{◌≡◌, ℕ, suc, ◌+◌, nat_lt, Bool, true, false, cond, count_by, List, []}
use Rattle.std.proofs.Common.{◌∷◌, ◌++◌, length, refl, sym, ap, ◌∙◌, arith, eq-eqb, ne_eqb, suc-add}
use Rattle.std.proofs.Common.{zero-add, inl, inr}
use Rattle.std.proofs.lemmas.List.Sums.{sum_by-cons}
use Rattle.std.proofs.Math.Dec.{leb-zero, leb-suc-zero, leb-suc-suc}
use Rattle.pp_model.specs.Lists.{In}
use Rattle.pp_model.specs.Object.{Item}
use Rattle.pp_certificate_exchanges.specs.Exchanges.{position, inverted}

-- no entry of x has this id
abbrev pub Absent : {Op : Type 0} → ℕ → List (Item Op) → Type 0
Absent {Op} i x = (q : Item Op) → In q x → q.id ≡ i → ⊥

module _ {Op : Type 0} where
  -- The first entry of a list is at position 0.
  pub position_here : (e : Item Op) (x : List (Item Op)) → position e.id (e ∷ x) ≡ 0
  position_here e x = ap (λ (b : Bool). cond b 0 (suc (position e.id x))) (eq-eqb e.id e.id refl)

  -- An entry of another id before a list makes each position in it one more.
  pub position_later : (i : ℕ) (e : Item Op) (x : List (Item Op)) → (e.id ≡ i → ⊥) →
      position i (e ∷ x) ≡ suc (position i x)
  position_later i e x h = ap (λ (b : Bool). cond b 0 (suc (position i x))) (ne_eqb e.id i h)

  -- Entries of other ids before a list make each position in it as many more as they are.
  pub position_behind : (i : ℕ) (p x : List (Item Op)) → Absent i p →
      position i (p ++ x) ≡ length p + position i x
  position_behind i [] x a = sym (zero-add (position i x))
  position_behind i (q ∷ p) x a =
      position_later i q (p ++ x) (a q (inl refl))
      ∙ ap suc (position_behind i p x (λ r j. a r (inr j)))
      ∙ sym (suc-add (length p) (position i x))

  -- An entry between two lists, of an id that the first lacks, is at the length of the first.
  pub position_between : (e : Item Op) (p s : List (Item Op)) → Absent e.id p →
      position e.id (p ++ e ∷ s) ≡ length p
  position_between e p s a = position_behind e.id p (e ∷ s) a
      ∙ ap (λ n. length p + n) (position_here e s) ∙ omega arith

  -- whether q is before the entry with the id i in y
  abbrev pub is_ahead : ℕ → List (Item Op) → Item Op → Bool
  is_ahead i y q = nat_lt (position q.id y) (position i y)

  -- How many entries of x are ahead of the entry i in the order of y.
  abbrev pub ahead : ℕ → List (Item Op) → List (Item Op) → ℕ
  ahead i y x = count_by (is_ahead i y) x

  ahead_cons : (i : ℕ) (y : List (Item Op)) (q : Item Op) (x : List (Item Op)) →
      ahead i y (q ∷ x) ≡ cond (is_ahead i y q) 1 0 + ahead i y x
  ahead_cons i y q x = sum_by-cons (λ (w : Item Op). cond (is_ahead i y w) 1 0) q x

  ahead_step : (i k : ℕ) (y z x w : List (Item Op)) (q : Item Op) → is_ahead i y q ≡ is_ahead k z q
      → ahead i y x ≡ ahead k z w → ahead i y (q ∷ x) ≡ ahead k z (q ∷ w)
  ahead_step i k y z x w q e h =
      ahead_cons i y q x ∙ ap (λ n. cond (is_ahead i y q) 1 0 + n) h
      ∙ ap (λ (b : Bool). cond b 1 0 + ahead k z w) e ∙ sym (ahead_cons k z q w)

  -- nothing is ahead of the first entry
  is_ahead_of_first : (e : Item Op) (y : List (Item Op)) (q : Item Op) →
      is_ahead e.id (e ∷ y) q ≡ false
  is_ahead_of_first e y q = ap (λ n. nat_lt (position q.id (e ∷ y)) n) (position_here e y)
      ∙ leb-suc-zero (position q.id (e ∷ y))

  -- No entry is before the first one.
  pub ahead_of_first : (e : Item Op) (y x : List (Item Op)) → ahead e.id (e ∷ y) x ≡ 0
  ahead_of_first e y [] = refl
  ahead_of_first e y (q ∷ x) =
      ahead_cons e.id (e ∷ y) q x ∙ ap (λ (b : Bool). cond b 1 0 + ahead e.id (e ∷ y) x)
      (is_ahead_of_first e y q) ∙ zero-add (ahead e.id (e ∷ y) x) ∙ ahead_of_first e y x

  -- an entry put at the front is ahead of every other
  first_is_ahead : (i : ℕ) (e : Item Op) (y : List (Item Op)) → (e.id ≡ i → ⊥) →
      is_ahead i (e ∷ y) e ≡ true
  first_is_ahead i e y h =
      ap (λ n. nat_lt n (position i (e ∷ y))) (position_here e y)
      ∙ ap (λ n. nat_lt 0 n) (position_later i e y h) ∙ leb-suc-suc 0 (position i y)
      ∙ leb-zero (position i y)

  -- and changes nothing among the others
  others_as_before : (i : ℕ) (e : Item Op) (y : List (Item Op)) (q : Item Op) → (e.id ≡ i → ⊥) →
      (e.id ≡ q.id → ⊥) → is_ahead i (e ∷ y) q ≡ is_ahead i y q
  others_as_before i e y q h k =
      ap (λ n. nat_lt n (position i (e ∷ y))) (position_later q.id e y k)
      ∙ ap (λ n. nat_lt (suc (position q.id y)) n) (position_later i e y h)
      ∙ leb-suc-suc (suc (position q.id y)) (position i y)

  ahead_as_before : (i : ℕ) (e : Item Op) (y x : List (Item Op)) → (e.id ≡ i → ⊥) → Absent e.id x →
      ahead i (e ∷ y) x ≡ ahead i y x
  ahead_as_before i e y [] h a = refl
  ahead_as_before i e y (q ∷ x) h a =
      ahead_step i i (e ∷ y) y x x q (others_as_before i e y q h (λ u. a q (inl refl) (sym u)))
      (ahead_as_before i e y x h (λ r j. a r (inr j)))

  ahead_and_first : (i : ℕ) (e : Item Op) (y p s : List (Item Op)) → (e.id ≡ i → ⊥) → Absent e.id p
      → Absent e.id s → ahead i (e ∷ y) (p ++ e ∷ s) ≡ suc (ahead i y (p ++ s))
  ahead_and_first i e y [] s h a b =
      ahead_cons i (e ∷ y) e s ∙ ap (λ (t : Bool). cond t 1 0 + ahead i (e ∷ y) s)
      (first_is_ahead i e y h) ∙ omega (arith, ahead_as_before i e y s h b)
  ahead_and_first i e y (q ∷ p) s h a b =
      let rest = ahead_and_first i e y p s h (λ r j. a r (inr j)) b in
      ahead_cons i (e ∷ y) q (p ++ e ∷ s) ∙ ap
      (λ (t : Bool). cond t 1 0 + ahead i (e ∷ y) (p ++ e ∷ s))
      (others_as_before i e y q h (λ u. a q (inl refl) (sym u)))
      ∙ ap (λ n. cond (is_ahead i y q) 1 0 + n) rest ∙ omega (arith, ahead_cons i y q (p ++ s))

  inverted_as_before : (e : Item Op) (y x : List (Item Op)) → Absent e.id x →
      inverted x (e ∷ y) ≡ inverted x y
  inverted_as_before e y [] a = refl
  inverted_as_before e y (q ∷ x) a =
      ap (λ n. n + inverted x (e ∷ y)) (ahead_as_before q.id e y x (λ u. a q (inl refl) (sym u))
      (λ r j. a r (inr j)))
      ∙ ap (λ n. ahead q.id y x + n) (inverted_as_before e y x (λ r j. a r (inr j)))

  -- The entry that comes first in y is inverted with each entry before it in x.
  pub inverted_first : (e : Item Op) (y p s : List (Item Op)) → Absent e.id p → Absent e.id s →
      inverted (p ++ e ∷ s) (e ∷ y) ≡ length p + inverted (p ++ s) y
  inverted_first e y [] s a b =
      ap (λ n. n + inverted s (e ∷ y)) (ahead_of_first e y s)
      ∙ ap (λ n. 0 + n) (inverted_as_before e y s b)
  inverted_first e y (q ∷ p) s a b =
      let here = ahead_and_first q.id e y p s (λ u. a q (inl refl) (sym u)) (λ r j. a r (inr j))
      b in
      let rest = inverted_first e y p s (λ r j. a r (inr j)) b in
      omega (arith, here, rest)
