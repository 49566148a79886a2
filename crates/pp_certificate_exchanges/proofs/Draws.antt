-- Proof machinery: what one draw of an entry does.
use Rattle.std.proofs.Common.{◌≡◌, ℕ, zero, suc, ◌+◌, List, [], ◌∷◌, ◌++◌, length, refl, sym, ap}
use Rattle.std.proofs.Common.{subst, ◌∙◌, arith, add-zero, append_assoc, inl, inr}
use Rattle.std.proofs.lemmas.List.{length-append}
use Rattle.pp_model.specs.Lists.{In}
use Rattle.pp_certificate_exchanges.specs.Exchanges.{exchanged, after_exchanges, AtPair, EachExchange, down_to}

-- The last position of a draw is the position that it draws to.
pub down_to_last : (j n : ℕ) → down_to j (suc n) ≡ down_to (suc j) n ++ j ∷ []
down_to_last j zero = ap (λ k. k ∷ []) (add-zero j)
down_to_last j (suc n) =
    let k : j + suc n ≡ suc j + n = omega arith in
    ap (λ i. i ∷ down_to j (suc n)) k ∙ ap (λ (w : List ℕ). (suc j + n) ∷ w) (down_to_last j n)

-- There are n positions from j + n - 1 down to j.
pub length_down_to : (j n : ℕ) → length (down_to j n) ≡ n
length_down_to j zero = refl
length_down_to j (suc n) = ap suc (length_down_to j n)

module _ {A : Type 0} where
  exchanged_cons : (a : A) (x : List A) (i : ℕ) → exchanged (a ∷ x) (suc i) ≡ a ∷ exchanged x i
  exchanged_cons a [] i = refl
  exchanged_cons a (b ∷ x) i = refl

  -- An exchange at the position of a front's length turns the two elements after the front.
  pub exchanged_behind : (d : List A) (a b : A) (x : List A) →
      exchanged (d ++ a ∷ b ∷ x) (length d) ≡ d ++ b ∷ a ∷ x
  exchanged_behind [] a b x = refl
  exchanged_behind (c ∷ d) a b x = exchanged_cons c (d ++ a ∷ b ∷ x) (length d)
      ∙ ap (λ (w : List A). c ∷ w) (exchanged_behind d a b x)

  at_pair_cons : (R : A → A → Type 0) (a : A) (x : List A) (i : ℕ) → AtPair R x i →
      AtPair R (a ∷ x) (suc i)
  at_pair_cons R a [] i h = elim h [ ]
  at_pair_cons R a (b ∷ x) i h = h

  -- A relation between the two elements after a front holds at the position of its length.
  pub at_pair_behind : (R : A → A → Type 0) (d : List A) (a b : A) (x : List A) → R a b →
      AtPair R (d ++ a ∷ b ∷ x) (length d)
  at_pair_behind R [] a b x h = h
  at_pair_behind R (c ∷ d) a b x h = at_pair_cons R c (d ++ a ∷ b ∷ x) (length d)
      (at_pair_behind R d a b x h)

  -- The list after joined exchanges is the one after the second, from that after the first.
  pub after_join : (x : List A) (is js : List ℕ) →
      after_exchanges x (is ++ js) ≡ after_exchanges (after_exchanges x is) js
  after_join x [] js = refl
  after_join x (i ∷ is) js = after_join (exchanged x i) is js

  -- Joined exchanges are each of related pairs if the first are, and the second are after them.
  pub each_join : (R : A → A → Type 0) (x : List A) (is js : List ℕ) → EachExchange R x is →
      EachExchange R (after_exchanges x is) js → EachExchange R x (is ++ js)
  each_join R x [] js h k = k
  each_join R x (i ∷ is) js h k = (h.0, each_join R (exchanged x i) is js h.1 k)

  shifted : (d : List A) (q : A) (x : List A) → d ++ q ∷ x ≡ (d ++ q ∷ []) ++ x
  shifted d q x = sym (append_assoc d (q ∷ []) x)

  longer : (d : List A) (q : A) → length (d ++ q ∷ []) ≡ suc (length d)
  longer d q = length-append d (q ∷ []) ∙ omega arith

  -- The exchanges of a draw bring an entry before all that it is drawn over.
  pub draw_ends : (j : ℕ) (d p : List A) (e : A) (s : List A) → length d ≡ j →
      after_exchanges (d ++ (p ++ e ∷ s)) (down_to j (length p)) ≡ d ++ e ∷ (p ++ s)
  draw_ends j d [] e s h = refl
  draw_ends j d (q ∷ p) e s h =
      let whole : List A = d ++ q ∷ (p ++ e ∷ s) in
      let first = draw_ends (suc j) (d ++ q ∷ []) p e s (longer d q ∙ ap suc h) in
      let there : after_exchanges whole (down_to (suc j) (length p)) ≡ d ++ q ∷ e ∷ (p ++ s) =
      ap (λ (w : List A). after_exchanges w (down_to (suc j) (length p))) (shifted d q (p ++ e ∷ s))
      ∙ first ∙ sym (shifted d q (e ∷ (p ++ s))) in
      ap (λ (w : List ℕ). after_exchanges whole w) (down_to_last j (length p))
      ∙ after_join whole (down_to (suc j) (length p)) (j ∷ [])
      ∙ ap (λ (w : List A). exchanged w j) there
      ∙ ap (λ i. exchanged (d ++ q ∷ e ∷ (p ++ s)) i) (sym h) ∙ exchanged_behind d q e (p ++ s)

  -- Each exchange of a draw is of a related pair if all entries drawn over are related to it.
  pub draw_turns : (R : A → A → Type 0) (j : ℕ) (d p : List A) (e : A) (s : List A) → length d ≡ j →
      ((q : A) → In q p → R q e) → EachExchange R (d ++ (p ++ e ∷ s)) (down_to j (length p))
  draw_turns R j d [] e s h r = tt
  draw_turns R j d (q ∷ p) e s h r =
      let whole : List A = d ++ q ∷ (p ++ e ∷ s) in
      let steps : List ℕ = down_to (suc j) (length p) in
      let k : length (d ++ q ∷ []) ≡ suc j = longer d q ∙ ap suc h in
      let there : after_exchanges whole steps ≡ d ++ q ∷ e ∷ (p ++ s) =
      ap (λ (w : List A). after_exchanges w steps) (shifted d q (p ++ e ∷ s))
      ∙ draw_ends (suc j) (d ++ q ∷ []) p e s k ∙ sym (shifted d q (e ∷ (p ++ s))) in
      let first : EachExchange R whole steps =
      subst (λ (w : List A). EachExchange R w steps) (sym (shifted d q (p ++ e ∷ s)))
      (draw_turns R (suc j) (d ++ q ∷ []) p e s k (λ a i. r a (inr i))) in
      let last : AtPair R (after_exchanges whole steps) j =
      subst (λ (w : List A). AtPair R w j) (sym there)
      (subst (λ i. AtPair R (d ++ q ∷ e ∷ (p ++ s)) i) h
      (at_pair_behind R d q e (p ++ s) (r q (inl refl)))) in
      subst (λ (w : List ℕ). EachExchange R whole w) (sym (down_to_last j (length p)))
      (each_join R whole steps (j ∷ []) first (last, tt))
