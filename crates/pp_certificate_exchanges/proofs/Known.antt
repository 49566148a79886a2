-- Proof machinery: what the map of positions knows.
use Rattle.std.proofs.Common.{◌≡◌, ℕ, ◌+◌, ◌<◌, List, [], ◌∷◌, ◌++◌, take, drop, get_or, length}
use Rattle.std.proofs.Common.{refl, sym, ap, subst, ◌∙◌, arith, inl, inr, ◌⊎◌, Option, Some, false}
use Rattle.std.proofs.Common.{nat_cmp, is_eq, Ordering, Less, Equal, Greater}
use Rattle.std.specs.Ordering.{MatchOrdering}
use Rattle.std.proofs.lemmas.Cmp.{ranked}
use Rattle.std.proofs.lemmas.List.{take_more, drop_more, take-append-drop, length-take-le}
use Rattle.pp_model.specs.Lists.{In, Before}
use Rattle.pp_model.specs.Object.{Item, HasDistinctIds}
use Rattle.pp_model.proofs.Lists.{in_cases, before_across}
use Rattle.pp_certificate_exchanges.specs.Exchanges.{position}
use Rattle.pp_certificate_exchanges.proofs.Positions.{Absent, position_between}

module _ {Op : Type 0} (log : List (Item Op)) (d : HasDistinctIds log) (i : ℕ) (e : Item Op)
    (lt : i < length log) (is : e ≡ get_or log i e) where
  split : log ≡ take i log ++ e ∷ drop (i + 1) log
  split = sym (take-append-drop i log) ∙ ap (λ (w : List (Item Op)). take i log ++ w)
      (drop_more log i e lt ∙ ap (λ (w : Item Op). w ∷ drop (i + 1) log) (sym is))

  -- no entry before it has its id
  pub absent : Absent e.id (take i log)
  absent q j u = d q e (subst (λ (w : List (Item Op)). Before q e w) (sym split)
      (before_across q e (take i log) (e ∷ drop (i + 1) log) j (inl refl))) u

  -- The position of an entry by its id is the one that it has in the log.
  pub position_is : position e.id log ≡ i
  position_is = ap (λ (w : List (Item Op)). position e.id w) split
      ∙ position_between e (take i log) (drop (i + 1) log) absent
      ∙ length-take-le i log (omega arith)

  -- an entry of the longer front is an earlier one, or this one
  pub in_more : (q : Item Op) → In q (take (i + 1) log) → In q (take i log) ⊎ (q ≡ e)
  in_more q j = elim (in_cases q (take i log) (e ∷ [])
      (subst (λ (w : List (Item Op)). In q w) (take_more log i e lt
      ∙ ap (λ (w : Item Op). take i log ++ w ∷ []) (sym is)) j)) [
        | inl k ↦ inl k
        | inr (inl u) ↦ inr u
        | inr (inr k) ↦ elim k [ ]
      ]

  -- if f knows the positions of the front, and g is f with this position
  pub known_more : (f g : ℕ → Option ℕ) → ((q : Item Op) → In q (take i log) →
      f q.id ≡ Some (position q.id log)) →
      g e.id ≡ Some i → ((k : ℕ) → (e.id ≡ k → ⊥) → g k ≡ f k) → (q : Item Op) →
      In q (take (i + 1) log) → g q.id ≡ Some (position q.id log)
  known_more f g known here others q j = elim (in_more q j) [
    | inl k ↦ others q.id (λ u. absent q k (sym u)) ∙ known q k
    | inr u ↦ subst (λ (w : Item Op). g w.id ≡ Some (position w.id log)) (sym u) (here
        ∙ ap (λ n. Some n) (sym position_is))
  ]

apart : (k q : ℕ) (o : Ordering) → (k ≡ q → ⊥) → MatchOrdering o (k < q) (k ≡ q) (q < k) →
    is_eq o ≡ false
apart k q Less h m = refl
apart k q Equal h m = absurd (h m)
apart k q Greater h m = refl

-- Two different keys are not compared as equal.
pub other_key : (k q : ℕ) → (k ≡ q → ⊥) → is_eq (nat_cmp k q) ≡ false
other_key k q h = apart k q (nat_cmp k q) h (ranked k q (nat_cmp k q) refl)
