-- Proof machinery: a pair swaps exactly if the table lets it.
use Rattle.std.proofs.Common.{◌≡◌, ℤ, Bool, true, false, IsTrue, int_le, List, [], ◌∷◌, ◌++◌, ◌↔◌}
use Rattle.std.proofs.Common.{if◌then◌else◌, refl, sym, ap, subst, arith, Option, Some, None}
use Rattle.std.proofs.lemmas.Int.{ints}
use Rattle.pp_kind.specs.Found.{is_ranged_found}
use Rattle.pp_kind.specs.Object.{AllowedFrom, AllRanged, state_after, Commutes, Swaps, SwapsNowhere}
use Rattle.pp_kind.proofs.Lists.{allowed_is_state}
use Rattle.pp_kind.proofs.Tests.{IsTold, swaps_exact, swaps_nowhere}
use Rattle.pp_kind_priority.specs.declared.op.PrioOp.{PrioOp}
use Rattle.pp_kind_priority.specs.declared.op.PrioOp.TheVariants.{Insert, Take, Least}
use Rattle.pp_kind_priority.specs.Values.{least_of, with_one}
use Rattle.pp_kind_priority.specs.Operations.{values_after, found_by, is_ranged}
use Rattle.pp_kind_priority.specs.Movers.{may_swap}
use Rattle.pp_kind_priority.specs.Contexts.{insertion_of, before_pair, lists_round}
use Rattle.pp_kind_priority.specs.Prios.{prio}
use Rattle.pp_kind_priority.specs.laws.Values.{put_behind}
use Rattle.pp_kind_priority.specs.laws.Legal.{told, legal_where_told, after_ascends}
use Rattle.pp_kind_priority.specs.laws.Turning.{pair_turns}

may_swap_commutes : (a b : PrioOp) → may_swap a b ≡ true → Commutes prio a b
may_swap_commutes a b t shape before allowed h k =
    let values = state_after prio shape before in
    let is = allowed_is_state prio [] before (λ s op f g. after_ascends s op f) tt allowed in
    let turned = pair_turns a b values is t (told a values h) (told b (values_after values a) k)
    in (
      legal_where_told b values turned.second_first,
      legal_where_told a (values_after values b) turned.first_second,
      turned.same,
    )

-- Two values, of which the first is less, and what is found of them.
two : (x y : ℤ) (ops : List PrioOp) → int_le y x ≡ false → AllowedFrom prio (x ∷ y ∷ []) ops
    → AllowedFrom prio (with_one y (x ∷ [])) ops
two x y ops e h = subst (λ (values : List ℤ). AllowedFrom prio values ops)
    (sym (put_behind y x [] e)) h

least_by : (x y : ℤ) (t : Bool) → int_le y x ≡ t
    → least_of (if t then y ∷ x ∷ [] else x ∷ y ∷ []) ≡ Some y → int_le y x ≡ true
least_by x y true e h = e
least_by x y false e h = let f : x ≡ y = cc in grind (arith, ints)

-- The lesser of two is the least of them.
lesser : (x y : ℤ) → least_of (with_one y (x ∷ [])) ≡ Some y → int_le y x ≡ true
lesser x y h = least_by x y (int_le y x) refl h

first_by : (x y : ℤ) (t : Bool) → int_le y x ≡ t
    → least_of (if t then y ∷ x ∷ [] else x ∷ y ∷ []) ≡ Some x → int_le x y ≡ true
first_by x y true e h = let f : y ≡ x = cc in grind (arith, ints)
first_by x y false e h = grind (arith, ints)

first : (x y : ℤ) → least_of (with_one y (x ∷ [])) ≡ Some x → int_le x y ≡ true
first x y h = first_by x y (int_le y x) refl h

-- The lists refute a pair that the table does not allow to swap: between them it is allowed in this
-- order, and not in the other.
pair_refuted : (a b : PrioOp) → may_swap a b ≡ false
    → AllowedFrom prio [] (before_pair a b ++ (a ∷ b ∷ []))
pair_refuted (Insert x) (Insert y) t = absurd (cc)
pair_refuted (Insert x) (Take (Some y)) t =
    let e : Some x ≡ Some y = ap Some (grind (arith, ints)) in
    ((refl, refl), (legal_where_told (Take (Some y)) (x ∷ []) e, tt))
pair_refuted (Insert x) (Take None) t = absurd (cc)
pair_refuted (Insert x) (Least (Some y)) t =
    let e : Some x ≡ Some y = ap Some (grind (arith, ints)) in
    ((refl, refl), (legal_where_told (Least (Some y)) (x ∷ []) e, tt))
pair_refuted (Insert x) (Least None) t = absurd (cc)
pair_refuted (Take (Some x)) (Insert y) t = ((refl, refl), ((refl, refl), ((refl, refl), tt)))
pair_refuted (Take (Some x)) (Take (Some y)) t = (
  (refl, refl),
  (
    (refl, refl),
    two x y (Take (Some x) ∷ Take (Some y) ∷ []) t
        ((refl, refl), ((refl, refl), tt)),
  ),
)
pair_refuted (Take (Some x)) (Take None) t = ((refl, refl), ((refl, refl), ((refl, refl), tt)))
pair_refuted (Take (Some x)) (Least (Some y)) t = (
  (refl, refl),
  (
    (refl, refl),
    two x y (Take (Some x) ∷ Least (Some y) ∷ []) t
        ((refl, refl), ((refl, refl), tt)),
  ),
)
pair_refuted (Take (Some x)) (Least None) t = ((refl, refl), ((refl, refl), ((refl, refl), tt)))
pair_refuted (Take None) (Insert y) t = ((refl, refl), ((refl, refl), tt))
pair_refuted (Take None) (Take (Some y)) t = absurd (cc)
pair_refuted (Take None) (Take None) t = absurd (cc)
pair_refuted (Take None) (Least (Some y)) t = absurd (cc)
pair_refuted (Take None) (Least None) t = absurd (cc)
pair_refuted (Least (Some x)) (Insert y) t = ((refl, refl), ((refl, refl), ((refl, refl), tt)))
pair_refuted (Least (Some x)) (Take (Some y)) t =
    let e : Some x ≡ Some y = ap Some (grind (arith, ints)) in
    ((refl, refl), ((refl, refl), (legal_where_told (Take (Some y)) (x ∷ []) e, tt)))
pair_refuted (Least (Some x)) (Take None) t = absurd (cc)
pair_refuted (Least (Some x)) (Least (Some y)) t = absurd (cc)
pair_refuted (Least (Some x)) (Least None) t = absurd (cc)
pair_refuted (Least None) (Insert y) t = ((refl, refl), ((refl, refl), tt))
pair_refuted (Least None) (Take (Some y)) t = absurd (cc)
pair_refuted (Least None) (Take None) t = absurd (cc)
pair_refuted (Least None) (Least (Some y)) t = absurd (cc)
pair_refuted (Least None) (Least None) t = absurd (cc)

turned_refuted : (a b : PrioOp) → may_swap a b ≡ false
    → AllowedFrom prio [] (before_pair a b ++ (b ∷ a ∷ [])) → ⊥
turned_refuted (Insert x) (Insert y) t h = cc
turned_refuted (Insert x) (Take (Some y)) t h = let e = told (Take (Some y)) [] h.0 in cc
turned_refuted (Insert x) (Take None) t h = cc
turned_refuted (Insert x) (Least (Some y)) t h = let e = told (Least (Some y)) [] h.0 in cc
turned_refuted (Insert x) (Least None) t h = cc
turned_refuted (Take (Some x)) (Insert y) t h =
    let e = first x y (told (Take (Some x)) (with_one y (x ∷ [])) h.1.1.0) in cc
turned_refuted (Take (Some x)) (Take (Some y)) t h =
    let e = lesser x y (told (Take (Some y)) (with_one y (x ∷ [])) h.1.1.0) in cc
turned_refuted (Take (Some x)) (Take None) t h = let e = told (Take None) (x ∷ []) h.1.0 in cc
turned_refuted (Take (Some x)) (Least (Some y)) t h =
    let e = lesser x y (told (Least (Some y)) (with_one y (x ∷ [])) h.1.1.0) in cc
turned_refuted (Take (Some x)) (Least None) t h = let e = told (Least None) (x ∷ []) h.1.0 in cc
turned_refuted (Take None) (Insert y) t h = let e = told (Take None) (y ∷ []) h.1.0 in cc
turned_refuted (Take None) (Take (Some y)) t h = cc
turned_refuted (Take None) (Take None) t h = cc
turned_refuted (Take None) (Least (Some y)) t h = cc
turned_refuted (Take None) (Least None) t h = cc
turned_refuted (Least (Some x)) (Insert y) t h =
    let e = first x y (told (Least (Some x)) (with_one y (x ∷ [])) h.1.1.0) in cc
turned_refuted (Least (Some x)) (Take (Some y)) t h =
    let e = told (Least (Some x)) [] h.1.1.0 in cc
turned_refuted (Least (Some x)) (Take None) t h = cc
turned_refuted (Least (Some x)) (Least (Some y)) t h = cc
turned_refuted (Least (Some x)) (Least None) t h = cc
turned_refuted (Least None) (Insert y) t h = let e = told (Least None) (y ∷ []) h.1.0 in cc
turned_refuted (Least None) (Take (Some y)) t h = cc
turned_refuted (Least None) (Take None) t h = cc
turned_refuted (Least None) (Least (Some y)) t h = cc
turned_refuted (Least None) (Least None) t h = cc

-- They are ranged if the pair is.
insertion_ranged : (found : Option ℤ) → IsTrue (is_ranged_found found)
    → AllRanged prio (insertion_of found)
insertion_ranged None h = tt
insertion_ranged (Some x) h = (h, tt)

found_ranged : (op : PrioOp) → IsTrue (is_ranged op) → IsTrue (is_ranged_found (found_by op))
found_ranged (Insert value) h = refl
found_ranged (Take value) h = h
found_ranged (Least value) h = h

before_ranged : (a b : PrioOp) → IsTrue (is_ranged a) → IsTrue (is_ranged b)
    → AllRanged prio (before_pair a b)
before_ranged (Insert x) b h k = tt
before_ranged (Take None) b h k = tt
before_ranged (Take (Some x)) b h k = (h, insertion_ranged (found_by b) (found_ranged b k))
before_ranged (Least value) b h k = insertion_ranged value h

-- The pair swaps exactly if the table lets it, and else nowhere.
pub table_tells : IsTold prio may_swap lists_round
table_tells = record {
  refuting = λ a b. refl;
  commutes = may_swap_commutes;
  allowed = pair_refuted;
  turned = turned_refuted;
  ranged_before = before_ranged;
  ranged_after = λ a b h k. tt;
}

-- Two operations on a priority queue swap exactly if the table says so.
pub may_swap_exact : (a b : PrioOp) → (may_swap a b ≡ true) ↔ Swaps prio a b
may_swap_exact = swaps_exact prio may_swap lists_round table_tells

-- Two operations on a priority queue swap nowhere if the table says that they do not swap.
pub may_not_swap : (a b : PrioOp) → may_swap a b ≡ false → SwapsNowhere prio a b
may_not_swap = swaps_nowhere prio may_swap lists_round table_tells
