-- Proof machinery: a pair swaps exactly if the table lets it.
use Rattle.std.proofs.Common.{◌≡◌, true, false, IsTrue, [], ◌∷◌, ◌++◌, ◌↔◌, refl, ap, arith, Some}
use Rattle.std.proofs.Common.{None}
use Rattle.std.proofs.lemmas.Int.{ints}
use Rattle.pp_kind.specs.Object.{AllowedFrom, AllRanged, state_after, Commutes, Swaps, SwapsNowhere}
use Rattle.pp_kind.proofs.Tests.{IsTold, swaps_exact, swaps_nowhere}
use Rattle.pp_kind_stack.specs.declared.op.StackOp.{StackOp}
use Rattle.pp_kind_stack.specs.declared.op.StackOp.TheVariants.{Push, Pop}
use Rattle.pp_kind_stack.specs.Operations.{items_after, is_ranged}
use Rattle.pp_kind_stack.specs.Movers.{may_swap}
use Rattle.pp_kind_stack.specs.Contexts.{before_pair, after_pair, lists_round}
use Rattle.pp_kind_stack.specs.Stacks.{stack}
use Rattle.pp_kind_stack.specs.laws.Legal.{told, legal_where_told}
use Rattle.pp_kind_stack.specs.laws.Turning.{pair_turns}

may_swap_commutes : (a b : StackOp) → may_swap a b ≡ true → Commutes stack a b
may_swap_commutes a b t shape before allowed h k =
    let items = state_after stack shape before in
    let turned = pair_turns a b items t (told a items h) (told b (items_after items a) k) in (
      legal_where_told b items turned.second_first,
      legal_where_told a (items_after items b) turned.first_second,
      turned.same,
    )

-- The lists refute a pair that the table does not allow to swap: between them it is allowed in this
-- order, and not in the other.
pair_refuted : (a b : StackOp) → may_swap a b ≡ false
    → AllowedFrom stack [] (before_pair a b ++ (a ∷ b ∷ after_pair a b))
pair_refuted (Push x) (Push y) t = ((refl, refl), ((refl, refl), ((refl, refl), tt)))
pair_refuted (Push x) (Pop (Some y)) t = let e : Some x ≡ Some y = ap Some (grind (arith, ints)) in
    ((refl, refl), (legal_where_told (Pop (Some y)) (x ∷ []) e, tt))
pair_refuted (Push x) (Pop None) t = absurd (cc)
pair_refuted (Pop (Some x)) (Push y) t = ((refl, refl), ((refl, refl), ((refl, refl), tt)))
pair_refuted (Pop (Some x)) (Pop (Some y)) t =
    ((refl, refl), ((refl, refl), ((refl, refl), ((refl, refl), tt))))
pair_refuted (Pop (Some x)) (Pop None) t = ((refl, refl), ((refl, refl), ((refl, refl), tt)))
pair_refuted (Pop None) (Push y) t = ((refl, refl), ((refl, refl), tt))
pair_refuted (Pop None) (Pop (Some y)) t = absurd (cc)
pair_refuted (Pop None) (Pop None) t = absurd (cc)

turned_refuted : (a b : StackOp) → may_swap a b ≡ false
    → AllowedFrom stack [] (before_pair a b ++ (b ∷ a ∷ after_pair a b)) → ⊥
turned_refuted (Push x) (Push y) t h = let e = told (Pop (Some y)) (y ∷ x ∷ []) h.1.1.0 in
    let f : x ≡ y = cc in grind (arith, ints)
turned_refuted (Push x) (Pop (Some y)) t h = let e = told (Pop (Some y)) [] h.0 in cc
turned_refuted (Push x) (Pop None) t h = cc
turned_refuted (Pop (Some x)) (Push y) t h = let e = told (Pop (Some x)) (x ∷ y ∷ []) h.1.1.0 in
    let f : y ≡ x = cc in grind (arith, ints)
turned_refuted (Pop (Some x)) (Pop (Some y)) t h = let e =
    told (Pop (Some y)) (y ∷ x ∷ []) h.1.1.0 in let f : x ≡ y = cc in grind (arith, ints)
turned_refuted (Pop (Some x)) (Pop None) t h = let e = told (Pop None) (x ∷ []) h.1.0 in cc
turned_refuted (Pop None) (Push y) t h = let e = told (Pop None) (y ∷ []) h.1.0 in cc
turned_refuted (Pop None) (Pop (Some y)) t h = cc
turned_refuted (Pop None) (Pop None) t h = cc

before_ranged : (a b : StackOp) → IsTrue (is_ranged a) → IsTrue (is_ranged b)
    → AllRanged stack (before_pair a b)
before_ranged (Push x) (Push y) h k = tt
before_ranged (Push x) (Pop q) h k = tt
before_ranged (Pop None) (Push y) h k = tt
before_ranged (Pop None) (Pop q) h k = tt
before_ranged (Pop (Some x)) (Push y) h k = (h, tt)
before_ranged (Pop (Some x)) (Pop (Some y)) h k = (k, (h, tt))
before_ranged (Pop (Some x)) (Pop None) h k = (h, tt)

after_ranged : (a b : StackOp) → IsTrue (is_ranged a) → IsTrue (is_ranged b)
    → AllRanged stack (after_pair a b)
after_ranged (Push x) (Push y) h k = (k, tt)
after_ranged (Push x) (Pop q) h k = tt
after_ranged (Pop r) (Push y) h k = tt
after_ranged (Pop r) (Pop q) h k = tt

-- The pair swaps exactly if the table lets it, and else nowhere.
pub table_tells : IsTold stack may_swap lists_round
table_tells = record {
  refuting = λ a b. refl;
  commutes = may_swap_commutes;
  allowed = pair_refuted;
  turned = turned_refuted;
  ranged_before = before_ranged;
  ranged_after = after_ranged;
}

-- Two operations on a stack swap exactly if the table says so.
pub may_swap_exact : (a b : StackOp) → (may_swap a b ≡ true) ↔ Swaps stack a b
may_swap_exact = swaps_exact stack may_swap lists_round table_tells

-- Two operations on a stack swap nowhere if the table says that they do not swap.
pub may_not_swap : (a b : StackOp) → may_swap a b ≡ false → SwapsNowhere stack a b
may_not_swap = swaps_nowhere stack may_swap lists_round table_tells
