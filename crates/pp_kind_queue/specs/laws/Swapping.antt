-- Proof machinery: a pair swaps exactly if the table lets it.
use Rattle.std.proofs.Common.{◌≡◌, true, false, IsTrue, [], ◌∷◌, ◌++◌, ◌↔◌, refl, ap, arith, Some}
use Rattle.std.proofs.Common.{None}
use Rattle.std.proofs.lemmas.Int.{ints}
use Rattle.pp_kind.specs.Object.{AllowedFrom, AllRanged, state_after, Commutes, Swaps, SwapsNowhere}
use Rattle.pp_kind.proofs.Tests.{IsTold, swaps_exact, swaps_nowhere}
use Rattle.pp_kind_queue.specs.declared.op.QueueOp.{QueueOp}
use Rattle.pp_kind_queue.specs.declared.op.QueueOp.TheVariants.{Enq, Deq}
use Rattle.pp_kind_queue.specs.Operations.{items_after, is_ranged}
use Rattle.pp_kind_queue.specs.Movers.{may_swap}
use Rattle.pp_kind_queue.specs.Contexts.{before_pair, after_pair, lists_round}
use Rattle.pp_kind_queue.specs.Fifo.{fifo}
use Rattle.pp_kind_queue.specs.laws.Legal.{told, legal_where_told}
use Rattle.pp_kind_queue.specs.laws.Turning.{pair_turns}

may_swap_commutes : (a b : QueueOp) → may_swap a b ≡ true → Commutes fifo a b
may_swap_commutes a b t shape before allowed h k =
    let items = state_after fifo shape before in
    let turned = pair_turns a b items t (told a items h) (told b (items_after items a) k) in (
      legal_where_told b items turned.second_first,
      legal_where_told a (items_after items b) turned.first_second,
      turned.same,
    )

-- The lists refute a pair that the table does not allow to swap: between them it is allowed in this
-- order, and not in the other.
pair_refuted : (a b : QueueOp) → may_swap a b ≡ false
    → AllowedFrom fifo [] (before_pair a b ++ (a ∷ b ∷ after_pair a b))
pair_refuted (Enq x) (Enq y) t = ((refl, refl), ((refl, refl), ((refl, refl), tt)))
pair_refuted (Enq x) (Deq (Some y)) t = let e : Some x ≡ Some y = ap Some (grind (arith, ints)) in
    ((refl, refl), (legal_where_told (Deq (Some y)) (x ∷ []) e, tt))
pair_refuted (Enq x) (Deq None) t = absurd (cc)
pair_refuted (Deq (Some x)) (Enq y) t = absurd (cc)
pair_refuted (Deq (Some x)) (Deq (Some y)) t =
    ((refl, refl), ((refl, refl), ((refl, refl), ((refl, refl), tt))))
pair_refuted (Deq (Some x)) (Deq None) t = ((refl, refl), ((refl, refl), ((refl, refl), tt)))
pair_refuted (Deq None) (Enq y) t = ((refl, refl), ((refl, refl), tt))
pair_refuted (Deq None) (Deq (Some y)) t = absurd (cc)
pair_refuted (Deq None) (Deq None) t = absurd (cc)

turned_refuted : (a b : QueueOp) → may_swap a b ≡ false
    → AllowedFrom fifo [] (before_pair a b ++ (b ∷ a ∷ after_pair a b)) → ⊥
turned_refuted (Enq x) (Enq y) t h = let e = told (Deq (Some x)) (y ∷ x ∷ []) h.1.1.0 in
    let f : y ≡ x = cc in grind (arith, ints)
turned_refuted (Enq x) (Deq (Some y)) t h = let e = told (Deq (Some y)) [] h.0 in cc
turned_refuted (Enq x) (Deq None) t h = cc
turned_refuted (Deq (Some x)) (Enq y) t h = cc
turned_refuted (Deq (Some x)) (Deq (Some y)) t h = let e =
    told (Deq (Some y)) (x ∷ y ∷ []) h.1.1.0 in let f : x ≡ y = cc in grind (arith, ints)
turned_refuted (Deq (Some x)) (Deq None) t h = let e = told (Deq None) (x ∷ []) h.1.0 in cc
turned_refuted (Deq None) (Enq y) t h = let e = told (Deq None) (y ∷ []) h.1.0 in cc
turned_refuted (Deq None) (Deq (Some y)) t h = cc
turned_refuted (Deq None) (Deq None) t h = cc

before_ranged : (a b : QueueOp) → IsTrue (is_ranged a) → IsTrue (is_ranged b)
    → AllRanged fifo (before_pair a b)
before_ranged (Enq x) (Enq y) h k = tt
before_ranged (Enq x) (Deq q) h k = tt
before_ranged (Deq None) (Enq y) h k = tt
before_ranged (Deq None) (Deq q) h k = tt
before_ranged (Deq (Some x)) (Enq y) h k = (h, tt)
before_ranged (Deq (Some x)) (Deq (Some y)) h k = (h, (k, tt))
before_ranged (Deq (Some x)) (Deq None) h k = (h, tt)

after_ranged : (a b : QueueOp) → IsTrue (is_ranged a) → IsTrue (is_ranged b)
    → AllRanged fifo (after_pair a b)
after_ranged (Enq x) (Enq y) h k = (h, tt)
after_ranged (Enq x) (Deq q) h k = tt
after_ranged (Deq r) (Enq y) h k = tt
after_ranged (Deq r) (Deq q) h k = tt

-- The pair swaps exactly if the table lets it, and else nowhere.
pub table_tells : IsTold fifo may_swap lists_round
table_tells = record {
  refuting = λ a b. refl;
  commutes = may_swap_commutes;
  allowed = pair_refuted;
  turned = turned_refuted;
  ranged_before = before_ranged;
  ranged_after = after_ranged;
}

-- Two operations on a queue swap exactly if the table says so.
pub may_swap_exact : (a b : QueueOp) → (may_swap a b ≡ true) ↔ Swaps fifo a b
may_swap_exact = swaps_exact fifo may_swap lists_round table_tells

-- Two operations on a queue swap nowhere if the table says that they do not swap.
pub may_not_swap : (a b : QueueOp) → may_swap a b ≡ false → SwapsNowhere fifo a b
may_not_swap = swaps_nowhere fifo may_swap lists_round table_tells
