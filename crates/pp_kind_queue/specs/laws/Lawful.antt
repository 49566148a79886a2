-- Proof machinery: the laws of a queue.
use Rattle.std.proofs.Common.{◌≡◌, ℕ, ℤ, pos, ◌-◌, List, [], ◌∷◌, ◌++◌, ◌&&◌, Some, None, refl, sym}
use Rattle.std.proofs.Common.{◌∙◌, ap, length, take, length-append, arith}
use Rattle.std.proofs.Math.Bool.{and-true}
use Rattle.std.proofs.Math.Seq.{take-append_seam}
use Rattle.pp_kind.proofs.Numbers.{one_ranged}
use Rattle.pp_kind.specs.Numbers.{in_range, has_ranged_arguments, is_ranged_answer}
use Rattle.pp_kind.specs.Object.{AllowedFrom, IsLawful}
use Rattle.pp_kind.proofs.Results.{found_numbers}
use Rattle.pp_kind.proofs.Tests.{unrefuted, refuted}
use Rattle.pp_kind_queue.specs.declared.op.QueueOp.{QueueOp}
use Rattle.pp_kind_queue.specs.declared.op.QueueOp.TheVariants.{Enq, Deq}
use Rattle.pp_kind_queue.specs.Operations.{without_last, items_after, items_before, call_of, recorded_by}
use Rattle.pp_kind_queue.specs.Operations.{is_ranged}
use Rattle.pp_kind_queue.specs.Movers.{may_swap}
use Rattle.pp_kind_queue.specs.Contexts.{lists_round}
use Rattle.pp_kind_queue.specs.Fifo.{fifo}
use Rattle.pp_kind_queue.specs.laws.Legal.{Tells, told, same_given}
use Rattle.pp_kind_queue.specs.laws.Swapping.{table_tells}

-- An item at the back is the last one.
last_added : (items : List ℤ) (x : ℤ) → without_last (items ++ x ∷ []) ≡ items
last_added items x =
    let e : length (items ++ x ∷ []) - 1 ≡ length items =
    omega (arith, length-append items (x ∷ [])) in
    ap (λ (n : ℕ). take n (items ++ x ∷ [])) e ∙ take-append_seam items (x ∷ [])

taken_back : (items : List ℤ) (op : QueueOp) → Tells op items
    → items_before (items_after items op) op ≡ items
taken_back items (Enq x) h = last_added items x
taken_back [] (Deq (Some x)) h = cc
taken_back (z ∷ items) (Deq (Some x)) h = cc
taken_back [] (Deq None) h = refl
taken_back (z ∷ items) (Deq None) h = cc

-- All items are taken, and then there is none.
abbrev drain : List ℤ → List QueueOp
drain [] = Deq None ∷ []
drain (x ∷ items) = Deq (Some x) ∷ drain items

drain_allowed : (items : List ℤ) → AllowedFrom fifo items (drain items)
drain_allowed [] = ((refl, refl), tt)
drain_allowed (x ∷ items) = ((refl, refl), drain_allowed items)

-- A queue that allows draining these items has these items.
drained : (items others : List ℤ) → AllowedFrom fifo others (drain items) → items ≡ others
drained [] [] h = refl
drained [] (y ∷ others) h = let e = told (Deq None) (y ∷ others) h.0 in cc
drained (x ∷ items) [] h = let e = told (Deq (Some x)) [] h.0 in cc
drained (x ∷ items) (y ∷ others) h = let e = told (Deq (Some x)) (y ∷ others) h.0 in let f =
    drained items others h.1 in cc

-- An operation is ranged if its argument and its recorded result are.
numbers : (op : QueueOp) → is_ranged op
    ≡ (has_ranged_arguments (call_of op) && is_ranged_answer (recorded_by op))
numbers (Enq x) = sym (and-true (has_ranged_arguments (call_of (Enq x))) ∙ one_ranged x)
numbers (Deq value) = found_numbers value

-- The laws of a queue.
pub fifo_lawful : IsLawful fifo
fifo_lawful = record {
  start_shape = λ shape. refl;
  start_is_state = λ shape. tt;
  next_shape = λ items op h. refl;
  next_is_state = λ items op h k. tt;
  taken_back = λ items op h k. taken_back items op (told op items k);
  told_apart = λ items others h k e also.
      drained items others (also (drain items) (drain_allowed items));
  one_answer = λ items a b e h k. sym h.1 ∙ same_given items a b e ∙ k.1;
  ranged_numbers = numbers;
  unrefuted = unrefuted fifo may_swap lists_round table_tells;
  refuted = refuted fifo may_swap lists_round table_tells;
}
