-- Proof machinery: what the table says of a pair, by its forms.
use Rattle.std.proofs.Common.{◌≡◌, ℤ, true, List, [], ◌∷◌, Some, None, refl, arith}
use Rattle.std.proofs.lemmas.Int.{ints}
use Rattle.pp_kind_queue.specs.declared.op.QueueOp.{QueueOp}
use Rattle.pp_kind_queue.specs.declared.op.QueueOp.TheVariants.{Enq, Deq}
use Rattle.pp_kind_queue.specs.Operations.{items_after}
use Rattle.pp_kind_queue.specs.Movers.{may_swap}
use Rattle.pp_kind_queue.specs.laws.Legal.{Tells}

-- The second and then the first record the fronts that they find, and leave the same items.
pub record Turns (a b : QueueOp) (items : List ℤ) : Type 0 where
  pub second_first : Tells b items
  pub first_second : Tells a (items_after items b)
  pub same : items_after (items_after items b) a ≡ items_after (items_after items a) b

-- A pair that the table allows to swap may be turned wherever it is legal.
pub pair_turns : (a b : QueueOp) (items : List ℤ) → may_swap a b ≡ true → Tells a items
    → Tells b (items_after items a) → Turns a b items
pair_turns (Enq x) (Enq y) items t h k = let e : x ≡ y = grind (arith, ints) in
    record { second_first = tt; first_second = tt; same = cc }
pair_turns (Enq x) (Deq (Some y)) [] t h k = absurd (let e : x ≡ y = cc in grind (arith, ints))
pair_turns (Enq x) (Deq (Some y)) (z ∷ items) t h k =
    record { second_first = k; first_second = tt; same = refl }
pair_turns (Enq x) (Deq None) [] t h k = absurd (cc)
pair_turns (Enq x) (Deq None) (z ∷ items) t h k = absurd (cc)
pair_turns (Deq (Some x)) (Enq y) [] t h k = absurd (cc)
pair_turns (Deq (Some x)) (Enq y) (z ∷ items) t h k =
    record { second_first = tt; first_second = h; same = refl }
pair_turns (Deq None) (Enq y) items t h k = absurd (cc)
pair_turns (Deq r) (Deq q) [] t h k = record { second_first = k; first_second = h; same = refl }
pair_turns (Deq (Some x)) (Deq (Some y)) (z ∷ items) t h k =
    let e : x ≡ y = grind (arith, ints) in
    record { second_first = cc; first_second = cc; same = refl }
pair_turns (Deq (Some x)) (Deq None) (z ∷ items) t h k = absurd (cc)
pair_turns (Deq None) (Deq q) (z ∷ items) t h k = absurd (cc)
