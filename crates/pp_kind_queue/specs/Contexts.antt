-- Meaning: operations that show that a pair does not swap.
use Rattle.std.specs.Prelude.{if◌then◌else◌, List, [], ◌∷◌, Option, Some, None}
use Rattle.pp_kind_queue.specs.declared.op.QueueOp.{QueueOp}
use Rattle.pp_kind_queue.specs.declared.op.QueueOp.TheVariants.{Enq, Deq}
use Rattle.pp_kind_queue.specs.Movers.{may_swap}

-- before a dequeue that took an item, what it took, and what the second took
abbrev pub before_pair : QueueOp → QueueOp → List QueueOp
before_pair (Enq value) (Enq other) = []
before_pair (Enq value) (Deq found) = []
before_pair (Deq None) (Enq value) = []
before_pair (Deq None) (Deq found) = []
before_pair (Deq (Some x)) (Enq value) = Enq x ∷ []
before_pair (Deq (Some x)) (Deq (Some y)) = Enq x ∷ Enq y ∷ []
before_pair (Deq (Some x)) (Deq None) = Enq x ∷ []

-- after two items, the first of them is taken
abbrev pub after_pair : QueueOp → QueueOp → List QueueOp
after_pair (Enq x) (Enq y) = Deq (Some x) ∷ []
after_pair (Enq x) (Deq value) = []
after_pair (Deq found) (Enq value) = []
after_pair (Deq found) (Deq other) = []

-- the operations before and after such a pair
abbrev pub lists_round : QueueOp → QueueOp → List QueueOp × List QueueOp
lists_round a b = (before_pair a b, after_pair a b)

-- the refuting lists of a pair, if it does not swap
abbrev pub refuting_lists : QueueOp → QueueOp → Option (List QueueOp × List QueueOp)
refuting_lists a b = if may_swap a b then None else Some (lists_round a b)
