-- Proof machinery: when an operation of a queue is legal.
use Rattle.std.proofs.Common.{◌≡◌, ℤ, List, refl, ap}
use Rattle.pp_core.specs.declared.call.Call.{Call}
use Rattle.pp_kind.specs.Found.{answer_of}
use Rattle.pp_kind.specs.Object.{IsLegal}
use Rattle.pp_kind.proofs.Results.{same_found}
use Rattle.pp_kind_queue.specs.declared.op.QueueOp.{QueueOp}
use Rattle.pp_kind_queue.specs.declared.op.QueueOp.TheVariants.{Enq, Deq}
use Rattle.pp_kind_queue.specs.Operations.{front_of, given_by, call_of}
use Rattle.pp_kind_queue.specs.Fifo.{fifo}

-- The front that the result of an operation shows.
abbrev pub Tells : QueueOp → List ℤ → Type 0
Tells (Enq value) items = Unit {0}
Tells (Deq value) items = front_of items ≡ value

-- An operation is legal exactly at the front that its result shows.
pub told : (op : QueueOp) (items : List ℤ) → IsLegal fifo items op → Tells op items
told (Enq value) items h = tt
told (Deq value) items h = same_found (front_of items) value h.1

-- An operation is legal if the front of the queue is the one that it records.
pub legal_where_told : (op : QueueOp) (items : List ℤ) → Tells op items → IsLegal fifo items op
legal_where_told (Enq value) items h = (refl, refl)
legal_where_told (Deq value) items h = (refl, ap answer_of h)

-- Operations of one call have one result in one state.
pub same_given : (items : List ℤ) (a b : QueueOp) → call_of a ≡ call_of b
    → given_by items a ≡ given_by items b
same_given items (Enq x) (Enq y) h = refl
same_given items (Deq r) (Deq q) h = refl
same_given items (Enq x) (Deq q) h = let m = ap (λ (c : Call). c.method) h in cc
same_given items (Deq r) (Enq y) h = let m = ap (λ (c : Call). c.method) h in cc
