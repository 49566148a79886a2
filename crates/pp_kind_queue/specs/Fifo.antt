-- Meaning: what a queue means.
use Rattle.std.specs.Prelude.{ℤ, List, [], true, false}
use Rattle.pp_kind.specs.Object.{Object}
use Rattle.pp_kind_queue.specs.declared.op.QueueOp.{QueueOp}
use Rattle.pp_kind_queue.specs.Operations.{items_after, items_before, call_of, recorded_by, given_by}
use Rattle.pp_kind_queue.specs.Operations.{is_ranged}
use Rattle.pp_kind_queue.specs.Contexts.{refuting_lists}

-- the items from front to back, at first none
abbrev pub fifo : Object (Unit {0}) (List ℤ) QueueOp (Unit {0})
fifo = record {
  start = λ shape. [];
  shape = λ items. tt;
  fits = λ shape op. true;
  ranged = is_ranged;
  call = call_of;
  recorded = recorded_by;
  gives = given_by;
  next = items_after;
  refuting = refuting_lists;
  upkeep = record {
    IsState = λ items. Unit {0};
    kept = λ items op. tt;
    back = λ items op undo. items_before items op;
    in_clique = λ op. false;
  };
}
