-- Meaning: what a stack means.
use Rattle.std.specs.Prelude.{ℤ, List, [], true, false}
use Rattle.pp_kind.specs.Object.{Object}
use Rattle.pp_kind_stack.specs.declared.op.StackOp.{StackOp}
use Rattle.pp_kind_stack.specs.Operations.{items_after, items_before, call_of, recorded_by, given_by}
use Rattle.pp_kind_stack.specs.Operations.{is_ranged}
use Rattle.pp_kind_stack.specs.Contexts.{refuting_lists}

-- the items from bottom to top, at first none
abbrev pub stack : Object (Unit {0}) (List ℤ) StackOp (Unit {0})
stack = record {
  start = λ shape. [];
  shape = λ items. tt;
  fits = λ shape op. true;
  ranged = is_ranged;
  call = call_of;
  recorded = recorded_by;
  gives = given_by;
  next = items_after;
  refuting = refuting_lists;
  upkeep = record {
    IsState = λ items. Unit {0};
    kept = λ items op. tt;
    back = λ items op undo. items_before items op;
    in_clique = λ op. false;
  };
}
