-- Meaning: what a priority queue means.
use Rattle.std.specs.Prelude.{ℤ, List, [], true}
use Rattle.pp_kind.specs.Object.{Object}
use Rattle.pp_kind_priority.specs.declared.op.PrioOp.{PrioOp}
use Rattle.pp_kind_priority.specs.Values.{IsAscending}
use Rattle.pp_kind_priority.specs.Operations.{values_after, values_before, call_of, recorded_by, given_by}
use Rattle.pp_kind_priority.specs.Operations.{in_clique, is_ranged}
use Rattle.pp_kind_priority.specs.Contexts.{refuting_lists}

-- the values in ascending order, at first none
abbrev pub prio : Object (Unit {0}) (List ℤ) PrioOp (Unit {0})
prio = record {
  start = λ shape. [];
  shape = λ values. tt;
  fits = λ shape op. true;
  ranged = is_ranged;
  call = call_of;
  recorded = recorded_by;
  gives = given_by;
  next = values_after;
  refuting = refuting_lists;
  upkeep = record {
    IsState = IsAscending;
    kept = λ values op. tt;
    back = λ values op undo. values_before values op;
    in_clique = in_clique;
  };
}
