-- Meaning: what a map means.
use Rattle.std.specs.Prelude.{ℤ, true, Option, false}
use Rattle.std.specs.Option.{option_eq}
use Rattle.std.specs.Ordering.{int_eq, int_cmp}
use Rattle.std.specs.FinMap.{FinMap, empty, get}
use Rattle.pp_kind.specs.Object.{Object}
use Rattle.pp_kind_keyed.specs.Keys.{ToldKeys}
use Rattle.pp_kind_map.specs.declared.op.MapOp.{MapOp}
use Rattle.pp_kind_map.specs.declared.op.MapOp.TheVariants.{Get}
use Rattle.pp_kind_map.specs.Operations.{key_of, found_by, left_by, values_after, values_before, call_of}
use Rattle.pp_kind_map.specs.Operations.{recorded_by, given_by, is_ranged}
use Rattle.pp_kind_map.specs.Contexts.{refuting_lists}

-- numbers at keys, at first none
abbrev pub key_map : Object (Unit {0}) (FinMap int_cmp ℤ) MapOp (Unit {0})
key_map = record {
  start = λ shape. empty;
  shape = λ values. tt;
  fits = λ shape op. true;
  ranged = is_ranged;
  call = call_of;
  recorded = recorded_by;
  gives = given_by;
  next = values_after;
  refuting = refuting_lists;
  upkeep = record {
    IsState = λ values. Unit {0};
    kept = λ values op. tt;
    back = λ values op undo. values_before values op;
    in_clique = λ op. false;
  };
}

-- it keeps a value, or none, at each key
abbrev pub map_keys : ToldKeys (FinMap int_cmp ℤ) MapOp (Option ℤ)
map_keys = record {
  cell = get;
  alike = option_eq int_eq;
  key = key_of;
  found = found_by;
  left = left_by;
  read = λ key found. Get key found;
}
