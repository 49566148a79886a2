-- Meaning: what a set means.
use Rattle.std.specs.Prelude.{Bool, true, false, not}
use Rattle.std.specs.Ordering.{int_cmp}
use Rattle.std.specs.FinSet.{FinSet}
use Rattle.std.specs.FinMap.{empty}
use Rattle.pp_kind.specs.Object.{Object}
use Rattle.pp_kind_keyed.specs.Keys.{ToldKeys}
use Rattle.pp_kind_set.specs.declared.op.SetOp.{SetOp}
use Rattle.pp_kind_set.specs.declared.op.SetOp.TheVariants.{Contains}
use Rattle.pp_kind_set.specs.Keys.{contains}
use Rattle.pp_kind_set.specs.Operations.{key_of, bit_before, bit_after, call_of, recorded_by, given_by}
use Rattle.pp_kind_set.specs.Operations.{set_after, set_before, is_ranged}
use Rattle.pp_kind_set.specs.Contexts.{refuting_lists}

-- keys, at first none, which operations put in and take out
abbrev pub key_set : Object (Unit {0}) (FinSet int_cmp) SetOp (Unit {0})
key_set = record {
  start = λ shape. empty;
  shape = λ s. tt;
  fits = λ shape op. true;
  ranged = is_ranged;
  call = call_of;
  recorded = recorded_by;
  gives = given_by;
  next = set_after;
  refuting = refuting_lists;
  upkeep = record {
    IsState = λ s. Unit {0};
    kept = λ s op. tt;
    back = λ s op undo. set_before s op;
    in_clique = λ op. false;
  };
}

-- whether two bits are one
abbrev pub same_bit : Bool → Bool → Bool
same_bit true b = b
same_bit false b = not b

-- it keeps a bit at each key: whether the key is in
abbrev pub bits : ToldKeys (FinSet int_cmp) SetOp Bool
bits = record {
  cell = contains;
  alike = same_bit;
  key = key_of;
  found = bit_before;
  left = bit_after;
  read = Contains;
}
