-- Meaning: what a memory means.
use Rattle.std.specs.Prelude.{ℤ, true}
use Rattle.std.specs.Ordering.{int_cmp}
use Rattle.std.specs.FinMap.{FinMap, empty}
use Rattle.pp_kind.specs.Object.{Object}
use Rattle.pp_kind_keyed.specs.Keys.{Keys}
use Rattle.pp_kind_memory.specs.declared.op.MemOp.{MemOp}
use Rattle.pp_kind_memory.specs.declared.op.MemOp.TheVariants.{Read}
use Rattle.pp_kind_memory.specs.declared.undo.Undo.{Undo}
use Rattle.pp_kind_memory.specs.Values.{value_at, HasNoZero}
use Rattle.pp_kind_memory.specs.Operations.{address_of, Finds, left_by, call_of, recorded_by, given_by}
use Rattle.pp_kind_memory.specs.Operations.{memory_after, kept_by, memory_before, in_clique, is_ranged}
use Rattle.pp_kind_memory.specs.Contexts.{refuting_lists}

-- numbers at addresses, at first 0 everywhere, which operations read and write
abbrev pub memory : Object (Unit {0}) (FinMap int_cmp ℤ) MemOp Undo
memory = record {
  start = λ shape. empty;
  shape = λ m. tt;
  fits = λ shape op. true;
  ranged = is_ranged;
  call = call_of;
  recorded = recorded_by;
  gives = given_by;
  next = memory_after;
  refuting = refuting_lists;
  upkeep = record {
    IsState = HasNoZero;
    kept = kept_by;
    back = memory_before;
    in_clique = in_clique;
  };
}

-- it keeps a number at each address
abbrev pub addresses : Keys (FinMap int_cmp ℤ) MemOp ℤ
addresses = record {
  cell = value_at;
  key = address_of;
  Finds = Finds;
  left = left_by;
  read = Read;
}
