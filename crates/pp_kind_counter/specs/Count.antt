-- Meaning: what a counter means.
use Rattle.std.specs.Prelude.{◌≡◌, ℤ, pos, ◌+ℤ◌, ◌-ℤ◌, ℕ, true, false}
use Rattle.pp_kind.specs.Object.{Object}
use Rattle.pp_kind_counter.specs.declared.op.CounterOp.{CounterOp}
use Rattle.pp_kind_counter.specs.Operations.{shift_of, call_of, recorded_by, given_by, is_ranged}
use Rattle.pp_kind_counter.specs.Contexts.{refuting_lists}

-- a number, at first zero, to which operations add
abbrev pub counter : Object (Unit {0}) ℤ CounterOp (Unit {0})
counter = record {
  start = λ shape. pos 0;
  shape = λ n. tt;
  fits = λ shape op. true;
  ranged = is_ranged;
  call = call_of;
  recorded = recorded_by;
  gives = given_by;
  next = λ n op. n +ℤ shift_of op;
  refuting = refuting_lists;
  upkeep = record {
    IsState = λ n. Unit {0};
    kept = λ n op. tt;
    back = λ n op undo. n -ℤ shift_of op;
    in_clique = λ op. false;
  };
}

-- the numbers are equal, if the place is the counter's
abbrev pub SameAt : ℕ → ℤ → ℤ → Type 0
SameAt p n m = p ≡ 0 → n ≡ m
