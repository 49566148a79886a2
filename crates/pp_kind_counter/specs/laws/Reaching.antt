-- Proof machinery: the additions that lead to a number.
use Rattle.std.proofs.Common.{◌≡◌, ℤ, pos, negsuc, ◌≤ℤ◌, Bool, true, false, int_lt, IsTrue, arith}
use Rattle.std.proofs.Common.{rules}
use Rattle.std.proofs.lemmas.Int.{ints}
use Rattle.pp_kind.specs.Numbers.{in_range}
use Rattle.pp_kind.specs.Object.{AllowedFrom, state_from, AllRanged}
use Rattle.pp_kind_counter.specs.declared.op.CounterOp.{CounterOp}
use Rattle.pp_kind_counter.specs.declared.op.CounterOp.TheVariants.{Add, Get, FetchAdd}
use Rattle.pp_kind_counter.specs.Operations.{is_ranged}
use Rattle.pp_kind_counter.specs.Contexts.{reach_by, reach, pair_begins}
use Rattle.pp_kind_counter.specs.Count.{counter}

-- The additions of `reach` are allowed everywhere, and lead to the number.
pub reach_by_allowed : (zero inside up : Bool) (n x : ℤ)
    → AllowedFrom counter n (reach_by zero inside up x)
reach_by_allowed true inside up n x = tt
reach_by_allowed false true up n x = search rules
reach_by_allowed false false true n x = search rules
reach_by_allowed false false false n x = search rules

-- The additions of `reach` lead to the number.
pub reach_state : (x : ℤ) → state_from counter (pos 0) (reach x) ≡ x
reach_state x = grind (arith, ints)

-- The additions of `reach` to a number within twice the limit are ranged.
pub reach_by_ranged : (zero inside up : Bool) (x : ℤ) → negsuc 1_999_999_999_999_999_999 ≤ℤ x
    → x ≤ℤ pos 2_000_000_000_000_000_000 → inside ≡ in_range x → up ≡ int_lt (pos 0) x
    → AllRanged counter (reach_by zero inside up x)
reach_by_ranged true inside up x low high e f = tt
reach_by_ranged false true up x low high e f = grind (arith, ints)
reach_by_ranged false false true x low high e f = grind (arith, ints)
reach_by_ranged false false false x low high e f = grind (arith, ints)

-- The pair begins within twice the limit.
pub begins_low : (a b : CounterOp) → IsTrue (is_ranged a) → IsTrue (is_ranged b)
    → negsuc 1_999_999_999_999_999_999 ≤ℤ pair_begins a b
begins_low (Get v) (Add e) h k = grind (arith, ints)
begins_low (Get v) (Get w) h k = grind (arith, ints)
begins_low (Get v) (FetchAdd e w) h k = grind (arith, ints)
begins_low (FetchAdd d v) (Add e) h k = grind (arith, ints)
begins_low (FetchAdd d v) (Get w) h k = grind (arith, ints)
begins_low (FetchAdd d v) (FetchAdd e w) h k = grind (arith, ints)
begins_low (Add d) (Add e) h k = grind (arith, ints)
begins_low (Add d) (Get v) h k = grind (arith, ints)
begins_low (Add d) (FetchAdd e v) h k = grind (arith, ints)

-- A ranged pair begins at no more than twice the limit.
pub begins_high : (a b : CounterOp) → IsTrue (is_ranged a) → IsTrue (is_ranged b)
    → pair_begins a b ≤ℤ pos 2_000_000_000_000_000_000
begins_high (Get v) (Add e) h k = grind (arith, ints)
begins_high (Get v) (Get w) h k = grind (arith, ints)
begins_high (Get v) (FetchAdd e w) h k = grind (arith, ints)
begins_high (FetchAdd d v) (Add e) h k = grind (arith, ints)
begins_high (FetchAdd d v) (Get w) h k = grind (arith, ints)
begins_high (FetchAdd d v) (FetchAdd e w) h k = grind (arith, ints)
begins_high (Add d) (Add e) h k = grind (arith, ints)
begins_high (Add d) (Get v) h k = grind (arith, ints)
begins_high (Add d) (FetchAdd e v) h k = grind (arith, ints)
