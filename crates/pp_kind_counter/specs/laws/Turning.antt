-- Proof machinery: what the table says of a pair, by its forms.
use Rattle.std.proofs.Common.{◌≡◌, ℤ, ◌+ℤ◌, true, false, refl, arith}
use Rattle.std.proofs.lemmas.Int.{ints}
use Rattle.pp_kind_counter.specs.declared.op.CounterOp.{CounterOp}
use Rattle.pp_kind_counter.specs.declared.op.CounterOp.TheVariants.{Add, Get, FetchAdd}
use Rattle.pp_kind_counter.specs.Operations.{shift_of}
use Rattle.pp_kind_counter.specs.Movers.{may_swap}
use Rattle.pp_kind_counter.specs.Contexts.{pair_begins}
use Rattle.pp_kind_counter.specs.laws.Legal.{Tells}

-- A pair that the table allows to swap is legal in the other order too.
pub second_is_first : (a b : CounterOp) (n : ℤ) → may_swap a b ≡ true → Tells a n
    → Tells b (n +ℤ shift_of a) → Tells b n
second_is_first (Add d) (Add e) n t h k = tt
second_is_first (Add d) (Get w) n t h k = grind (arith, ints)
second_is_first (Add d) (FetchAdd e w) n t h k = grind (arith, ints)
second_is_first (Get v) (Add e) n t h k = tt
second_is_first (Get v) (Get w) n t h k = grind (arith, ints)
second_is_first (Get v) (FetchAdd e w) n t h k = grind (arith, ints)
second_is_first (FetchAdd d v) (Add e) n t h k = tt
second_is_first (FetchAdd d v) (Get w) n t h k = grind (arith, ints)
second_is_first (FetchAdd d v) (FetchAdd e w) n t h k = grind (arith, ints)

-- If a pair is legal and the table says that it swaps, its first is legal after its second.
pub first_is_second : (a b : CounterOp) (n : ℤ) → may_swap a b ≡ true → Tells a n
    → Tells b (n +ℤ shift_of a) → Tells a (n +ℤ shift_of b)
first_is_second (Add d) b n t h k = tt
first_is_second (Get v) (Add e) n t h k = grind (arith, ints)
first_is_second (Get v) (Get w) n t h k = grind (arith, ints)
first_is_second (Get v) (FetchAdd e w) n t h k = grind (arith, ints)
first_is_second (FetchAdd d v) (Add e) n t h k = grind (arith, ints)
first_is_second (FetchAdd d v) (Get w) n t h k = grind (arith, ints)
first_is_second (FetchAdd d v) (FetchAdd e w) n t h k = grind (arith, ints)

-- A pair that the table does not allow to swap is legal in this order in some state, and not in the
-- other order.
pub begins_first : (a b : CounterOp) → may_swap a b ≡ false → Tells a (pair_begins a b)
begins_first (Add d) b t = tt
begins_first (Get v) (Add e) t = refl
begins_first (Get v) (Get w) t = refl
begins_first (Get v) (FetchAdd e w) t = refl
begins_first (FetchAdd d v) (Add e) t = refl
begins_first (FetchAdd d v) (Get w) t = refl
begins_first (FetchAdd d v) (FetchAdd e w) t = refl

-- If the table says that a pair does not swap, its second is legal after its first there.
pub begins_second : (a b : CounterOp) → may_swap a b ≡ false
    → Tells b (pair_begins a b +ℤ shift_of a)
begins_second a (Add e) t = tt
begins_second (Add d) (Get w) t = grind (arith, ints)
begins_second (Add d) (FetchAdd e w) t = grind (arith, ints)
begins_second (Get v) (Get w) t = grind (arith, ints)
begins_second (Get v) (FetchAdd e w) t = grind (arith, ints)
begins_second (FetchAdd d v) (Get w) t = grind (arith, ints)
begins_second (FetchAdd d v) (FetchAdd e w) t = grind (arith, ints)

-- If the table says that a pair does not swap, it is not legal in the other order.
pub not_turned : (a b : CounterOp) → may_swap a b ≡ false → Tells b (pair_begins a b)
    → Tells a (pair_begins a b +ℤ shift_of b) → ⊥
not_turned (Add d) (Add e) t h k = grind (arith, ints)
not_turned (Add d) (Get w) t h k = grind (arith, ints)
not_turned (Add d) (FetchAdd e w) t h k = grind (arith, ints)
not_turned (Get v) (Add e) t h k = grind (arith, ints)
not_turned (Get v) (Get w) t h k = grind (arith, ints)
not_turned (Get v) (FetchAdd e w) t h k = grind (arith, ints)
not_turned (FetchAdd d v) (Add e) t h k = grind (arith, ints)
not_turned (FetchAdd d v) (Get w) t h k = grind (arith, ints)
not_turned (FetchAdd d v) (FetchAdd e w) t h k = grind (arith, ints)
