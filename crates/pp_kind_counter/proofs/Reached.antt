-- Proof machinery: how far a run moves the number.
use Rattle.std.proofs.Common.{ℤ, pos, negsuc, ◌+ℤ◌, ◌≤ℤ◌, ◌*◌, ◌<◌, IsTrue, List, [], ◌∷◌}
use Rattle.std.proofs.Common.{length, arith}
use Rattle.std.proofs.lemmas.Int.{ints}
use Rattle.pp_kind.specs.Object.{AllRanged, state_from, IsReached}
use Rattle.pp_kind_counter.specs.declared.op.CounterOp.{CounterOp}
use Rattle.pp_kind_counter.specs.declared.op.CounterOp.TheVariants.{Add, Get, FetchAdd}
use Rattle.pp_kind_counter.specs.Operations.{shift_of, is_ranged}
use Rattle.pp_kind_counter.specs.Count.{counter}

-- Each ranged operation moves the number by at most the limit.
above : (n : ℤ) (ops : List CounterOp) → AllRanged counter ops
    → state_from counter n ops ≤ℤ (n +ℤ pos (1_000_000_000_000_000_000 * length ops))
above n [] r = omega (arith, ints)
above n (Add by ∷ ops) r = let h = above (n +ℤ by) ops r.1 in grind (arith, ints)
above n (Get value ∷ ops) r = let h = above (n +ℤ pos 0) ops r.1 in grind (arith, ints)
above n (FetchAdd by was ∷ ops) r = let h = above (n +ℤ by) ops r.1 in grind (arith, ints)

below : (n : ℤ) (ops : List CounterOp) → AllRanged counter ops
    → n ≤ℤ (state_from counter n ops +ℤ pos (1_000_000_000_000_000_000 * length ops))
below n [] r = omega (arith, ints)
below n (Add by ∷ ops) r = let h = below (n +ℤ by) ops r.1 in grind (arith, ints)
below n (Get value ∷ ops) r = let h = below (n +ℤ pos 0) ops r.1 in grind (arith, ints)
below n (FetchAdd by was ∷ ops) r = let h = below (n +ℤ by) ops r.1 in grind (arith, ints)

-- A number that is reached is at most this bound.
pub reached_high : (n : ℤ) → IsReached counter n → n ≤ℤ pos 4_294_967_552_000_000_000_000_000_000
reached_high n h =
    let k = above (pos 0) h.ops h.log.ranged in
    let f : length h.ops < 4_294_967_552 = h.few in
    let e = h.log.is in
    grind (arith, ints)

-- A counter that is reached is not below the least number that a run can lead to.
pub reached_low : (n : ℤ) → IsReached counter n → negsuc 4_294_967_552_000_000_000_000_000_000 ≤ℤ n
reached_low n h =
    let k = below (pos 0) h.ops h.log.ranged in
    let f : length h.ops < 4_294_967_552 = h.few in
    let e = h.log.is in
    grind (arith, ints)

-- A ranged operation moves the number by at most the limit.
pub shift_high : (op : CounterOp) → IsTrue (is_ranged op)
    → shift_of op ≤ℤ pos 1_000_000_000_000_000_000
shift_high (Add by) r = grind (arith, ints)
shift_high (Get value) r = omega (arith, ints)
shift_high (FetchAdd by was) r = grind (arith, ints)

-- A ranged operation moves a counter down by at most the limit.
pub shift_low : (op : CounterOp) → IsTrue (is_ranged op)
    → negsuc 999_999_999_999_999_999 ≤ℤ shift_of op
shift_low (Add by) r = grind (arith, ints)
shift_low (Get value) r = omega (arith, ints)
shift_low (FetchAdd by was) r = grind (arith, ints)
