use Rattle.std.proofs.Common.{arith}
use Rattle.std.proofs.lemmas.Int.{ints}
use Rattle.pp_kind_counter.proofs.Reached.{reached_high, reached_low}
use Rattle.pp_kind_counter.proofs.gap.CountGapped.close.Goals as goal

pub overflow_sub-state : goal.overflow_sub-state
overflow_sub-state g c =
    let other = c.requires.1 in
    let high = reached_high other.0 other.2 in
    let low = reached_low other.0 other.2 in
    let apart = other.3 in
    let cast = c.from.ensures in
    omega (arith, ints)

pub returns-clause-ok : goal.returns-clause-ok
returns-clause-ok g c = λ t is apart.
    let other = c.requires.1 in
    let high = reached_high other.0 other.2 in
    let low = reached_low other.0 other.2 in
    let also = other.3 in
    let cast = c.from.ensures in
    omega (arith, ints)
