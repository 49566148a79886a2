use Rattle.std.proofs.Common.{arith}
use Rattle.std.proofs.lemmas.Int.{ints}
use Rattle.pp_kind_counter.proofs.Reached.{reached_high, reached_low, shift_high, shift_low}
use Rattle.pp_kind_counter.proofs.count.CountSpec.undo.Goals as goal

pub overflow_sub-state : goal.overflow_sub-state
overflow_sub-state g c =
    let before = c.requires.0 in
    let high = reached_high before c.requires.1 in
    let low = reached_low before c.requires.1 in
    let up = shift_high c.args.op.now c.requires.2 in
    let down = shift_low c.args.op.now c.requires.2 in
    let moved = c.shift.ensures in
    let cast = c.from.ensures in
    let was = c.requires.4 in
    omega (arith, ints)

pub returns-clause-ok : goal.returns-clause-ok
returns-clause-ok g c =
    let before = c.requires.0 in
    let high = reached_high before c.requires.1 in
    let low = reached_low before c.requires.1 in
    let up = shift_high c.args.op.now c.requires.2 in
    let down = shift_low c.args.op.now c.requires.2 in
    let moved = c.shift.ensures in
    let cast = c.from.ensures in
    let was = c.requires.4 in
    omega (arith, ints)
