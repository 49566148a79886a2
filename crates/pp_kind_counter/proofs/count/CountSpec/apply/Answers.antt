use Rattle.std.proofs.Common.{refl, arith, rules}
use Rattle.std.proofs.lemmas.Int.{ints}
use Rattle.pp_kind_counter.proofs.Reached.{reached_high, reached_low, shift_high, shift_low}
use Rattle.pp_kind_counter.proofs.count.CountSpec.apply.Goals as goal

pub overflow_add-state : goal.overflow_add-state
overflow_add-state g c =
    let high = reached_high c.args.state.now c.requires.reached in
    let low = reached_low c.args.state.now c.requires.reached in
    let up = shift_high c.args.op.now c.requires.ranged in
    let down = shift_low c.args.op.now c.requires.ranged in
    let moved = c.shift.ensures in
    let cast = c.from.ensures in
    omega (arith, ints)

pub returns-clause-applied : goal.returns-clause-applied
returns-clause-applied g c =
    let high = reached_high c.args.state.now c.requires.reached in
    let low = reached_low c.args.state.now c.requires.reached in
    let up = shift_high c.args.op.now c.requires.ranged in
    let down = shift_low c.args.op.now c.requires.ranged in
    let moved = c.shift.ensures in
    let cast = c.from.ensures in
    let legal = c.legal.ensures in
    (search (rules, legal, c.if-not-legal.false), refl, omega (arith, ints))
