use Rattle.std.proofs.Common.{arith}
use Rattle.pp_opacity.proofs.Serials.{serial_shorter}
use Rattle.pp_opacity.proofs.explained.find_explanation.Goals as goal

pub returns-in_err-advance_to-clause-bound : goal.returns-in_err-advance_to-clause-bound
returns-in_err-advance_to-clause-bound g c =
    let so = c.in_ok-found.ensures.cost in
    let more = c.in_err-advance_to.ensures.cost in
    let part = serial_shorter c.args.committed.now c.args.low c.descend.new.serial.count c.in_ok-found.ensures.above in
    omega (arith, so, more, part)

pub returns-then-found-clause-bound : goal.returns-then-found-clause-bound
returns-then-found-clause-bound g c =
    let so = c.in_ok-found.ensures.cost in
    let more = c.in_ok-advance_to.ensures.cost in
    let part = serial_shorter c.args.committed.now c.args.low c.descend.new.serial.count c.in_ok-found.ensures.above in
    omega (arith, so, more, part)

pub returns-else-found-clause-bound : goal.returns-else-found-clause-bound
returns-else-found-clause-bound g c =
    let so = c.in_ok-found.ensures.cost in
    let more = c.in_ok-advance_to.ensures.cost in
    let part = serial_shorter c.args.committed.now c.args.low c.descend.new.serial.count c.in_ok-found.ensures.above in
    omega (arith, so, more, part)
