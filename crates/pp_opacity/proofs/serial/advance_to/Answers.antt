use Rattle.std.proofs.Common.{◌≡◌, ◌+◌, ◌≤◌, ℕ, ap, length, take, arith}
use Rattle.pp_model.specs.Sound.{serial_ops}
use Rattle.pp_opacity.proofs.Serials.{serial_shorter}
use Rattle.pp_opacity.proofs.serial.advance_to.Goals as goal

pub returns-in_err-advance-clause-cost : goal.returns-in_err-advance-clause-cost
returns-in_err-advance-clause-cost g c =
    let n = c.loop-serial.serial.count in
    let test = c.loop-serial-test.true in
    let fewer : n + 1 ≤ c.args.count = omega (arith, test) in
    let all = serial_shorter c.args.committed.now (n + 1) c.args.count fewer in
    let so = c.loop-serial.invariant.cost in
    let more = c.in_err-advance.ensures.cost in
    omega (arith, all, so, more)

pub returns-clause-cost : goal.returns-clause-cost
returns-clause-cost g c =
    let below = c.loop-serial.invariant.below in
    let e : c.loop-serial.serial.count ≡ c.args.count = omega (arith, below, c.loop-serial-test.false) in
    let same = ap (λ (k : ℕ). length (serial_ops (take k c.args.committed.now))) e in
    let so = c.loop-serial.invariant.cost in
    omega (arith, same, so)
