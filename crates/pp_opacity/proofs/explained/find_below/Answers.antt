use Rattle.std.proofs.Common.{◌≤◌, ◌≡◌, ◌+◌, ◌-◌, ◌*◌, ℕ, length, take, ap, arith, sym, subst, ◌∙◌}
use Rattle.pp_model.specs.Sound.{serial_ops}
use Rattle.pp_kind.specs.Object.{rules_of}
use Rattle.pp_opacity.specs.Trials.{IsGreatest}
use Rattle.pp_opacity.proofs.Serials.{serial_shorter}
use Rattle.pp_opacity.proofs.Windows.{fewer_products, greatest_below}
use Rattle.pp_opacity.proofs.explained.find_below.Goals as goal

pub returns-in_err-retreat-clause-bound : goal.returns-in_err-retreat-clause-bound
returns-in_err-retreat-clause-bound g c =
    let n = c.args.serial.now.count in
    let low = c.requires.low in
    let more = c.in_err-retreat.ensures.cost in
    let part = serial_shorter c.args.committed.now c.args.low n low in
    let below : c.args.low ≤ n - 1 = omega (arith, low) in
    let lower = serial_shorter c.args.committed.now c.args.low (n - 1) below in
    let products = fewer_products c.args.low n (length c.args.items.now) low in
    omega (arith, more, part, lower, products)

pub returns-clause-decided : goal.returns-clause-decided
returns-clause-decided g c = λ shape ask none.
    let o = g.S.Spec.object in
    let m = c.retreat.new.serial.count in
    let less = c.in_ok-retreat.ensures.count in
    let at = c.in_ok-retreat.ensures.at shape ask.run ask.at in
    greatest_below (rules_of o shape) c.args.committed.now c.args.items.now c.args.low m c.args.serial.now.count c.in_ok-found.found less none
    (c.in_ok-found.ensures.decided shape (record { run = ask.run; at = at; may = ask.may; none = ask.none }))
