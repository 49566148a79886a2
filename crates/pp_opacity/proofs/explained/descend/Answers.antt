use Rattle.std.proofs.Common.{◌≡◌, ◌*◌, ◌↔◌, ◌∙◌, ℕ, true, false, length, take, arith, ap, sym, subst, inl, inr, ◌≤◌, ◌-◌}
use Rattle.std.specs.Prelude.{IsTrue}
use Rattle.pp_model.specs.Sound.{serial_ops}
use Rattle.pp_kind.specs.Object.{rules_of}
use Rattle.pp_attempts.specs.Views.{Explains}
use Rattle.pp_opacity.proofs.Serials.{serial_shorter}
use Rattle.pp_opacity.proofs.Windows.{fewer_products, greatest_or_none, none_above, one_more}
use Rattle.pp_opacity.proofs.explained.descend.Goals as goal

pub returns-in_err-retreat-clause-bound : goal.returns-in_err-retreat-clause-bound
returns-in_err-retreat-clause-bound g c =
    let D = c.args.committed.now in
    let n = c.loop-found.serial.count in
    let so = c.loop-found.invariant.cost in
    let more = c.in_err-retreat.ensures.cost in
    let high = c.loop-found.invariant.high in
    let left = c.if-serial-low.true in
    let low : c.args.low ≤ n - 1 = omega (arith, left) in
    let within : n - 1 ≤ c.args.serial.now.count = omega (arith, high) in
    let part = serial_shorter D c.args.low (n - 1) low in
    let all = serial_shorter D (n - 1) c.args.serial.now.count within in
    let products = fewer_products c.args.low n (length c.args.items.now) (omega (arith, left)) in
    omega (arith, so, more, part, all, products)

pub is_explained_here-requires-in-loop-found : goal.is_explained_here-requires-in-loop-found
is_explained_here-requires-in-loop-found g c =
    let r = c.requires.ask in
    let ask = r.1 in
    (r.0, c.args.committed.now, record { run = ask.run; at = c.in_ok-retreat.ensures.at r.0 ask.run (c.loop-found.invariant.at r.0 ask); may = ask.may; none = ask.none })

pub returns-in_err-found-2-clause-bound : goal.returns-in_err-found-2-clause-bound
returns-in_err-found-2-clause-bound g c =
    let so = c.loop-found.invariant.cost in
    let back = c.in_ok-retreat.ensures.cost in
    let more = c.in_err-found-2.ensures.bound in
    let D = c.args.committed.now in
    let w = length c.args.items.now in
    let n = c.loop-found.serial.count in
    let m = c.retreat.new.serial.count in
    let e = c.in_ok-retreat.ensures.count in
    let high = c.loop-found.invariant.high in
    let left = c.if-serial-low.true in
    let low : c.args.low ≤ m = omega (arith, left, e) in
    let within : m ≤ c.args.serial.now.count = omega (arith, high, e) in
    let part = serial_shorter D c.args.low m low in
    let all = serial_shorter D m c.args.serial.now.count within in
    let less : n - 1 ≡ m = omega (arith, e) in
    let taken = ap (λ (k : ℕ). length (serial_ops (take k D))) less in
    let product = ap (λ (k : ℕ). k * w) e in
    let products = fewer_products c.args.low m w low in
    omega (arith, so, back, more, part, all, taken, product, one_more m w, products)

pub loop-found-preserved : goal.loop-found-preserved
loop-found-preserved g c =
    let o = g.S.Spec.object in
    let D = c.args.committed.now in
    let items = c.args.items.now in
    let w = length items in
    let n = c.loop-found.serial.count in
    let m = c.retreat.new.serial.count in
    let e = c.in_ok-retreat.ensures.count in
    let count = c.in_ok-found-2.ensures.count in
    let so = c.loop-found.invariant.cost in
    let back = c.in_ok-retreat.ensures.cost in
    let more = c.in_ok-found-2.ensures.bound in
    let up = c.in_ok-found-2.ensures.rises in
    let up2 = c.in_ok-retreat.ensures.rises in
    let rises = c.loop-found.invariant.rises in
    let high = c.loop-found.invariant.high in
    let left = c.if-serial-low.true in
    let less : n - 1 ≡ m = omega (arith, e) in
    let before = ap (λ (k : ℕ). length (serial_ops (take k D))) less in
    let product = ap (λ (k : ℕ). k * w) e in
    let same = ap (λ (k : ℕ). k * w) count in
    let taken = ap (λ (k : ℕ). length (serial_ops (take k D))) count in
    let no : c.loop-found.found ≡ false = c.loop-found-test.true in
    record {
      at = λ shape ask. c.in_ok-found-2.ensures.at shape D (record { run = ask.run; at = c.in_ok-retreat.ensures.at shape ask.run (c.loop-found.invariant.at shape ask); may = ask.may; none = ask.none });
      here = λ shape ask. subst (λ (k : ℕ). IsTrue c.in_ok-found-2.found ↔ Explains (rules_of o shape) D items k) (sym count)
          (c.in_ok-found-2.ensures.decided shape D (record { run = ask.run; at = c.in_ok-retreat.ensures.at shape ask.run (c.loop-found.invariant.at shape ask); may = ask.may; none = ask.none }));
      above = λ shape ask k less within h.
          none_above (rules_of o shape) D items n m c.args.serial.now.count c.loop-found.found e (c.loop-found.invariant.here shape ask) (λ is. let z : true ≡ false = sym is ∙ no in cc)
          (c.loop-found.invariant.above shape ask) k (omega (arith, less, count)) within h;
      low = omega (arith, left, e, count);
      high = omega (arith, high, e, count);
      rises = omega (arith, rises, up, up2);
      cost = omega (arith, so, back, more, before, product, same, taken, one_more m w);
    }

pub returns-else-serial-low-clause-decided : goal.returns-else-serial-low-clause-decided
returns-else-serial-low-clause-decided g c = λ shape ask.
    let i = c.loop-found.invariant in
    greatest_or_none (rules_of g.S.Spec.object shape) c.args.committed.now c.args.items.now c.loop-found.serial.count c.args.low c.args.serial.now.count c.loop-found.found i.low i.high
    (inl (omega (arith, c.if-serial-low.false))) (i.here shape ask) (i.above shape ask)

pub returns-else-serial-low-clause-bound : goal.returns-else-serial-low-clause-bound
returns-else-serial-low-clause-bound g c =
    let D = c.args.committed.now in
    let n = c.loop-found.serial.count in
    let so = c.loop-found.invariant.cost in
    let low = c.loop-found.invariant.low in
    let high = c.loop-found.invariant.high in
    let part = serial_shorter D c.args.low n low in
    let all = serial_shorter D n c.args.serial.now.count high in
    let products = fewer_products c.args.low n (length c.args.items.now) low in
    omega (arith, so, part, all, products)

pub returns-after-loop-found-clause-decided : goal.returns-after-loop-found-clause-decided
returns-after-loop-found-clause-decided g c = λ shape ask.
    let i = c.loop-found.invariant in
    let there : c.loop-found.found ≡ true = c.loop-found-test.false in
    greatest_or_none (rules_of g.S.Spec.object shape) c.args.committed.now c.args.items.now c.loop-found.serial.count c.args.low c.args.serial.now.count c.loop-found.found i.low i.high
    (inr there) (i.here shape ask) (i.above shape ask)

pub returns-after-loop-found-clause-bound : goal.returns-after-loop-found-clause-bound
returns-after-loop-found-clause-bound g c =
    let D = c.args.committed.now in
    let n = c.loop-found.serial.count in
    let so = c.loop-found.invariant.cost in
    let low = c.loop-found.invariant.low in
    let high = c.loop-found.invariant.high in
    let part = serial_shorter D c.args.low n low in
    let all = serial_shorter D n c.args.serial.now.count high in
    let products = fewer_products c.args.low n (length c.args.items.now) low in
    omega (arith, so, part, all, products)

pub returns-else-serial-low-clause-cost : goal.returns-else-serial-low-clause-cost
returns-else-serial-low-clause-cost g c =
    let so = c.loop-found.invariant.cost in
    let low = c.loop-found.invariant.low in
    let products = fewer_products c.args.low c.loop-found.serial.count (length c.args.items.now) low in
    omega (arith, so, products)

pub returns-after-loop-found-clause-cost : goal.returns-after-loop-found-clause-cost
returns-after-loop-found-clause-cost g c =
    let so = c.loop-found.invariant.cost in
    let low = c.loop-found.invariant.low in
    let products = fewer_products c.args.low c.loop-found.serial.count (length c.args.items.now) low in
    omega (arith, so, products)

pub returns-in_err-found-clause-bound : goal.returns-in_err-found-clause-bound
returns-in_err-found-clause-bound g c =
    let n = c.args.serial.now.count in
    let w = length c.args.items.now in
    let low = c.requires.low in
    let more = c.in_err-found.ensures.bound in
    let part = serial_shorter c.args.committed.now c.args.low n low in
    let products = fewer_products c.args.low n w low in
    omega (arith, more, part, products, one_more n w)
