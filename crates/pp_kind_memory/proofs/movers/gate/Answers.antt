use Rattle.std.specs.Ordering.{int_eq}
use Rattle.std.proofs.Common.{◌≡◌, ◌-◌, ◌∙◌, arith}
use Rattle.pp_kind.proofs.Gates.{there_or_apart}
use Rattle.pp_kind_memory.specs.Operations.{address_of}
use Rattle.pp_kind_memory.specs.Movers.{figures_of, form_of, may_swap_there, number_of}
use Rattle.pp_kind_memory.specs.laws.Lawful.{may_swap_exact}
use Rattle.pp_kind_memory.proofs.Gates.{led_of, moved_of, still_of}
use Rattle.pp_kind_memory.proofs.movers.gate.Goals as goal

pub returns-then-first-eq2 : goal.returns-then-first-eq2
returns-then-first-eq2 c = λ a is passed. (may_swap_exact a c.args.op.now).0
    (there_or_apart (int_eq (address_of a) (address_of c.args.op.now)) (may_swap_there a c.args.op.now)
    (let r = moved_of a (is ∙ c.if-first-eq2.true) in
    let h = c.gate.ensures (figures_of a) (number_of a) r.1 passed in cc))

pub returns-then-first-lt4 : goal.returns-then-first-lt4
returns-then-first-lt4 c = λ a is passed. (may_swap_exact a c.args.op.now).0
    (there_or_apart (int_eq (address_of a) (address_of c.args.op.now)) (may_swap_there a c.args.op.now)
    (let r = led_of a c.args.first is c.if-first-eq2.false c.if-first-lt4.true in
    let h = c.gate-then-first-lt4.ensures (figures_of a) (number_of a) r.1 passed in cc))

pub returns-else-first-lt4 : goal.returns-else-first-lt4
returns-else-first-lt4 c = λ a is passed. (may_swap_exact a c.args.op.now).0
    (there_or_apart (int_eq (address_of a) (address_of c.args.op.now)) (may_swap_there a c.args.op.now)
    (let r = still_of a c.args.first is c.if-first-lt4.false in
    let row : form_of a ≡ c.args.first - 4 = omega arith in
    let h = c.gate-else-first-lt4.ensures (figures_of a) (number_of a) (r.1, r.2, r.3) passed in cc))
