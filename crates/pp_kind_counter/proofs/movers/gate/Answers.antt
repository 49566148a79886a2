use Rattle.std.proofs.Common.{◌≡◌, ◌-◌, refl, arith}
use Rattle.pp_kind_counter.specs.Movers.{figures_of, form_of, number_of}
use Rattle.pp_kind_counter.specs.laws.Swapping.{may_swap_exact}
use Rattle.pp_kind_counter.proofs.Gates.{row_of, still_of}
use Rattle.pp_kind_counter.proofs.movers.gate.Goals as goal

pub returns-then-first-lt3 : goal.returns-then-first-lt3
returns-then-first-lt3 c = λ a is passed. (may_swap_exact a c.args.op.now).0
    (let row = row_of a c.args.first is c.if-first-lt3.true in
    let h = c.gate.ensures (figures_of a) (number_of a) refl passed in cc)

pub returns-else-first-lt3 : goal.returns-else-first-lt3
returns-else-first-lt3 c = λ a is passed. (may_swap_exact a c.args.op.now).0
    (let r = still_of a c.args.first is c.if-first-lt3.false in
    let row : form_of a ≡ c.args.first - 3 = omega arith in
    let h = c.gate-else-first-lt3.ensures (figures_of a) (number_of a) (r.1, refl, r.2) passed in cc)
