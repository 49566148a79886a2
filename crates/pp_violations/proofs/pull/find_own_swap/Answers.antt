use Rattle.std.proofs.Common.{◌≡◌, ◌∙◌, ◌<◌, sym, arith, length}
use Rattle.pp_machine.specs.declared.detail.Detail.TheVariants.{Nothing}
use Rattle.pp_machine.specs.Evidence.{swap_or}
use Rattle.pp_summary.proofs.Items.{in_there}
use Rattle.pp_violations.specs.Searches.{own_swap}
use Rattle.pp_violations.proofs.Judging.{if_ok, swap_end, swap_here, swap_later}
use Rattle.pp_violations.proofs.pull.find_own_swap.Goals as goal

pub swap_detail-requires-clause-first : goal.swap_detail-requires-clause-first
swap_detail-requires-clause-first g c =
    let lt : c.loop-item.item-index < length c.args.own.now = omega arith in
    c.requires.own c.item-item.result (in_there c.args.own.now c.loop-item.item-index c.item-item.result lt c.item-item.is)

pub returns-then-not-swaps : goal.returns-then-not-swaps
returns-then-not-swaps g c =
    let lt : c.loop-item.item-index < length c.args.own.now = omega arith in
    let p = c.item-item.result in
    if_ok (λ d. d ≡ swap_or p.id (g.S.Spec.object.refuting p.op c.args.op.now) Nothing) (λ d. d ≡ own_swap g.S.Spec.object c.args.own.now c.args.op.now) c.swap_detail.result
    (λ d e. e ∙ swap_here g.S.Spec.object g.met.S.Spec.lawful c.args.own.now c.args.op.now c.loop-item.item-index p lt c.item-item.is c.loop-item.invariant c.swaps.result c.swaps.ensures.only c.if-not-swaps.true)
    c.swap_detail.ensures

pub loop-item-preserved : goal.loop-item-preserved
loop-item-preserved g c =
    let lt : c.loop-item.item-index < length c.args.own.now = omega arith in
    swap_later g.S.Spec.object g.met.S.Spec.lawful c.args.own.now c.args.op.now c.loop-item.item-index c.item-item.result lt c.item-item.is c.loop-item.invariant (c.swaps.ensures.swaps c.if-not-swaps.false)

pub returns : goal.returns
returns g c =
    let end : c.loop-item.item-index ≡ length c.args.own.now = omega arith in
    sym (c.loop-item.invariant ∙ swap_end g.S.Spec.object g.met.S.Spec.lawful c.args.own.now c.args.op.now c.loop-item.item-index end)
