use Rattle.std.proofs.Common.{◌<◌, ◌≤◌, arith, length, subst, sym}
use Rattle.std.proofs.lemmas.List.{take_all}
use Rattle.pp_model.specs.Lists.{In}
use Rattle.pp_kind.proofs.Standing.{in_there}
use Rattle.pp_snapshots.specs.Refreshing.{AllSwap, SwapsAll}
use Rattle.pp_snapshots.proofs.OnRefresh.{each_more}
use Rattle.pp_snapshots.proofs.refresh.all_swap.Goals as goal

pub loop-op-init : goal.loop-op-init
loop-op-init g c = λ a i. absurd i

pub returns-then-not-each_swaps-clause-no : goal.returns-then-not-each_swaps-clause-no
returns-then-not-each_swaps-clause-no g c = λ _.
    let k = c.loop-op.op-index in
    let a = c.op-item.result in
    let lt : k < length c.args.later.now = omega arith in
    (a, subst (λ b. In b c.args.later.now) (sym c.op-item.is) (in_there c.args.later.now k a lt), c.each_swaps.ensures.no c.if-not-each_swaps.true)

pub loop-op-preserved : goal.loop-op-preserved
loop-op-preserved g c =
    let k = c.loop-op.op-index in
    let lt : k < length c.args.later.now = omega arith in
    each_more (SwapsAll g.S.Spec.object c.args.own.now) c.args.later.now k c.op-item.result lt c.op-item.is c.loop-op.invariant (c.each_swaps.ensures.yes c.if-not-each_swaps.false)

pub returns-clause-yes : goal.returns-clause-yes
returns-clause-yes g c = λ _.
    let all : length c.args.later.now ≤ c.loop-op.op-index = omega arith in
    subst (AllSwap g.S.Spec.object c.args.own.now) (take_all c.loop-op.op-index c.args.later.now all) c.loop-op.invariant
