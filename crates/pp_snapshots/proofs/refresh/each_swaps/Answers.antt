use Rattle.std.proofs.Common.{◌<◌, ◌≤◌, arith, length, subst, sym}
use Rattle.std.proofs.lemmas.List.{take_all}
use Rattle.pp_model.specs.Lists.{In}
use Rattle.pp_kind.specs.Object.{Swaps}
use Rattle.pp_kind.proofs.Standing.{in_there}
use Rattle.pp_snapshots.specs.Refreshing.{SwapsAll}
use Rattle.pp_snapshots.proofs.OnRefresh.{each_more}
use Rattle.pp_snapshots.proofs.refresh.each_swaps.Goals as goal

pub loop-a-init : goal.loop-a-init
loop-a-init g c = λ a i. absurd i

pub returns-then-not-swaps-clause-no : goal.returns-then-not-swaps-clause-no
returns-then-not-swaps-clause-no g c = λ _.
    let k = c.loop-a.a-index in
    let a = c.a-item.result in
    let lt : k < length c.args.own.now = omega arith in
    (a, subst (λ b. In b c.args.own.now) (sym c.a-item.is) (in_there c.args.own.now k a lt), c.swaps.ensures.never c.if-not-swaps.true)

pub loop-a-preserved : goal.loop-a-preserved
loop-a-preserved g c =
    let k = c.loop-a.a-index in
    let lt : k < length c.args.own.now = omega arith in
    each_more (λ a. Swaps g.S.Spec.object a c.args.op.now) c.args.own.now k c.a-item.result lt c.a-item.is c.loop-a.invariant (c.swaps.ensures.swaps c.if-not-swaps.false)

pub returns-clause-yes : goal.returns-clause-yes
returns-clause-yes g c = λ _.
    let all : length c.args.own.now ≤ c.loop-a.a-index = omega arith in
    subst (λ l. SwapsAll g.S.Spec.object l c.args.op.now) (take_all c.loop-a.a-index c.args.own.now all) c.loop-a.invariant
