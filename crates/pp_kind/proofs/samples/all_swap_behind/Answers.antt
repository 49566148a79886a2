use Rattle.std.proofs.Common.{All, subst, arith}
use Rattle.std.proofs.lemmas.List.{take_all}
use Rattle.std.proofs.lemmas.List.Elements.{All-more}
use Rattle.pp_kind.specs.Object.{Swaps}
use Rattle.pp_kind.proofs.samples.all_swap_behind.Goals as goal

pub loop-sample-preserved : goal.loop-sample-preserved
loop-sample-preserved g c =
    let i = c.loop-sample.sample-index in
    let inside = c.loop-sample-test.true in
    All-more (λ s. Swaps g.S.Spec.object c.args.op.now s) c.args.samples.now i c.sample-item.result
    (omega arith) c.loop-sample.invariant
    (subst (λ s. Swaps g.S.Spec.object c.args.op.now s) c.sample-item.is
    (c.swaps.ensures.swaps c.if-not-swaps.false))

pub returns : goal.returns
returns g c =
    let i = c.loop-sample.sample-index in
    let past = c.loop-sample-test.false in
    λ t. subst (All (λ s. Swaps g.S.Spec.object c.args.op.now s))
    (take_all i c.args.samples.now (omega arith)) c.loop-sample.invariant
