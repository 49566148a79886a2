use Rattle.std.proofs.Common.{sym, subst, arith}
use Rattle.pp_model.specs.Lists.{In}
use Rattle.pp_kind.proofs.Standing.{in_there}
use Rattle.pp_kind.proofs.samples.some_stands_for.Goals as goal

pub returns-then-stands_for : goal.returns-then-stands_for
returns-then-stands_for g c =
    let xs = c.args.samples.now in
    let i = c.loop-sample.sample-index in
    let inside = c.loop-sample-test.true in
    let sample = c.sample-item.result in
    λ t. (
      sample,
      subst (λ x. In x xs) (sym c.sample-item.is) (in_there xs i sample (omega arith)),
      c.stands_for.ensures c.if-stands_for.true,
    )
