use Rattle.std.proofs.Common.{◌≡◌, ◌∙◌, ap, arith, get_or, sym}
use Rattle.std.proofs.lemmas.List.{get_or_default, take_more_same}
use Rattle.pp_attempts.proofs.Fronts.{in_there}
use Rattle.pp_attempts.proofs.order.common.Goals as goal

pub loop-count-preserved : goal.loop-count-preserved
loop-count-preserved g c =
    let xs = c.args.a.now in
    let ys = c.args.b.now in
    let n = c.loop-count.count in
    let x = get_or xs n c.index-a-count.result in
    let y = get_or ys n c.index-b-count.result in
    let x_is : x ≡ get_or xs n x = ap (λ w. get_or xs n w) c.index-a-count.is in
    let y_is : y ≡ get_or ys n y = ap (λ w. get_or ys n w) c.index-b-count.is in
    let left = c.loop-count-test.true in
    let right = c.if-count-b.true in
    let same : x ≡ y = c.requires x y (in_there xs n x left x_is) (in_there ys n y right y_is) c.if-a-count.true in
    record {
      share = take_more_same xs ys n x left right c.loop-count.invariant.share (sym x_is ∙ same ∙ y_is ∙ get_or_default ys n y x right);
      within = omega (arith, left);
    }
