use Rattle.std.proofs.Common.{◌≡◌, ◌+◌, ◌-◌, ◌<◌, ◌++◌, ◌∷◌, [], ap, sym, ◌∙◌, arith, length, subst, take}
use Rattle.std.proofs.lemmas.List.{take_more}
use Rattle.pp_snapshots.specs.Past.{EndsWith, GoesBack, IsPast, with_ops}
use Rattle.pp_snapshots.proofs.Manies.{end_is, ends_with, same_past, without_last}
use Rattle.pp_snapshots.proofs.many.take_all_back.Goals as goal

pub take_back-requires-clause-ends : goal.take_back-requires-clause-ends
take_back-requires-clause-ends g c =
    let o = g.S.Spec.object in
    let place = g.S.Placed.place_of in
    let can = c.requires.can in
    let ops = c.args.ops.now in
    let k = c.loop-left.left - 1 in
    let a = c.index-ops-left.result in
    let lt : k < length ops = omega arith in
    let back : c.loop-left.left ≡ k + 1 = omega arith in
    let cut : take c.loop-left.left ops ≡ take k ops ++ a ∷ [] = ap (λ n. take n ops) back ∙ take_more ops k a lt ∙ ap (λ b. take k ops ++ b ∷ []) (sym c.index-ops-left.is) in
    let past = subst (λ l. IsPast o place can.shape c.loop-left.past (with_ops place can.ops l)) cut (c.loop-left.invariant.left can.shape can.ops can.past) in
    subst (EndsWith o place c.loop-left.past) (sym c.place.ensures) (ends_with o place can.shape c.loop-left.past can.ops (take k ops) a past)

pub loop-left-preserved : goal.loop-left-preserved
loop-left-preserved g c =
    let o = g.S.Spec.object in
    let place = g.S.Placed.place_of in
    let ops = c.args.ops.now in
    let k = c.loop-left.left - 1 in
    let a = c.index-ops-left.result in
    let lt : k < length ops = omega arith in
    let back : c.loop-left.left ≡ k + 1 = omega arith in
    let cut : take c.loop-left.left ops ≡ take k ops ++ a ∷ [] = ap (λ n. take n ops) back ∙ take_more ops k a lt ∙ ap (λ b. take k ops ++ b ∷ []) (sym c.index-ops-left.is) in
    record {
      within = omega arith;
      left = λ shape h is.
          let past = subst (λ l. IsPast o place shape c.loop-left.past (with_ops place h l)) cut (c.loop-left.invariant.left shape h is) in
          let back_to = subst (λ p. GoesBack o place c.loop-left.past p c.take_back.new.past) c.place.ensures c.in_ok-take_back.ensures.back in
          same_past o place shape c.take_back.new.past _ _ (without_last place h (take k ops) a)
          (back_to shape (with_ops place h (take k ops ++ a ∷ [])) (with_ops place h (take k ops) (place a)) a past (end_is place h (take k ops) a));
      size = (let s = c.in_ok-take_back.ensures.size in omega (arith, s, c.loop-left.invariant.size));
      ticks = (let t = c.in_ok-take_back.ensures.cost in omega (arith, t, c.loop-left.invariant.ticks));
    }
