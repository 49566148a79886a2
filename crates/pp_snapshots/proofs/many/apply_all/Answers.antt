use Rattle.std.proofs.Common.{◌+◌, ◌<◌, ◌≤◌, IsTrue, sym, ◌∙◌, arith, drop, length, subst, take}
use Rattle.std.proofs.lemmas.List.{take_all}
use Rattle.pp_model.specs.Lists.{In}
use Rattle.pp_kind.proofs.Standing.{in_there}
use Rattle.pp_snapshots.specs.Many.{MayFollow}
use Rattle.pp_snapshots.specs.Past.{IsPast, with_ops}
use Rattle.pp_snapshots.proofs.Manies.{cut_at, follows, stopped}
use Rattle.pp_snapshots.proofs.Pasts.{shape_is}
use Rattle.pp_snapshots.proofs.many.apply_all.Goals as goal

pub apply-requires-clause-some : goal.apply-requires-clause-some
apply-requires-clause-some g c =
    let s = c.requires.some in
    (s.0, (with_ops g.S.Placed.place_of s.1.0 (take c.loop-k.k c.args.ops.now), c.loop-k.invariant.done s.0 s.1.0 s.1.1))

pub apply-requires-clause-fits : goal.apply-requires-clause-fits
apply-requires-clause-fits g c =
    let o = g.S.Spec.object in
    let place = g.S.Placed.place_of in
    let s = c.requires.some in
    let ops = c.args.ops.now in
    let k = c.loop-k.k in
    let lt : k < length ops = omega arith in
    let a = c.index-ops-k.result in
    let i : In a ops = subst (λ b. In b ops) (sym c.index-ops-k.is) (in_there ops k a lt) in
    let old = shape_is o place g.S.Placed.SameAt g.met.S.Spec.lawful g.met.S.Placed.placed s.0 c.args.past.now s.1.0 s.1.1 in
    let new = shape_is o place g.S.Placed.SameAt g.met.S.Spec.lawful g.met.S.Placed.placed s.0 c.loop-k.past _ (c.loop-k.invariant.done s.0 s.1.0 s.1.1) in
    subst (λ sh. IsTrue (o.fits sh a)) (old ∙ sym new) (c.requires.asked a i).0

pub apply-requires-clause-ranged : goal.apply-requires-clause-ranged
apply-requires-clause-ranged g c =
    let ops = c.args.ops.now in
    let k = c.loop-k.k in
    let lt : k < length ops = omega arith in
    let a = c.index-ops-k.result in
    let i : In a ops = subst (λ b. In b ops) (sym c.index-ops-k.is) (in_there ops k a lt) in
    (c.requires.asked a i).1

pub returns-then-not-branch-clause-follow : goal.returns-then-not-branch-clause-follow
returns-then-not-branch-clause-follow g c = λ shape h is.
    let o = g.S.Spec.object in
    let place = g.S.Placed.place_of in
    let ops = c.args.ops.now in
    let k = c.loop-k.k in
    let a = c.index-ops-k.result in
    let lt : k < length ops = omega arith in
    let refused = rw c.if-not-branch.true at c.in_ok-apply.ensures.follows in
    let before = c.loop-k.invariant.done shape h is in
    let stop = stopped o place shape h (take k ops) (drop (k + 1) ops) a (refused.0 shape (with_ops place h (take k ops)) before) in (
      (λ may. stop (subst (MayFollow o place shape h) (cut_at ops k a lt c.index-ops-k.is) may)),
      c.in_ok-take_all_back.ensures.back shape h (subst (λ v. IsPast o place shape v (with_ops place h (take k ops))) (sym refused.1) before),
    )

pub returns-clause-follow : goal.returns-clause-follow
returns-clause-follow g c = λ shape h is.
    let ops = c.args.ops.now in
    let k = c.loop-k.k in
    let all : length ops ≤ k = omega arith in
    let past = subst (λ l. IsPast g.S.Spec.object g.S.Placed.place_of shape c.loop-k.past (with_ops g.S.Placed.place_of h l)) (take_all k ops all) (c.loop-k.invariant.done shape h is) in
    (follows g.S.Spec.object g.S.Placed.place_of g.S.Placed.SameAt g.met.S.Spec.lawful g.met.S.Placed.placed shape c.loop-k.past h ops past, past)
