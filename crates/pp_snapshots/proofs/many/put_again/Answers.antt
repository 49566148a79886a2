use Rattle.std.proofs.Common.{◌+◌, ◌<◌, ◌≤◌, IsTrue, sym, ◌∙◌, arith, drop, length, subst, take}
use Rattle.std.proofs.lemmas.List.{take_all}
use Rattle.pp_model.specs.Lists.{In}
use Rattle.pp_kind.proofs.Standing.{in_there}
use Rattle.pp_snapshots.specs.Many.{MayFollow}
use Rattle.pp_snapshots.specs.Past.{IsPast, with_ops}
use Rattle.pp_snapshots.proofs.Manies.{cut_at, stopped}
use Rattle.pp_snapshots.proofs.Pasts.{shape_is}
use Rattle.pp_snapshots.proofs.many.put_again.Goals as goal

pub apply-requires-clause-some : goal.apply-requires-clause-some
apply-requires-clause-some g c =
    let m = c.requires.may in
    (m.shape, (with_ops g.S.Placed.place_of m.ops (take c.loop-k.k c.args.ops.now), c.loop-k.invariant.done m.shape m.ops m.past))

pub apply-requires-clause-fits : goal.apply-requires-clause-fits
apply-requires-clause-fits g c =
    let o = g.S.Spec.object in
    let place = g.S.Placed.place_of in
    let m = c.requires.may in
    let ops = c.args.ops.now in
    let k = c.loop-k.k in
    let lt : k < length ops = omega arith in
    let a = c.index-ops-k.result in
    let i : In a ops = subst (λ b. In b ops) (sym c.index-ops-k.is) (in_there ops k a lt) in
    let old = shape_is o place g.S.Placed.SameAt g.met.S.Spec.lawful g.met.S.Placed.placed m.shape c.args.past.now m.ops m.past in
    let new = shape_is o place g.S.Placed.SameAt g.met.S.Spec.lawful g.met.S.Placed.placed m.shape c.loop-k.past _ (c.loop-k.invariant.done m.shape m.ops m.past) in
    subst (λ sh. IsTrue (o.fits sh a)) (old ∙ sym new) (c.requires.asked a i).0

pub apply-requires-clause-ranged : goal.apply-requires-clause-ranged
apply-requires-clause-ranged g c =
    let ops = c.args.ops.now in
    let k = c.loop-k.k in
    let lt : k < length ops = omega arith in
    let a = c.index-ops-k.result in
    let i : In a ops = subst (λ b. In b ops) (sym c.index-ops-k.is) (in_there ops k a lt) in
    (c.requires.asked a i).1

pub unreachable-requires : goal.unreachable-requires
unreachable-requires g c =
    let o = g.S.Spec.object in
    let place = g.S.Placed.place_of in
    let m = c.requires.may in
    let ops = c.args.ops.now in
    let k = c.loop-k.k in
    let a = c.index-ops-k.result in
    let lt : k < length ops = omega arith in
    let refused = rw c.if-not-branch.true at c.in_ok-apply.ensures.follows in
    let before = c.loop-k.invariant.done m.shape m.ops m.past in
    stopped o place m.shape m.ops (take k ops) (drop (k + 1) ops) a (refused.0 m.shape (with_ops place m.ops (take k ops)) before)
    (subst (MayFollow o place m.shape m.ops) (cut_at ops k a lt c.index-ops-k.is) m.may)

pub returns-clause-done : goal.returns-clause-done
returns-clause-done g c = λ shape h is.
    let ops = c.args.ops.now in
    let k = c.loop-k.k in
    let all : length ops ≤ k = omega arith in
    subst (λ l. IsPast g.S.Spec.object g.S.Placed.place_of shape c.loop-k.past (with_ops g.S.Placed.place_of h l)) (take_all k ops all) (c.loop-k.invariant.done shape h is)
