use Rattle.std.proofs.Common.{refl}
use Rattle.pp_snapshots.proofs.many.can_follow.Goals as goal

pub returns-then-not-branch-clause-tells : goal.returns-then-not-branch-clause-tells
returns-then-not-branch-clause-tells g c = λ shape h is.
    let refused = rw c.if-not-branch.true at c.in_ok-apply_all.ensures.follow in
    let r = refused shape h is in
    (((λ e. absurd (cc)), (λ may. absurd (r.0 may))), r.1)

pub returns-clause-tells : goal.returns-clause-tells
returns-clause-tells g c = λ shape h is.
    let followed = rw c.if-not-branch.false at c.in_ok-apply_all.ensures.follow in
    let r = followed shape h is in
    (((λ e. r.0), (λ may. refl)), c.in_ok-take_all_back.ensures.back shape h r.1)
