use Rattle.std.proofs.Common.{[], ◌∷◌, ◌++◌, sym, subst}
use Rattle.pp_kind.specs.Object.{KeptAs}
use Rattle.pp_log.specs.Carries.{IsOnWay}
use Rattle.pp_log.proofs.Carried.{is_kept, over_alone, over_in_turn}
use Rattle.pp_log.proofs.carry.carry_over.Goals as goal

pub returns-then-not-keep_in_turn-clause-carries : goal.returns-then-not-keep_in_turn-clause-carries
returns-then-not-keep_in_turn-clause-carries g c = λ b base x z d n swaps here way.
    let o = g.S.Spec.object in
    let us = c.args.undos.now.items in
    let keeps = is_kept o g.met.S.Spec.lawful b base x z c.args.op.now d swaps us way c.args.at c.index.result.now n c.index.ensures in
    let kept = subst (λ t. KeptAs o t c.args.op.now d) c.if-not-keep_in_turn.true (c.keep_in_turn.ensures d here keeps swaps) in
    subst (IsOnWay o b base (x ++ d ∷ []) z c.args.op.now) (sym c.swap.ensures.items)
    (over_alone o g.met.S.Spec.lawful b base x z c.args.op.now d swaps us way c.args.at n kept)

pub returns-else-not-keep_in_turn-clause-carries : goal.returns-else-not-keep_in_turn-clause-carries
returns-else-not-keep_in_turn-clause-carries g c = λ b base x z d n swaps here way.
    let o = g.S.Spec.object in
    let us = c.args.undos.now.items in
    let keeps = is_kept o g.met.S.Spec.lawful b base x z c.args.op.now d swaps us way c.args.at c.index.result.now n c.index.ensures in
    let kept = subst (λ t. KeptAs o t c.args.op.now d) c.if-not-keep_in_turn.false (c.keep_in_turn.ensures d here keeps swaps) in
    over_in_turn o g.met.S.Spec.lawful b base x z c.args.op.now d swaps us way kept
