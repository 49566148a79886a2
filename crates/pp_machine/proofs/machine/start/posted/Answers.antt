use Rattle.std.proofs.Common.{◌<◌, Err, length, refl, arith, subst, sym}
use Rattle.pp_machine.specs.Starting.{Posts}
use Rattle.pp_machine.proofs.Starting.{allowed_more, differs_at, new_at, posted_more, ranged_at}
use Rattle.pp_model.proofs.Finding.{decided, decided_not}
use Rattle.pp_machine.proofs.machine.start.posted.Goals as goal

pub returns-then-not-legal-clause-posts : goal.returns-then-not-legal-clause-posts
returns-then-not-legal-clause-posts g c =
    let lt : c.loop-k.k < length c.args.items.now = omega arith in
    subst (λ r. Posts g.S.Spec.object c.args.shape.now c.args.tx.now c.args.items.now (Err r)) (sym c.told.ensures)
    (refl, differs_at g.S.Spec.object g.met.S.Spec.lawful c.args.shape.now c.args.tx.now c.args.items.now c.loop-k.k c.index-items-k.result lt c.index-items-k.is c.loop-k.shared c.loop-k.invariant.log c.requires.asked c.loop-k.invariant.allowed (λ h. decided_not c.legal.result _ c.legal.ensures c.if-not-legal.true h) c.gives-answer.result c.gives-answer.ensures)

pub push-requires-clause-ranged : goal.push-requires-clause-ranged
push-requires-clause-ranged g c =
    let lt : c.loop-k.k < length c.args.items.now = omega arith in
    ranged_at g.S.Spec.object g.met.S.Spec.lawful c.args.shape.now c.args.tx.now c.args.items.now c.loop-k.k c.index-items-k.result lt c.index-items-k.is c.loop-k.shared c.loop-k.invariant.log c.requires.asked

pub push-requires-clause-new : goal.push-requires-clause-new
push-requires-clause-new g c =
    let lt : c.loop-k.k < length c.args.items.now = omega arith in
    new_at g.S.Spec.object g.met.S.Spec.lawful c.args.shape.now c.args.tx.now c.args.items.now c.loop-k.k c.index-items-k.result lt c.index-items-k.is c.loop-k.shared c.loop-k.invariant.log c.requires.distinct

pub loop-k-preserved : goal.loop-k-preserved
loop-k-preserved g c =
    let lt : c.loop-k.k < length c.args.items.now = omega arith in
    record {
      log = posted_more g.S.Spec.object g.met.S.Spec.lawful c.args.shape.now c.args.tx.now c.args.items.now c.loop-k.k c.index-items-k.result lt c.index-items-k.is c.loop-k.shared c.loop-k.invariant.log c.push.new.self c.in_ok-push.ensures.ok;
      allowed = allowed_more g.S.Spec.object g.met.S.Spec.lawful c.args.shape.now c.args.tx.now c.args.items.now c.loop-k.k c.index-items-k.result lt c.index-items-k.is c.loop-k.shared c.loop-k.invariant.log (decided c.legal.result _ c.legal.ensures c.if-not-legal.false);
      cost = (let paid = c.in_ok-push.ensures.cost in let so_far = c.loop-k.invariant.cost in omega (arith, paid, so_far));
    }
