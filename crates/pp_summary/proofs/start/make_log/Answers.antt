use Rattle.std.proofs.Common.{◌<◌, length, arith}
use Rattle.pp_model.proofs.Finding.{decided, decided_not}
use Rattle.pp_summary.proofs.Starting.{allowed_more, differs_at, new_at, log_more, ranged_at}
use Rattle.pp_summary.proofs.start.make_log.Goals as goal

pub returns-then-not-legal-clause-log : goal.returns-then-not-legal-clause-log
returns-then-not-legal-clause-log g c =
    let lt : c.loop-k.k < length c.args.items.now = omega arith in
    differs_at g.S.Spec.object c.args.shape.now c.args.tx.now c.args.items.now c.loop-k.k c.index-items-k.result lt c.index-items-k.is c.loop-k.shared c.loop-k.invariant.log (λ h. decided_not c.legal.result _ c.legal.ensures c.if-not-legal.true h)

pub push-requires-clause-ranged : goal.push-requires-clause-ranged
push-requires-clause-ranged g c =
    let lt : c.loop-k.k < length c.args.items.now = omega arith in
    ranged_at g.S.Spec.object c.args.shape.now c.args.tx.now c.args.items.now c.loop-k.k c.index-items-k.result lt c.index-items-k.is c.loop-k.shared c.loop-k.invariant.log c.requires.asked

pub push-requires-clause-new : goal.push-requires-clause-new
push-requires-clause-new g c =
    let lt : c.loop-k.k < length c.args.items.now = omega arith in
    new_at g.S.Spec.object c.args.shape.now c.args.tx.now c.args.items.now c.loop-k.k c.index-items-k.result lt c.index-items-k.is c.loop-k.shared c.loop-k.invariant.log c.requires.distinct

pub loop-k-preserved : goal.loop-k-preserved
loop-k-preserved g c =
    let lt : c.loop-k.k < length c.args.items.now = omega arith in
    record {
      log = log_more g.S.Spec.object c.args.shape.now c.args.tx.now c.args.items.now c.loop-k.k c.index-items-k.result lt c.index-items-k.is c.loop-k.shared c.loop-k.invariant.log c.push.new.self c.in_ok-push.ensures.ok;
      allowed = allowed_more g.S.Spec.object c.args.shape.now c.args.tx.now c.args.items.now c.loop-k.k c.index-items-k.result lt c.index-items-k.is c.loop-k.shared c.loop-k.invariant.log (decided c.legal.result _ c.legal.ensures c.if-not-legal.false);
      cost = (let paid = c.in_ok-push.ensures.cost in let so_far = c.loop-k.invariant.cost in omega (arith, paid, so_far));
    }
