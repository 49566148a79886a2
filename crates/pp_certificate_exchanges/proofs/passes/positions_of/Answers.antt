use Rattle.std.proofs.Common.{arith, ap, Some, nat_cmp, ◌∙◌}
use Rattle.std.specs.BTreeMap.{get}
use Rattle.pp_certificate_exchanges.proofs.Known.{known_more, other_key}
use Rattle.pp_certificate_exchanges.proofs.passes.positions_of.Goals as goal

pub loop-item-preserved : goal.loop-item-preserved
loop-item-preserved g c =
    let u = c.in_ok-insert.ensures.updates in
    record {
      at = omega arith;
      known = known_more c.args.log.now c.requires.distinct c.loop-item.item-index
          c.item-item.result c.loop-item-test.true c.item-item.is
          (λ q. get nat_cmp c.loop-item.positions q) (λ q. get nat_cmp c.insert.new.self q)
          c.loop-item.invariant.known
          (u.1 ∙ ap (λ n. Some n) c.loop-item.invariant.at)
          (λ k h. u.2 k (other_key c.item-item.result.id k h));
    }
