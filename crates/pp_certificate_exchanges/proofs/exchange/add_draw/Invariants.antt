use Rattle.std.proofs.Common.{◌≡◌, ◌++◌, ◌≤◌}
use Rattle.pp_certificate_exchanges.specs.Exchanges.{down_to}
use Rattle.pp_certificate_exchanges.proofs.exchange.add_draw.Given as goal

abbrev pub invariant-loop-left : goal.invariant-loop-left
invariant-loop-left l = record {
  below : l.left ≤ l.count;
  so_far : l.list ++ down_to l.position
      l.left ≡ l.fn.list ++ down_to l.position l.count;
}

abbrev pub decreases-loop-left : goal.decreases-loop-left
decreases-loop-left l = l.left
