use Rattle.std.proofs.Common.{◌≡◌, ◌++◌, drop}
use Rattle.pp_certificate_exchanges.specs.Passes.{route_passing}
use Rattle.pp_certificate_exchanges.proofs.exchange.add_draws.Given as goal

abbrev pub invariant-loop-count : goal.invariant-loop-count
invariant-loop-count l = record {
  at : l.position ≡ l.count-index;
  so_far : l.list ++ route_passing
      l.position (drop l.count-index l.counts) ≡ route_passing 0 l.counts;
}
