use Rattle.std.proofs.Common.{◌≤◌, ◌-◌, length, map}
use Rattle.pp_log.proofs.Nexts.{ahead}
use Rattle.pp_log.proofs.log.Log.next_on.Given as goal

abbrev pub invariant-halve : goal.invariant-halve
invariant-halve g l = record {
  within : l.high ≤ length l.ids.items;
  low : l.low ≤ ahead g.S.Placed.place_of l.place (map g.T.Side.item_of l.self.1) l.from;
  high : ahead g.S.Placed.place_of l.place (map g.T.Side.item_of l.self.1) l.from ≤ l.high;
}

abbrev pub decreases-halve : goal.decreases-halve
decreases-halve g l = l.high - l.low
