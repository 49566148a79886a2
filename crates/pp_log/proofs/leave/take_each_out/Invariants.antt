use Rattle.std.proofs.Common.{◌≡◌, ◌≤◌, drop, length}
use Rattle.pp_log.specs.Leaving.{without_items}
use Rattle.pp_log.proofs.leave.take_each_out.Given as goal

-- those from a position on have left
abbrev pub invariant-loop-rest : goal.invariant-loop-rest
invariant-loop-rest g l = record {
  within : l.rest ≤ length l.own;
  entries : l.entries.items ≡ without_items g.T.Side.item_of (drop l.rest l.own) l.initial.entries.items;
}

abbrev pub decreases-loop-rest : goal.decreases-loop-rest
decreases-loop-rest g l = l.rest
