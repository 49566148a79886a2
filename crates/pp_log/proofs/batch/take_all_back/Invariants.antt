use Rattle.std.proofs.Common.{◌≡◌, ◌+◌, ◌≤◌, length}
use Rattle.pp_log.proofs.Leaves.{HaveLeft}
use Rattle.pp_log.proofs.batch.take_all_back.Given as goal

-- those from a position on have left
abbrev pub invariant-loop-left : goal.invariant-loop-left
invariant-loop-left g l = record {
  within : l.left ≤ length l.own;
  cost : l.ticks + l.left ≡ l.initial.ticks + length l.own;
  left : HaveLeft g.S.Spec.object g.S.Placed.place_of l.own l.initial.state l.initial.places.items l.initial.ids l.left l.state l.places.items l.ids;
}

abbrev pub decreases-loop-left : goal.decreases-loop-left
decreases-loop-left g l = l.left
