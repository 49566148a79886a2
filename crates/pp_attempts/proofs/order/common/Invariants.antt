use Rattle.std.proofs.Common.{◌≤◌, ◌-◌, length}
use Rattle.pp_attempts.specs.Trying.{Share}
use Rattle.pp_attempts.proofs.order.common.Given as goal

abbrev pub invariant-loop-count : goal.invariant-loop-count
invariant-loop-count g l = record {
  share : Share l.count l.a l.b;
  within : l.count ≤ length l.a;
}

abbrev pub decreases-loop-count : goal.decreases-loop-count
decreases-loop-count g l = length l.a - l.count
