use Rattle.std.proofs.Common.{◌≡◌, ◌≤◌, drop, length, reverse}
use Rattle.pp_attempts.specs.Peaks.{meanings}
use Rattle.pp_attempts.specs.Tops.{KeepsGoing, tops}
use Rattle.pp_attempts.proofs.top.tops.Given as goal

abbrev pub invariant-loop-left : goal.invariant-loop-left
invariant-loop-left g l = record {
  within : l.left ≤ length l.steps;
  names : KeepsGoing l.names (meanings (drop l.left l.steps));
  found : l.found.items ≡ reverse (tops (meanings (drop l.left l.steps)));
}

abbrev pub decreases-loop-left : goal.decreases-loop-left
decreases-loop-left g l = l.left
