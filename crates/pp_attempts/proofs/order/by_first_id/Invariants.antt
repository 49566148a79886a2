use Rattle.std.proofs.Common.{◌≤◌, length, map}
use Rattle.pp_attempts.specs.Trying.{ArePositions}
use Rattle.pp_attempts.proofs.order.by_first_id.Given as goal

abbrev pub invariant-loop-position : goal.invariant-loop-position
invariant-loop-position g l = record {
  within : l.position ≤ length l.peaks;
  positions : ArePositions l.peaks l.position (map (λ o. o.1) l.order.items);
}
