use Rattle.std.proofs.Common.{◌≡◌, ◌-◌, ◌≤◌, ◌++◌, length, drop}
use Rattle.pp_certificate_exchanges.specs.Towers.{pairs}
use Rattle.pp_certificate_exchanges.proofs.tower.sums.Given as goal

abbrev pub invariant-loop-i : goal.invariant-loop-i
invariant-loop-i l = record {
  within : l.i ≤ length l.counts;
  so_far : l.row.items ++ pairs
      (drop l.i l.counts) ≡ pairs l.counts;
}

abbrev pub decreases-loop-i : goal.decreases-loop-i
decreases-loop-i l = length l.counts - l.i
