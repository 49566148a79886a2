use Rattle.std.proofs.Common.{◌≡◌, ◌≤◌, length, drop, map, reverse}
use Rattle.pp_model.specs.Object.{HasDistinctIds}
use Rattle.pp_summary.proofs.start.distinct_ids.Given as goal

-- The ids of the items from a position on, which are distinct.
abbrev pub invariant-loop-left : goal.invariant-loop-left
invariant-loop-left g l = record {
  within : l.left ≤ length l.items;
  ids : reverse l.ids ≡ map (λ p. p.id) (drop l.left l.items);
  distinct : HasDistinctIds (drop l.left l.items);
}

abbrev pub decreases-loop-left : goal.decreases-loop-left
decreases-loop-left g l = l.left
