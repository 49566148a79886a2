use Rattle.std.proofs.Common.{drop, take}
use Rattle.pp_snapshots.specs.ByPart.{AddsListed}
use Rattle.pp_snapshots.specs.Many.{ops_made}
use Rattle.pp_snapshots.proofs.by_part.add_from.Given as goal

-- those so far, but the first ones
abbrev pub invariant-loop-k : goal.invariant-loop-k
invariant-loop-k g l = AddsListed g.S.Parted.part_of l.initial.lists.entries l.from (ops_made (drop l.from (take l.k l.done.made.items))) l.lists.entries
