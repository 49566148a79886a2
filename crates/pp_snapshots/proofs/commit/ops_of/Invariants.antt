use Rattle.std.proofs.Common.{◌≡◌, take}
use Rattle.pp_model.specs.Object.{ops}
use Rattle.pp_snapshots.proofs.commit.ops_of.Given as goal

-- those so far
abbrev pub invariant-loop-item : goal.invariant-loop-item
invariant-loop-item g l = l.all.items ≡ ops (take l.item-index l.items)
