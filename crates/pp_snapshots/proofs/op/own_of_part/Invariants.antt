use Rattle.std.proofs.Common.{◌≡◌, take}
use Rattle.pp_model.specs.Object.{ops}
use Rattle.pp_snapshots.specs.Costs.{ops_of_part}
use Rattle.pp_snapshots.proofs.op.own_of_part.Given as goal

-- those so far
abbrev pub invariant-loop-item : goal.invariant-loop-item
invariant-loop-item g l = l.of_part.items ≡ ops_of_part g.S.Parted.part_of l.op (ops (take l.item-index l.own))
