use Rattle.std.proofs.Common.{◌≡◌, take}
use Rattle.pp_model.specs.Object.{ops}
use Rattle.pp_laws_summary.specs.Places.{ops_at}
use Rattle.pp_snapshots.proofs.op.own_at.Given as goal

-- those so far
abbrev pub invariant-loop-item : goal.invariant-loop-item
invariant-loop-item g l = l.there.items ≡ ops_at g.S.Placed.place_of l.place (ops (take l.item-index l.own))
