use Rattle.std.proofs.Common.{◌≡◌, ◌++◌, map, take, true}
use Rattle.pp_model.specs.Config.{as_shared}
use Rattle.pp_summary.specs.Shown.{items_at}
use Rattle.pp_conflicts.proofs.view.add_entries.Given as goal

-- those so far
abbrev pub invariant-loop-item : goal.invariant-loop-item
invariant-loop-item g l = l.list.items ≡ l.fn.list.items ++ map (as_shared l.owner true) (items_at g.S.Placed.place_of l.place (take l.item-index l.items))
