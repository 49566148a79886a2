use Rattle.std.proofs.Common.{◌≡◌, ◌++◌, take}
use Rattle.pp_summary.specs.Shown.{items_at}
use Rattle.pp_violations.proofs.view.add_items.Given as goal

-- The items so far that are at the place were added.
abbrev pub invariant-loop-item : goal.invariant-loop-item
invariant-loop-item g l = l.list.items ≡ l.fn.list.items ++ items_at g.S.Placed.place_of l.place (take l.item-index l.items)
