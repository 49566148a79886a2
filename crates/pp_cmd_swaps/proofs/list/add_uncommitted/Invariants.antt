use Rattle.std.proofs.Common.{◌≡◌, ◌++◌, map, drop}
use Rattle.pp_model.specs.Config.{shared_item, uncommitted}
use Rattle.pp_cmd_swaps.proofs.list.add_uncommitted.Given as goal

abbrev pub invariant-loop-entry : goal.invariant-loop-entry
invariant-loop-entry g l =
    l.list ++ map shared_item (uncommitted (drop l.entry-index l.entries))
    ≡ l.fn.list ++ map shared_item (uncommitted l.entries)
