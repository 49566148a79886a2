use Rattle.std.proofs.Common.{◌≡◌, ◌++◌, map, drop}
use Rattle.pp_model.specs.Config.{shared_item}
use Rattle.pp_cmd_swaps.proofs.list.log_items.Given as goal

abbrev pub invariant-loop-entry : goal.invariant-loop-entry
invariant-loop-entry g l =
    l.list ++ map shared_item (drop l.entry-index l.entries) ≡ map shared_item l.entries
