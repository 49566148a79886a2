use Rattle.std.proofs.Common.{◌≡◌, ◌++◌, drop}
use Rattle.pp_model.specs.Sound.{serial_items}
use Rattle.pp_cmd_swaps.proofs.list.committed_items.Given as goal

abbrev pub invariant-loop-transaction : goal.invariant-loop-transaction
invariant-loop-transaction g l =
    l.list ++ serial_items (drop l.transaction-index l.committed) ≡ serial_items l.committed
