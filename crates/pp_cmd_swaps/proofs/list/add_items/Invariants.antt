use Rattle.std.proofs.Common.{◌≡◌, ◌++◌, drop}
use Rattle.pp_cmd_swaps.proofs.list.add_items.Given as goal

abbrev pub invariant-loop-entry : goal.invariant-loop-entry
invariant-loop-entry g l = l.list ++ drop l.entry-index l.entries ≡ l.fn.list ++ l.entries
