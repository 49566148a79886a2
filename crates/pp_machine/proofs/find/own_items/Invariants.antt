use Rattle.std.proofs.Common.{◌≡◌, take}
use Rattle.pp_model.specs.Config.{own_items}
use Rattle.pp_machine.proofs.find.own_items.Given as goal

abbrev pub invariant-loop-entry : goal.invariant-loop-entry
invariant-loop-entry g l = l.items ≡ own_items (take l.entry-index l.entries)
