use Rattle.std.proofs.Common.{◌≡◌, take}
use Rattle.pp_conflicts.proofs.pull.make_own.Given as goal

-- those so far
abbrev pub invariant-loop-item : goal.invariant-loop-item
invariant-loop-item g l = l.own ≡ take l.item-index l.items
