use Rattle.std.proofs.Common.{◌≡◌, drop, take}
use Rattle.pp_conflicts.proofs.view.entries_from.Given as goal

-- those so far, but the first ones
abbrev pub invariant-loop-k : goal.invariant-loop-k
invariant-loop-k g l = l.list.items ≡ drop l.from (take l.k l.entries)
