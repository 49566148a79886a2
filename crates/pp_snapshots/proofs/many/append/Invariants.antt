use Rattle.std.proofs.Common.{◌≡◌, ◌++◌, take}
use Rattle.pp_snapshots.proofs.many.append.Given as goal

-- with those so far
abbrev pub invariant-loop-op : goal.invariant-loop-op
invariant-loop-op g l = l.list.items ≡ l.initial.list.items ++ take l.op-index l.more
