use Rattle.std.proofs.Common.{◌≡◌, drop, take}
use Rattle.pp_snapshots.specs.Many.{ops_made}
use Rattle.pp_snapshots.proofs.many.ops_from.Given as goal

-- those so far, but the first ones
abbrev pub invariant-loop-k : goal.invariant-loop-k
invariant-loop-k g l = l.later.items ≡ ops_made (drop l.from (take l.k l.done.made.items))
