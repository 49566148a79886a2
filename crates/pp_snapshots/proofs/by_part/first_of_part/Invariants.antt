use Rattle.std.proofs.Common.{◌≡◌, ◌≤◌, ◌++◌, drop, length}
use Rattle.pp_snapshots.proofs.Listed.{firsts}
use Rattle.pp_snapshots.proofs.by_part.first_of_part.Given as goal

-- those so far, and what comes, are the first ones; there are not too many
abbrev pub invariant-loop-k : goal.invariant-loop-k
invariant-loop-k g l =
    (firsts l.seen l.list.ops.items ≡ l.first.items ++ firsts l.seen (drop l.k l.list.ops.items))
    × (length l.first.items ≡ l.k) × (l.k ≤ l.most)
