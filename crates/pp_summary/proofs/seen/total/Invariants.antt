use Rattle.std.proofs.Common.{◌≡◌, take}
use Rattle.pp_summary.specs.Seen.{seen_total}
use Rattle.pp_summary.proofs.seen.total.Given as goal

-- The sum of the counts so far.
abbrev pub invariant-loop-k : goal.invariant-loop-k
invariant-loop-k l = l.total ≡ seen_total (take l.k l.entries)
