use Rattle.std.proofs.Common.{◌≡◌, None, nat_eq, take}
use Rattle.std.specs.Map.{lookup}
use Rattle.pp_summary.proofs.seen.position.Given as goal

-- None of the entries before position k has the place.
abbrev pub invariant-loop-k : goal.invariant-loop-k
invariant-loop-k l = lookup (nat_eq l.place) (take l.k l.entries) ≡ None
