use Rattle.std.proofs.Common.{◌≡◌, ◌+◌, ◌-◌, ℕ, length}
use Rattle.pp_summary.specs.Shown.{at}
use Rattle.pp_summary.proofs.commits.make_lists.Given as goal

-- Each place has the commits that it had.
abbrev pub invariant-grow : goal.invariant-grow
invariant-grow l = (q : ℕ) → at q l.commits.items ≡ at q l.initial.commits.items

abbrev pub decreases-grow : goal.decreases-grow
decreases-grow l = l.place + 1 - length l.commits.items
