use Rattle.std.proofs.Common.{◌≡◌, ◌++◌, ℕ, take}
use Rattle.pp_summary.specs.Shown.{ids_at}
use Rattle.pp_summary.specs.Shown.{at}
use Rattle.pp_summary.proofs.commits.add_commits.Given as goal

-- Each place has its old commits, and then those of the items so far.
abbrev pub invariant-loop-item : goal.invariant-loop-item
invariant-loop-item g l =
    (q : ℕ) → at q l.commits.items ≡ at q l.initial.commits.items ++ ids_at g.S.Placed.place_of q (take l.item-index l.items)
