use Rattle.std.proofs.Common.{◌≡◌, take}
use Rattle.pp_conflicts.specs.Searches.{shared_at}
use Rattle.pp_conflicts.proofs.view.entries_at.Given as goal

-- those of the transactions so far
abbrev pub invariant-loop-transaction : goal.invariant-loop-transaction
invariant-loop-transaction g l = l.list.items ≡ shared_at g.S.Placed.place_of l.place (take l.transaction-index l.committed)
