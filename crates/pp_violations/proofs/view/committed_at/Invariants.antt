use Rattle.std.proofs.Common.{◌≡◌, take}
use Rattle.pp_laws_summary.specs.LocalLogs.{serial_at}
use Rattle.pp_violations.proofs.view.committed_at.Given as goal

-- The operations at the place of the transactions so far.
abbrev pub invariant-loop-transaction : goal.invariant-loop-transaction
invariant-loop-transaction g l = l.list.items ≡ serial_at g.S.Placed.place_of l.place (take l.transaction-index l.committed)
