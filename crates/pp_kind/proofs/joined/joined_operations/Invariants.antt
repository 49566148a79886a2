use Rattle.std.proofs.Common.{◌≡◌, ◌++◌, drop}
use Rattle.pp_model.specs.Sound.{serial_ops}
use Rattle.pp_kind.proofs.joined.joined_operations.Given as goal

abbrev pub invariant-loop-transaction : goal.invariant-loop-transaction
invariant-loop-transaction g l =
    l.list ++ serial_ops (drop l.transaction-index l.committed) ≡ serial_ops l.committed
