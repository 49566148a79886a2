use Rattle.std.proofs.Common.{◌≡◌, ◌≤◌, ◌+◌, drop, length}
use Rattle.pp_model.specs.Sound.{serial_ops}
use Rattle.pp_kind.specs.Object.{state_after}
use Rattle.pp_kind.proofs.Replays.{IsReplaying}
use Rattle.pp_kind.proofs.serial_run.serial_state.Given as goal

abbrev pub invariant-loop-transaction : goal.invariant-loop-transaction
invariant-loop-transaction g l = record {
  replaying : IsReplaying g.S.Spec.object
      (state_after g.S.Spec.object l.shape (serial_ops l.committed))
      l.state (serial_ops (drop l.transaction-index l.committed));
  cost : l.ticks + length (serial_ops (drop l.transaction-index l.committed))
      ≡ l.fn.ticks + length (serial_ops l.committed);
  rises : l.fn.ticks ≤ l.ticks;
}
