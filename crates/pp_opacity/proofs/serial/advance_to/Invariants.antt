use Rattle.std.proofs.Common.{◌≤◌, ◌+◌, ◌-◌, length, take}
use Rattle.pp_model.specs.Sound.{serial_ops}
use Rattle.pp_opacity.specs.Trials.{IsAt, IsSerial}
use Rattle.pp_opacity.proofs.serial.advance_to.Given as goal

abbrev pub invariant-loop-serial : goal.invariant-loop-serial
invariant-loop-serial g l = record {
  at : (shape : _) → IsSerial g.S.Spec.object shape l.committed → IsAt g.S.Spec.object shape l.committed l.fn.serial
      → IsAt g.S.Spec.object shape l.committed l.serial;
  below : l.serial.count ≤ l.count;
  rises : l.fn.ticks ≤ l.ticks;
  cost : l.ticks + length (serial_ops (take l.fn.serial.count l.committed)) ≤ l.fn.ticks + length (serial_ops (take l.serial.count l.committed));
}

abbrev pub decreases-loop-serial : goal.decreases-loop-serial
decreases-loop-serial g l = l.count - l.serial.count
