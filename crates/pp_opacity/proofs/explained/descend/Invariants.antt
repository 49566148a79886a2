use Rattle.std.proofs.Common.{◌≤◌, ◌<◌, ◌+◌, ◌*◌, ◌↔◌, ℕ, length, take}
use Rattle.std.specs.Prelude.{IsTrue}
use Rattle.pp_model.specs.Sound.{serial_ops}
use Rattle.pp_kind.specs.Object.{rules_of}
use Rattle.pp_attempts.specs.Views.{Explains}
use Rattle.pp_opacity.specs.Trials.{IsAt, MayAsk}
use Rattle.pp_opacity.proofs.explained.descend.Given as goal

abbrev pub invariant-loop-found : goal.invariant-loop-found
invariant-loop-found g l = record {
  at : (shape : _) → MayAsk g.S.Spec.object shape l.committed l.items l.excluded l.fn.serial → IsAt g.S.Spec.object shape l.committed l.serial;
  here : (shape : _) → MayAsk g.S.Spec.object shape l.committed l.items l.excluded l.fn.serial
      → IsTrue l.found ↔ Explains (rules_of g.S.Spec.object shape) l.committed l.items l.serial.count;
  above : (shape : _) → MayAsk g.S.Spec.object shape l.committed l.items l.excluded l.fn.serial
      → (n : ℕ) → l.serial.count < n → n ≤ l.fn.serial.count → Explains (rules_of g.S.Spec.object shape) l.committed l.items n → ⊥;
  low : l.low ≤ l.serial.count;
  high : l.serial.count ≤ l.fn.serial.count;
  rises : l.fn.ticks ≤ l.ticks;
  cost : l.ticks + length (serial_ops (take l.serial.count l.committed)) + 2 * (l.serial.count * length l.items)
      ≤ l.fn.ticks + length (serial_ops (take l.fn.serial.count l.committed)) + 2 * ((l.fn.serial.count + 1) * length l.items);
}

abbrev pub decreases-loop-found : goal.decreases-loop-found
decreases-loop-found g l = l.serial.count
