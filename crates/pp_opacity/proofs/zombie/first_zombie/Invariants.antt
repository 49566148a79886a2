use Rattle.std.proofs.Common.{◌≡◌, ◌≤◌, ◌+◌, length, take}
use Rattle.pp_model.specs.Serial.{start_attempts}
use Rattle.pp_kind.specs.Object.{rules_of}
use Rattle.pp_attempts.specs.Peaks.{meanings}
use Rattle.pp_laws_opacity.specs.Opacity.{IsOpaqueAtApps}
use Rattle.pp_opacity.specs.Replays.{IsReplay, applied_in}
use Rattle.pp_opacity.specs.Results.{IsRun}
use Rattle.pp_opacity.proofs.Costs.{spent}
use Rattle.pp_opacity.proofs.zombie.first_zombie.Given as goal

abbrev pub invariant-loop-i : goal.invariant-loop-i
invariant-loop-i g l = record {
  follows : (h : _) → IsRun g.S.Spec.object l.shape h (meanings l.steps) l.committed → l.given ≡ length (start_attempts h)
      → IsReplay g.S.Spec.object l.shape h (meanings (take l.i l.steps)) l.committed l.replay.serial l.replay.attempts.entries l.replay.applied;
  opaque : (h : _) → IsRun g.S.Spec.object l.shape h (meanings l.steps) l.committed → l.given ≡ length (start_attempts h)
      → IsOpaqueAtApps (rules_of g.S.Spec.object l.shape) h (meanings (take l.i l.steps));
  rises : l.fn.ticks ≤ l.ticks;
  cost : (h : _) → IsRun g.S.Spec.object l.shape h (meanings l.steps) l.committed → l.given ≡ length (start_attempts h)
      → l.ticks + length (applied_in l.replay.applied l.replay.attempts.entries) ≤ l.fn.ticks + spent h l.committed (meanings (take l.i l.steps));
}
