use Rattle.std.proofs.Common.{◌≡◌, ◌≤◌, ◌+◌, ◌++◌, length, take}
use Rattle.pp_model.specs.Object.{ops}
use Rattle.pp_attempts.specs.Trying.{IsTrail, MayFollow}
use Rattle.pp_opacity.proofs.trial.take_back.Given as goal

abbrev pub invariant-loop-left : goal.invariant-loop-left
invariant-loop-left g l = record {
  trail : (s : _) (x : _) → MayFollow g.S.Spec.object s (x ++ ops l.items)
      → IsTrail g.S.Spec.object s (x ++ ops l.items) l.fn.undos.items l.fn.state
      → IsTrail g.S.Spec.object s (x ++ take l.left (ops l.items)) l.undos.items l.state;
  within : l.left ≤ length l.items;
  rises : l.fn.ticks ≤ l.ticks;
  cost : l.ticks + l.left ≡ l.fn.ticks + length l.items;
}

abbrev pub decreases-loop-left : goal.decreases-loop-left
decreases-loop-left g l = l.left
