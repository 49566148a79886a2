use Rattle.std.proofs.Common.{◌≡◌, ◌≤◌, ◌+◌, ◌++◌, length, take}
use Rattle.pp_model.specs.Object.{ops}
use Rattle.pp_attempts.specs.Trying.{IsTrail, MayFollow}
use Rattle.pp_opacity.proofs.trial.apply_list.Given as goal

abbrev pub invariant-loop-item : goal.invariant-loop-item
invariant-loop-item g l = record {
  trail : (s : _) (x : _) → MayFollow g.S.Spec.object s (x ++ ops l.items)
      → IsTrail g.S.Spec.object s x l.fn.undos.items l.fn.state
      → IsTrail g.S.Spec.object s (x ++ take l.item-index (ops l.items)) l.undos.items l.state;
  within : l.item-index ≤ length l.items;
  long : length l.undos.items ≡ length l.fn.undos.items + l.item-index;
  cost : l.ticks ≡ l.fn.ticks + l.item-index;
}
