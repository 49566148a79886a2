use Rattle.std.proofs.Common.{◌≡◌, ◌+◌, ◌≤◌, ℕ, List, length, take}
use Rattle.pp_snapshots.specs.Past.{IsPast, with_ops}
use Rattle.pp_snapshots.proofs.many.take_all_back.Given as goal

-- the first ones are left
abbrev pub invariant-loop-left : goal.invariant-loop-left
invariant-loop-left g l = record {
  within : l.left ≤ length l.ops;
  left : (shape : _) (h : ℕ → List _) → IsPast g.S.Spec.object g.S.Placed.place_of shape l.initial.past (with_ops g.S.Placed.place_of h l.ops) → IsPast g.S.Spec.object g.S.Placed.place_of shape l.past (with_ops g.S.Placed.place_of h (take l.left l.ops));
  size : l.past.size + length l.ops ≡ l.initial.past.size + l.left;
  ticks : l.ticks + l.left ≡ l.initial.ticks + length l.ops;
}

abbrev pub decreases-loop-left : goal.decreases-loop-left
decreases-loop-left g l = l.left
