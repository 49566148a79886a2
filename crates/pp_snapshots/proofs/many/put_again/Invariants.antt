use Rattle.std.proofs.Common.{◌≡◌, ◌+◌, ℕ, List, take}
use Rattle.pp_snapshots.specs.Past.{IsPast, with_ops}
use Rattle.pp_snapshots.proofs.many.put_again.Given as goal

-- the first ones are applied
abbrev pub invariant-loop-k : goal.invariant-loop-k
invariant-loop-k g l = record {
  done : (shape : _) (h : ℕ → List _) → IsPast g.S.Spec.object g.S.Placed.place_of shape l.initial.past h → IsPast g.S.Spec.object g.S.Placed.place_of shape l.past (with_ops g.S.Placed.place_of h (take l.k l.ops));
  size : l.past.size ≡ l.initial.past.size + l.k;
  ticks : l.ticks ≡ l.initial.ticks + l.k;
}
