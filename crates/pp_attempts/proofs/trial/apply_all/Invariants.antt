use Rattle.std.proofs.Common.{◌≡◌, ◌≤◌, ◌+◌, ◌++◌, length, take}
use Rattle.pp_attempts.specs.Trying.{MayFollow, Stands, applied}
use Rattle.pp_attempts.proofs.trial.apply_all.Given as goal

abbrev pub invariant-loop-op : goal.invariant-loop-op
invariant-loop-op g l = record {
  stands : (s : _) → MayFollow g.S.Spec.object s (applied l.fn.done.items ++ l.ops)
      → Stands g.S.Spec.object s l.fn.done.items l.fn.state
      → Stands g.S.Spec.object s l.done.items l.state;
  front : applied l.done.items ≡ applied l.fn.done.items ++ take l.op-index l.ops;
  within : l.op-index ≤ length l.ops;
  long : length l.done.items ≡ length l.fn.done.items + l.op-index;
  cost : l.ticks ≡ l.fn.ticks + l.op-index;
}
