use Rattle.std.proofs.Common.{◌≡◌, ◌+◌, ◌≤◌, length, take}
use Rattle.pp_attempts.specs.Trying.{MayFollow, Stands, applied}
use Rattle.pp_attempts.proofs.trial.take_back_to.Given as goal

abbrev pub invariant-loop-done : goal.invariant-loop-done
invariant-loop-done g l = record {
  stands : (s : _) → MayFollow g.S.Spec.object s (applied l.fn.done.items)
      → Stands g.S.Spec.object s l.fn.done.items l.fn.state
      → MayFollow g.S.Spec.object s (applied l.done.items) × Stands g.S.Spec.object s l.done.items l.state;
  first : take l.len l.done.items ≡ take l.len l.fn.done.items;
  cost : l.ticks + length l.done.items ≡ l.fn.ticks + length l.fn.done.items;
  rises : l.fn.ticks ≤ l.ticks;
}

abbrev pub decreases-loop-done : goal.decreases-loop-done
decreases-loop-done g l = length l.done.items
