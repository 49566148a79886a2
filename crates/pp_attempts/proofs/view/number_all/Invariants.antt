use Rattle.std.proofs.Common.{◌≡◌, ◌≤◌, ◌+◌, ◌*◌, [], take, length}
use Rattle.pp_model.specs.Sound.{serial_ops}
use Rattle.pp_kind.specs.Object.{rules_of}
use Rattle.pp_attempts.specs.Peaks.{operations}
use Rattle.pp_attempts.specs.Trying.{AreCandidates, IsStateAt}
use Rattle.pp_attempts.specs.Views.{IsViewBelow, Pairwise}
use Rattle.pp_attempts.proofs.view.number_all.Given as goal

abbrev pub invariant-loop-transaction : goal.invariant-loop-transaction
invariant-loop-transaction g l = record {
  number : l.number ≡ l.transaction-index;
  state : IsStateAt g.S.Spec.object l.shape l.committed l.transaction-index l.state;
  empty : l.done.items ≡ [];
  views : Pairwise (IsViewBelow (l.transaction-index + 1) (rules_of g.S.Spec.object l.shape) l.committed) l.peaks l.views.items;
  candidates : AreCandidates l.peaks l.views.items l.candidates;
  rises : l.fn.ticks ≤ l.ticks;
  cost : l.ticks ≤ l.fn.ticks + length (serial_ops (take l.transaction-index l.committed))
      + 2 * ((l.transaction-index + 1) * operations l.peaks);
}
