use Rattle.std.proofs.Common.{◌≡◌, ◌+◌, take}
use Rattle.pp_model.specs.Object.{ops}
use Rattle.pp_kind.specs.Object.{state_from}
use Rattle.pp_attempts.proofs.view.apply_committed.Given as goal

abbrev pub invariant-loop-entry : goal.invariant-loop-entry
invariant-loop-entry g l = record {
  leads : l.state ≡ state_from g.S.Spec.object l.fn.state (take l.entry-index (ops l.entries));
  cost : l.ticks ≡ l.fn.ticks + l.entry-index;
}
