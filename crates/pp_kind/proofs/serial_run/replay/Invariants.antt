use Rattle.std.proofs.Common.{◌≡◌, ◌+◌, drop}
use Rattle.pp_model.specs.Object.{ops}
use Rattle.pp_kind.specs.Object.{state_from}
use Rattle.pp_kind.proofs.Replays.{IsReplaying}
use Rattle.pp_kind.proofs.serial_run.replay.Given as goal

abbrev pub invariant-loop-entry : goal.invariant-loop-entry
invariant-loop-entry g l = record {
  replaying : IsReplaying g.S.Spec.object (state_from g.S.Spec.object l.fn.state (ops l.entries))
      l.state (ops (drop l.entry-index l.entries));
  cost : l.ticks ≡ l.fn.ticks + l.entry-index;
}
