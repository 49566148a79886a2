use Rattle.std.proofs.Common.{◌≡◌, ◌+◌, take}
use Rattle.pp_model.specs.Object.{ops}
use Rattle.pp_kind.specs.Object.{IsAllowed}
use Rattle.pp_machine.specs.Starting.{posted}
use Rattle.pp_machine.proofs.machine.start.posted.Given as goal

-- the log of the items so far, which are allowed, with a tick for each
abbrev pub invariant-loop-k : goal.invariant-loop-k
invariant-loop-k g l = record {
  log : l.shared ≡ (l.shape, posted l.tx (take l.k l.items));
  allowed : IsAllowed g.S.Spec.object l.shape (ops (take l.k l.items));
  cost : l.ticks ≡ l.initial.ticks + l.k;
}
