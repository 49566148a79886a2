use Rattle.std.proofs.Common.{◌≡◌, ◌+◌, take}
use Rattle.pp_model.specs.Object.{ops}
use Rattle.pp_kind.specs.Object.{IsAllowed}
use Rattle.pp_summary.specs.Starting.{start_entries}
use Rattle.pp_summary.proofs.start.make_log.Given as goal

-- The log of the items so far, which are allowed, with a tick for each.
abbrev pub invariant-loop-k : goal.invariant-loop-k
invariant-loop-k g l = record {
  log : l.shared ≡ (l.shape, start_entries l.tx (take l.k l.items));
  allowed : IsAllowed g.S.Spec.object l.shape (ops (take l.k l.items));
  cost : l.ticks ≡ l.initial.ticks + l.k;
}
