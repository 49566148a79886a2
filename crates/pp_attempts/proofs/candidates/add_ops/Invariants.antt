use Rattle.std.proofs.Common.{◌≡◌, ◌++◌, take}
use Rattle.pp_model.specs.Object.{ops}
use Rattle.pp_attempts.proofs.candidates.add_ops.Given as goal

abbrev pub invariant-loop-item : goal.invariant-loop-item
invariant-loop-item g l = l.list.items ≡ l.fn.list.items ++ ops (take l.item-index l.items)
