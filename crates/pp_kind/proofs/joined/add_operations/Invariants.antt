use Rattle.std.proofs.Common.{◌≡◌, ◌++◌, drop}
use Rattle.pp_model.specs.Object.{ops}
use Rattle.pp_kind.proofs.joined.add_operations.Given as goal

abbrev pub invariant-loop-entry : goal.invariant-loop-entry
invariant-loop-entry g l = l.list ++ ops (drop l.entry-index l.entries) ≡ l.fn.list ++ ops l.entries
