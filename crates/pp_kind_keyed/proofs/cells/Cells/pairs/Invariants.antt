use Rattle.std.proofs.Common.{◌≡◌, ◌++◌}
use Rattle.pp_kind_keyed.proofs.cells.Cells.pairs.Given as goal

abbrev pub invariant-loop-key : goal.invariant-loop-key
invariant-loop-key l = l.pairs ++ l.key-iterator ≡ l.initial.key-iterator
