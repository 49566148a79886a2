use Rattle.std.proofs.Common.{◌≡◌, ◌++◌}
use Rattle.pp_kind_priority.specs.Copies.{spread}
use Rattle.pp_kind_priority.proofs.bag.Bag.values.Given as goal

abbrev pub invariant-loop-value : goal.invariant-loop-value
invariant-loop-value l = l.values ++ spread l.value-iterator ≡ spread l.initial.value-iterator
