use Rattle.std.proofs.Common.{◌≡◌, [], ◌++◌}
use Rattle.pp_kind_priority.specs.Copies.{copies}
use Rattle.pp_kind_priority.proofs.bag.push_copies.Given as goal

abbrev pub invariant-loop : goal.invariant-loop
invariant-loop l = l.values ≡ l.initial.values ++ copies l.value l.counter []
