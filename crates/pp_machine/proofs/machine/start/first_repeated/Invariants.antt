use Rattle.std.proofs.Common.{◌≡◌, []}
use Rattle.pp_machine.specs.Starts.{first_repeated}
use Rattle.pp_machine.proofs.Starting.{told_from}
use Rattle.pp_machine.proofs.machine.start.first_repeated.Given as goal

-- Nothing was reported so far.
abbrev pub invariant-loop-k : goal.invariant-loop-k
invariant-loop-k g l = told_from l.items l.k ≡ first_repeated [] l.items
