use Rattle.std.proofs.Common.{◌≡◌, ◌++◌}
use Rattle.pp_kind_set.proofs.members.Members.keys.Given as goal

abbrev pub invariant-loop-key : goal.invariant-loop-key
invariant-loop-key l = l.keys ++ l.key-iterator ≡ l.initial.key-iterator
