use Rattle.pp_log_shared.specs.Blocking.{IsSettled}
use Rattle.pp_log_shared.proofs.shared.settle.Given as goal

abbrev pub invariant-loop-k : goal.invariant-loop-k
invariant-loop-k g l = IsSettled l.entries l.k
