use Rattle.pp_log_local.specs.Known.{NonePushedFrom}
use Rattle.pp_log_local.proofs.frontiers.moved_back.Given as goal

abbrev pub invariant-loop-k : goal.invariant-loop-k
invariant-loop-k g l = NonePushedFrom l.entries l.k
