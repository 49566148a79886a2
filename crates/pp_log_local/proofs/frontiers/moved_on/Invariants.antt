use Rattle.pp_log_local.specs.Known.{NoneUnpushedBefore}
use Rattle.pp_log_local.proofs.frontiers.moved_on.Given as goal

abbrev pub invariant-loop-k : goal.invariant-loop-k
invariant-loop-k g l = NoneUnpushedBefore l.entries l.k
