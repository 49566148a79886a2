use Rattle.pp_log_shared.specs.Blocking.{AllGiveWayBelow}
use Rattle.pp_log_shared.proofs.shared.Shared.blocking.Given as goal

abbrev pub invariant-loop-k : goal.invariant-loop-k
invariant-loop-k g l = AllGiveWayBelow g.S.Spec.object l.owner l.op l.self.1 l.k
