use Rattle.pp_log.proofs.Forgotten.{AreForgotten}
use Rattle.pp_log.proofs.batch.forget_all.Given as goal

abbrev pub invariant-loop-left : goal.invariant-loop-left
invariant-loop-left g l = AreForgotten g.S.Spec.object l.batch l.initial.ids l.initial.ids_there.items l.left l.ids l.ids_there.items

abbrev pub decreases-loop-left : goal.decreases-loop-left
decreases-loop-left g l = l.left
