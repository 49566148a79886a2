use Rattle.std.proofs.Common.{ℤ, Some, w64, subst, sym, arith}
use Rattle.std.proofs.lemmas.Int.{to_z-of_z}
use Rattle.pp_kind.specs.Gaps.{Crosses}
use Rattle.pp_kind.specs.declared.gapped.Crossed.TheVariants as crossed
use Rattle.pp_kind_queue.specs.declared.gap.QueueGap.TheVariants as gap
use Rattle.pp_kind_queue.specs.declared.op.QueueOp.TheVariants.{Deq}
use Rattle.pp_kind_queue.specs.Fifo.{fifo}
use Rattle.pp_kind_queue.specs.Gaps.{Bears, Differ}
use Rattle.pp_kind_queue.proofs.Gaps.{crosses_deq}
use Rattle.pp_kind_queue.proofs.gap.lacking_behind_deq.Goals as goal

pub returns : goal.returns
returns c =
    let v = c.args.value in
    let r = c.args.behind in
    let n = c.args.least in
    let m = c.max.result in
    subst
    (λ (x : ℤ). Crosses fifo Bears Differ (gap.Enq v r n) (Deq (Some c.args.taken))
    (crossed.Apart (gap.Enq x r m)))
    (sym (to_z-of_z w64 v c.ranges.value))
    (crosses_deq v c.args.taken r n m (omega arith) (omega arith))
