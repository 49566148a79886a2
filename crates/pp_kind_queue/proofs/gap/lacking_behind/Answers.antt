use Rattle.std.proofs.Common.{w64, rules, sym, ◌∙◌, ap, FitsSigned}
use Rattle.std.proofs.lemmas.Int.{to_z-of_z}
use Rattle.pp_kind_queue.specs.declared.op.QueueOp.TheVariants.{Enq}
use Rattle.pp_kind_queue.proofs.Gaps.{carried}
use Rattle.pp_kind_queue.proofs.gap.lacking_behind.Goals as goal

pub returns-in-Enq : goal.returns-in-Enq
returns-in-Enq c =
    let fits : FitsSigned w64 c.in-Enq.added = search rules in
    carried _ c.args.value c.args.behind c.args.least _ c.args.op.now _
    (to_z-of_z w64 c.args.value c.ranges.value)
    (ap Enq (to_z-of_z w64 c.in-Enq.added fits) ∙ sym c.in-Enq.is)
    c.lacking_behind_enq.ensures
