use Rattle.std.proofs.Common.{arith}
use Rattle.pp_styles.proofs.Looking.{NeedsNoLook, true_next}
use Rattle.pp_styles.proofs.looks.first_missing.Goals as goal

pub loop-at-preserved : goal.loop-at-preserved
loop-at-preserved g c =
    let above = c.loop-at.invariant.0 in (
      omega arith,
      true_next (NeedsNoLook c.args.local.now.1 c.args.shared.now.1) c.args.ids.now c.args.from c.loop-at.at _ (c.is_missing.ensures c.if-is_missing.false) c.loop-at.invariant.1,
    )
