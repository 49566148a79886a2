use Rattle.std.proofs.Common.{arith}
use Rattle.pp_styles.proofs.Noted.{stands_next}
use Rattle.pp_styles.proofs.notes.first_missing.Goals as goal

pub loop-at-preserved : goal.loop-at-preserved
loop-at-preserved g c =
    let above = c.loop-at.invariant.0 in (
      omega arith,
      stands_next c.args.ids.now c.args.local.now.1 c.args.from c.loop-at.at _ c.find.result c.find.ensures c.if-is_none.ensures c.loop-at.invariant.1,
    )
