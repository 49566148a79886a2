use Rattle.std.proofs.Common.{◌≡◌, ◌+◌, suc, length, refl, arith}
use Rattle.std.proofs.lemmas.Option.{slice_get_read}
use Rattle.pp_styles.proofs.Growing.{grown}
use Rattle.pp_styles.proofs.Outs.{pushed_more}
use Rattle.pp_styles.proofs.walks.pushall.Goals as goal

pub loop-entry-preserved : goal.loop-entry-preserved
loop-entry-preserved g c =
    let xs = c.args.entries.now in
    let next : c.loop-entry.entry-index + 1 ≡ suc c.loop-entry.entry-index = omega arith in
    let here = slice_get_read xs (length xs) c.loop-entry.entry-index c.entry-item.result refl c.loop-entry-test.true c.entry-item.is in
    grown _ _ _ c.in_ok-push_one.ensures c.loop-entry.invariant (pushed_more c.args.tx.now xs c.loop-entry.entry-index (c.loop-entry.entry-index + 1) next c.entry-item.result here)
