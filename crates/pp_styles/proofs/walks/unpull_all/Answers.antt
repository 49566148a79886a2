use Rattle.std.proofs.Common.{◌≡◌, ◌-◌, ◌<◌, suc, length, refl, arith}
use Rattle.std.proofs.lemmas.Option.{slice_get_read}
use Rattle.pp_styles.proofs.Growing.{grown}
use Rattle.pp_styles.proofs.Outs.{unpulled_more}
use Rattle.pp_styles.proofs.walks.unpull_all.Goals as goal

pub walk-preserved : goal.walk-preserved
walk-preserved g c =
    let xs = c.args.entries.now in
    let within = c.walk.invariant.0 in
    let next : c.walk.at ≡ suc (c.walk.at - 1) = omega arith in
    let below : c.walk.at - 1 < length xs = omega arith in
    let here = slice_get_read xs (length xs) (c.walk.at - 1) c.index-entries-at.result refl below c.index-entries-at.is in (
      omega arith,
      grown _ _ _ c.in_ok-unpull_one.ensures c.walk.invariant.1 (unpulled_more c.args.tx.now xs (c.walk.at - 1) c.walk.at next c.index-entries-at.result here c.args.source.now),
    )
