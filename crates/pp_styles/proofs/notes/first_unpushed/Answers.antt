use Rattle.std.proofs.Common.{◌<◌, length, subst, arith, ap, sym, ◌∙◌}
use Rattle.pp_model.specs.Config.{Unpushed, is_mark}
use Rattle.pp_log_shared.proofs.Nexts.{read}
use Rattle.pp_styles.proofs.Noted.{pushed_next}
use Rattle.pp_styles.proofs.notes.first_unpushed.Goals as goal

pub loop-at-preserved : goal.loop-at-preserved
loop-at-preserved g c =
    let above = c.loop-at.invariant.0 in
    let size = subst (λ z. c.loop-at.at < length z) c.entries-entries.ensures c.loop-at-test.true in
    let here = read c.entries-entries.result.now c.args.local.now.1 c.loop-at.at c.index-entries-at.result c.entries-entries.ensures size c.index-entries-at.is in (
      omega arith,
      pushed_next c.args.local.now.1 c.args.from c.loop-at.at c.index-entries-at.result here
          (ap (λ e. is_mark e.mark Unpushed) c.index-entries-at.is ∙ sym c.is_mark.ensures ∙ c.if-is_mark.false) c.loop-at.invariant.1,
    )
