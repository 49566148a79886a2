use Rattle.std.proofs.Common.{subst, sym}
use Rattle.pp_styles.specs.Dropping.{HoldsPulled}
use Rattle.pp_styles.proofs.Dropping.{pulled_at}
use Rattle.pp_styles.proofs.drops.unpull_ids.Goals as goal

pub unpull_at-requires-clause-all : goal.unpull_at-requires-clause-all
unpull_at-requires-clause-all g c =
    let u = c.args.source.now in
    let l = c.args.local.now.1 in
    subst (λ w. HoldsPulled u w c.deref.result.now) (sym c.entries.ensures)
    (subst (λ at. HoldsPulled u l at) (sym c.deref.ensures.value)
    (pulled_at c.args.tx.now u l c.args.ids.now c.in_ok-at.at.items c.requires c.in_ok-at.ensures.1))
