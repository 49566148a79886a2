use Rattle.std.proofs.Common.{◌++◌, ◌∙◌, ap, append-nil, subst, sym}
use Rattle.std.specs.Option.{option_copied}
use Rattle.pp_styles.specs.Knowing.{HoldsWanted}
use Rattle.pp_styles.specs.Meanings.{meanings}
use Rattle.pp_styles.specs.Sources.{kept_sources}
use Rattle.pp_styles.proofs.Taking.{none_told, wanted_at}
use Rattle.pp_styles.proofs.pulls.follow_ids.Goals as goal

pub returns-then-is_empty : goal.returns-then-is_empty
returns-then-is_empty g c =
    sym (append-nil (meanings c.args.list.now))
    ∙ ap (λ w. meanings c.args.list.now ++ w)
    (none_told g.S.Placed.place_of c.args.tx.now c.args.object (kept_sources (option_copied c.args.sources)) c.args.shared.now.1 c.args.local.now.1 c.args.ids.now c.if-is_empty.ensures c.requires)

pub pull_at-requires-clause-all : goal.pull_at-requires-clause-all
pull_at-requires-clause-all g c =
    let us = kept_sources (option_copied c.args.sources) in
    subst (λ at. HoldsWanted g.S.Placed.place_of c.args.object us c.args.shared.now.1 c.args.local.now.1 at) (sym c.deref.ensures.value)
    (wanted_at g.S.Placed.place_of c.args.tx.now c.args.object us c.args.shared.now.1 c.args.local.now.1 c.args.ids.now c.in_ok-at.at.items c.requires c.in_ok-at.ensures.1)
