use Rattle.pp_styles.proofs.Taking.{committed_alone}
use Rattle.pp_styles.proofs.pulls.refresh.Goals as goal

pub follow_ids-requires : goal.follow_ids-requires
follow_ids-requires g c =
    committed_alone g.S.Placed.place_of c.args.object c.args.shared.now.1 c.args.local.now.1 c.args.ids.now c.requires
