use Rattle.std.proofs.Common.{◌∙◌}
use Rattle.pp_styles.proofs.Touching.{found_touches}
use Rattle.pp_styles.proofs.pulls.touches.Goals as goal

pub returns : goal.returns
returns g c =
    c.is_some.ensures
    ∙ found_touches g.S.Placed.place_of c.args.object c.args.local.now.1 c.args.from c.next_on.result c.next_on.ensures.found c.next_on.ensures.none
