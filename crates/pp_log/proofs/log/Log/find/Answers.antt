use Rattle.std.proofs.Common.{map, ap, ◌∙◌}
use Rattle.pp_log.specs.Room.{ids_of}
use Rattle.pp_log.proofs.Ids.{position_of_id}
use Rattle.pp_log.proofs.Maps.{position_seen}
use Rattle.pp_log.proofs.log.Log.find.Goals as goal

pub returns : goal.returns
returns g c =
    let f = g.T.Side.item_of in
    let log = map f c.self.inside.entries.items in
    c.find.ensures (ids_of log) c.self.invariant.index
    ∙ position_of_id log c.args.id
    ∙ position_seen f log c.args.self.now.1 c.args.id (ap (λ z. map f z.1) c.self.view_is)
