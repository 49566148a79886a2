use Rattle.pp_kind.specs.Object.{IsLog}
use Rattle.pp_log.proofs.Maps.{seen, through}
use Rattle.pp_log.proofs.log.Log.state.Goals as goal

pub returns-clause-log : goal.returns-clause-log
returns-clause-log g c =
    let o = g.S.Spec.object in
    let s = c.self.inside.state in
    let k = c.self.invariant.keeps in
    through (λ sh ops. IsLog o s ops) (seen g.T.Side.item_of (o.shape s) c.self.inside.entries.items c.args.self.now c.self.view_is)
    (record { allowed = k.allowed; is = k.is; ranged = k.ranged })
