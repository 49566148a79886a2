use Rattle.std.proofs.Common.{map, subst}
use Rattle.pp_model.specs.Object.{HasDistinctIds}
use Rattle.pp_kind.specs.Object.{IsAllowed, AllRanged}
use Rattle.pp_log.proofs.Maps.{seen, through}
use Rattle.pp_log.proofs.log.Log.len.Goals as goal

pub returns-clause-allowed : goal.returns-clause-allowed
returns-clause-allowed g c =
    let o = g.S.Spec.object in
    through (λ sh ops. IsAllowed o sh ops) (seen g.T.Side.item_of (o.shape c.self.inside.state) c.self.inside.entries.items c.args.self.now c.self.view_is) c.self.invariant.keeps.allowed

pub returns-clause-ranged : goal.returns-clause-ranged
returns-clause-ranged g c =
    let o = g.S.Spec.object in
    through (λ sh ops. AllRanged o ops) (seen g.T.Side.item_of (o.shape c.self.inside.state) c.self.inside.entries.items c.args.self.now c.self.view_is) c.self.invariant.keeps.ranged

pub returns-clause-distinct : goal.returns-clause-distinct
returns-clause-distinct g c = subst (λ z. HasDistinctIds (map g.T.Side.item_of z.1)) c.self.view_is c.self.invariant.keeps.distinct
