use Rattle.std.proofs.Common.{ap, option_map, refl, sym, subst}
use Rattle.pp_core.specs.Trees.{tree}
use Rattle.pp_body.specs.Walks.{Walked, HasTaken}
use Rattle.pp_body.proofs.Tracks.{took}
use Rattle.pp_body.proofs.walk.Walk.follow.Goals as goal

pub returns-in_ok-push-clause-taken : goal.returns-in_ok-push-clause-taken
returns-in_ok-push-clause-taken c taken known =
    let inside = subst (λ (w : Walked). HasTaken w taken) (sym c.self.view_is) known in
    took (option_map tree c.self.inside.body) (tree c.in-Some.body) c.self.inside.reached.items c.push.new.self.items c.push.new.self.items c.deref.result.now c.last_state_of-set.result c.shift.result c.args.call.now taken
    (ap (option_map tree) c.in-Some.is) refl c.in_ok-push.ensures.items c.deref.ensures.value c.last_state_of-set.ensures c.shift.ensures inside
