use Rattle.std.proofs.Common.{ap, option_map, sym, ◌∙◌}
use Rattle.pp_core.specs.Trees.{tree}
use Rattle.pp_body.specs.Walks.{Walked}
use Rattle.pp_body.proofs.Tracks.{complete_iff}
use Rattle.pp_body.proofs.walk.Walk.complete.Goals as goal

pub returns-in-Some : goal.returns-in-Some
returns-in-Some c taken known =
    let some = ap (λ (w : Walked). w.body) (sym c.self.view_is) ∙ ap (option_map tree) c.in-Some.is in
    let reached = c.deref.ensures.value ∙ ap (λ (w : Walked). w.reached) c.self.view_is in
    complete_iff c.args.self.now.body (tree c.in-Some.body) c.args.self.now.reached c.deref.result.now c.is_at_end.result taken some reached c.is_at_end.ensures known
