use Rattle.std.proofs.Common.{◌≡◌, ◌++◌, ◌∷◌, [], length, option_map, vec_len, sym, subst, rules}
use Rattle.pp_core.specs.Trees.{tree}
use Rattle.pp_body.specs.Walks.{Walked, HasTaken}
use Rattle.pp_body.proofs.Tracks.{went_back, none_empty}
use Rattle.pp_body.proofs.walk.Walk.retreat.Goals as goal

pub returns-clause-taken : goal.returns-clause-taken
returns-clause-taken c taken last known =
    let sets : vec_len c.self.inside.reached ≡ length c.self.inside.reached.items = search rules in
    went_back (option_map tree c.self.inside.body) taken last c.self.inside.reached.items c.pop.new.self.items c.pop.result c.pop.ensures.items
    (none_empty c.pop.result _ _ c.pop.ensures.variant sets) (subst (λ (w : Walked). HasTaken w (taken ++ last ∷ [])) (sym c.self.view_is) known)
