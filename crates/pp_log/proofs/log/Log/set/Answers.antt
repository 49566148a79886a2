use Rattle.std.proofs.Common.{◌≡◌, Some, map, ap, ◌∙◌, subst, sym}
use Rattle.std.specs.List.{slice_get}
use Rattle.pp_log.specs.Keeps.{KeepsAll}
use Rattle.pp_log.proofs.Lists.{map_set_same}
use Rattle.pp_log.proofs.log.Log.set.Goals as goal

pub invariant_of-self : goal.invariant_of-self
invariant_of-self g c =
    let f = g.T.Side.item_of in
    let x = c.self.inside.entries.items in
    let same = map_set_same f x c.args.i c.args.entry (subst (λ z. (a : _) → slice_get z.1 c.args.i ≡ Some a → f c.args.entry ≡ f a) (sym c.self.view_is) c.requires.same) in
    subst (λ z. KeepsAll g.S.Spec.object g.S.Placed.place_of c.self.inside.state z c.self.inside.places.items c.self.inside.ids) (sym (ap (map f) c.set.ensures.items ∙ same)) c.self.invariant
