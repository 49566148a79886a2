use Rattle.std.proofs.Common.{◌≡◌, Some, slice_get, subst, rules}
use Rattle.pp_core.specs.Catalogs.{place_of}
use Rattle.pp_core.proofs.Places.{found_at_place}
use Rattle.pp_core.proofs.catalog.Catalog.at.Goals as goal

pub returns-clause-found : goal.returns-clause-found
returns-clause-found c =
    let at : slice_get c.self.inside.objects.entries c.args.object ≡ Some (c.in_ok-name.name.now, c.in_ok-name.kind.now) = search rules in
    subst (λ es. place_of c.in_ok-name.name.now es ≡ Some c.args.object) c.self.view_is (found_at_place c.self.inside.objects.entries c.args.object (c.in_ok-name.name.now, c.in_ok-name.kind.now) c.self.invariant.0 at)
