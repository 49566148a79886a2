use Rattle.std.proofs.Common.{subst}
use Rattle.pp_core.specs.Catalogs.{HasDistinctNames}
use Rattle.pp_core.proofs.Places.{one_place}
use Rattle.pp_core.proofs.catalog.Catalog.len.Goals as goal

pub returns-clause-distinct : goal.returns-clause-distinct
returns-clause-distinct c =
    subst HasDistinctNames c.self.view_is (one_place c.self.inside.objects.entries c.self.invariant.0)
