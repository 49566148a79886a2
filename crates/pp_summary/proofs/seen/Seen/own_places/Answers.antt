use Rattle.std.proofs.Common.{subst}
use Rattle.pp_summary.specs.Seen.{HaveOwnPlaces}
use Rattle.pp_summary.proofs.seen.Seen.own_places.Goals as goal

pub returns : goal.returns
returns c = subst (λ s. HaveOwnPlaces s.entries) c.self.view_is c.self.invariant
