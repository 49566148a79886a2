use Rattle.std.proofs.Common.{subst}
use Rattle.pp_records.specs.Fronts.{Front}
use Rattle.pp_records.specs.Runs.{Standing}
use Rattle.pp_snapshots.specs.Held.{IsTakenOf}
use Rattle.pp_snapshots.proofs.Takens.{held_is}
use Rattle.pp_snapshots.proofs.snapshots.Snapshots.count.Goals as goal

pub returns-clause-held : goal.returns-clause-held
returns-clause-held g c =
    subst (λ z. (p : Standing Front _) × IsTakenOf g.S.Spec.object g.S.Placed.place_of z p) c.self.view_is (held_is g.S.Spec.object g.S.Placed.place_of c.self.inside.parts.value c.self.invariant.0)
