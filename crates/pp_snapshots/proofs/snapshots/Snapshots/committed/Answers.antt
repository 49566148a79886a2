use Rattle.std.proofs.Common.{◌≤◌, ◌+◌, length, subst}
use Rattle.pp_model.specs.Sound.{serial_ops}
use Rattle.pp_kind.specs.Object.{AllRanged, IsAllowed}
use Rattle.pp_snapshots.proofs.StepCounts.{serial_few, serial_ranged}
use Rattle.pp_snapshots.proofs.Takens.{serial_allowed}
use Rattle.pp_snapshots.proofs.snapshots.Snapshots.committed.Goals as goal

pub returns-clause-allowed : goal.returns-clause-allowed
returns-clause-allowed g c =
    subst (λ s. IsAllowed g.S.Spec.object s.shape (serial_ops s.done)) c.self.view_is (serial_allowed g.S.Spec.object g.S.Placed.place_of g.S.Placed.SameAt g.met.S.Spec.lawful g.met.S.Placed.placed c.self.inside.parts.value c.self.invariant.0)

pub returns-clause-ranged : goal.returns-clause-ranged
returns-clause-ranged g c =
    subst (λ s. AllRanged g.S.Spec.object (serial_ops s.done)) c.self.view_is (serial_ranged g.S.Spec.object g.S.Placed.place_of g.S.Placed.SameAt g.met.S.Spec.lawful g.met.S.Placed.placed c.self.inside.parts.value c.self.invariant.0)

pub returns-clause-few : goal.returns-clause-few
returns-clause-few g c =
    subst (λ s. length (serial_ops s.done) ≤ s.count + 256) c.self.view_is (serial_few g.S.Spec.object g.S.Placed.place_of g.S.Placed.SameAt g.met.S.Spec.lawful g.met.S.Placed.placed c.self.inside.parts.value c.self.invariant.0)
