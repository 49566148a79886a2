use Rattle.std.proofs.Common.{◌≤◌, ◌+◌, length, subst}
use Rattle.pp_model.specs.Sound.{serial_ops}
use Rattle.pp_kind.specs.Object.{AllRanged, IsAllowed}
use Rattle.pp_summary.proofs.Fresh.{done_allowed, done_few, done_ranged}
use Rattle.pp_summary.proofs.HeldOf.{apart_of}
use Rattle.pp_summary.proofs.quick.Quick.committed.Goals as goal

pub returns-clause-allowed : goal.returns-clause-allowed
returns-clause-allowed g c =
    let apart = apart_of g.S.Spec.object g.S.Placed.place_of g.S.Placed.SameAt g.met.S.Placed.placed in
    subst (λ z. IsAllowed g.S.Spec.object z.shape (serial_ops z.brief.done)) c.self.view_is (done_allowed g.S.Spec.object g.S.Placed.place_of apart c.self.inside.parts.value c.self.invariant)

pub returns-clause-ranged : goal.returns-clause-ranged
returns-clause-ranged g c =
    let apart = apart_of g.S.Spec.object g.S.Placed.place_of g.S.Placed.SameAt g.met.S.Placed.placed in
    subst (λ z. AllRanged g.S.Spec.object (serial_ops z.brief.done)) c.self.view_is (done_ranged g.S.Spec.object g.S.Placed.place_of apart c.self.inside.parts.value c.self.invariant)

pub returns-clause-few : goal.returns-clause-few
returns-clause-few g c =
    let apart = apart_of g.S.Spec.object g.S.Placed.place_of g.S.Placed.SameAt g.met.S.Placed.placed in
    subst (λ z. length (serial_ops z.brief.done) ≤ z.count + 256) c.self.view_is (done_few g.S.Spec.object g.S.Placed.place_of apart c.self.inside.parts.value c.self.invariant)
