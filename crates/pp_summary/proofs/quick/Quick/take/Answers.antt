use Rattle.std.proofs.Common.{◌∙◌, ◌+◌, ◌≤◌, ap, subst, sym}
use Rattle.pp_records.specs.Records.{record_meaning}
use Rattle.pp_summary.specs.Held.{IsRecordAsked, TakeCosts, Takes, take_most}
use Rattle.pp_summary.specs.Shown.{as_held}
use Rattle.pp_summary.proofs.HeldOf.{apart_of}
use Rattle.pp_summary.proofs.Taking.{keeps_after, shape_after, takes_of}
use Rattle.pp_summary.proofs.quick.Quick.take.Goals as goal

pub take-requires-clause-asked : goal.take-requires-clause-asked
take-requires-clause-asked g c = subst (λ z. IsRecordAsked g.S.Spec.object z.shape (record_meaning c.args.recorded.now)) (sym c.self.view_is) c.requires.asked

pub invariant_of-result : goal.invariant_of-result
invariant_of-result g c =
    keeps_after g.S.Spec.object g.S.Placed.place_of c.self.inside.parts.value c.in_ok-parts.parts.value (record_meaning c.args.recorded.now) c.in_ok-parts.good c.in_ok-parts.ensures.answers c.self.invariant

pub returns-clause-takes : goal.returns-clause-takes
returns-clause-takes g c =
    let apart = apart_of g.S.Spec.object g.S.Placed.place_of g.S.Placed.SameAt g.met.S.Placed.placed in
    subst (λ z. Takes g.S.Spec.object g.S.Placed.place_of z (record_meaning c.args.recorded.now) c.in_ok-parts.good (as_held g.S.Placed.place_of c.in_ok-parts.parts.value)) c.self.view_is
    (takes_of g.S.Spec.object g.S.Placed.place_of apart c.self.inside.parts.value c.in_ok-parts.parts.value (record_meaning c.args.recorded.now) c.in_ok-parts.good c.requires.style c.in_ok-parts.ensures.answers)

pub returns-clause-shape : goal.returns-clause-shape
returns-clause-shape g c =
    shape_after g.S.Spec.object g.S.Placed.place_of c.self.inside.parts.value c.in_ok-parts.parts.value (record_meaning c.args.recorded.now) c.in_ok-parts.good c.in_ok-parts.ensures.answers
    ∙ ap (λ z. z.shape) c.self.view_is

pub returns-clause-cost : goal.returns-clause-cost
returns-clause-cost g c =
    subst (λ z. TakeCosts z.brief (record_meaning c.args.recorded.now) c.in_ok-parts.good c.args.ticks.now c.take.new.ticks) c.self.view_is c.in_ok-parts.ensures.cost

pub returns-clause-bound : goal.returns-clause-bound
returns-clause-bound g c =
    subst (λ z. c.take.new.ticks ≤ c.args.ticks.now + take_most z.brief (record_meaning c.args.recorded.now)) c.self.view_is c.take.ensures.bound

pub returns-in_err-parts-clause-bound : goal.returns-in_err-parts-clause-bound
returns-in_err-parts-clause-bound g c =
    subst (λ z. c.take.new.ticks ≤ c.args.ticks.now + take_most z.brief (record_meaning c.args.recorded.now)) c.self.view_is c.take.ensures.bound
