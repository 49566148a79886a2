use Rattle.std.proofs.Common.{◌∙◌, ◌+◌, ◌<◌, ◌≤◌, [], ap, subst, sym}
use Rattle.pp_records.specs.Records.{record_meaning}
use Rattle.pp_summary.specs.Held.{IsRecordAsked}
use Rattle.pp_snapshots.specs.ByPart.{IsListed, ops_in}
use Rattle.pp_snapshots.specs.Costs.{take_most}
use Rattle.pp_snapshots.specs.Held.{Takes, summary_taken}
use Rattle.pp_snapshots.specs.Moving.{as_taken}
use Rattle.pp_snapshots.specs.Ops.{kept_most}
use Rattle.pp_snapshots.specs.Shown.{Keeps}
use Rattle.pp_snapshots.proofs.Costs.{most_is}
use Rattle.pp_snapshots.proofs.Takens.{keeps_then, listed_then, summary_is, takes_is}
use Rattle.pp_snapshots.proofs.snapshots.Snapshots.take.Goals as goal

pub take-requires-clause-keeps : goal.take-requires-clause-keeps
take-requires-clause-keeps g c = subst (Keeps g.S.Spec.object g.S.Placed.place_of) (sym c.deref_mut.ensures.value) c.self.invariant.0

pub take-requires-clause-listed : goal.take-requires-clause-listed
take-requires-clause-listed g c =
    subst (λ v. IsListed g.S.Placed.place_of g.S.Parted.part_of v.by_part (ops_in v.past)) (sym c.deref_mut.ensures.value) c.self.invariant.1

pub take-requires-clause-asked : goal.take-requires-clause-asked
take-requires-clause-asked g c =
    subst (λ z. IsRecordAsked g.S.Spec.object z.shape (record_meaning c.args.recorded.now)) (sym (ap as_taken c.deref_mut.ensures.value ∙ c.self.view_is)) c.requires.asked

pub take-requires-clause-few : goal.take-requires-clause-few
take-requires-clause-few g c = subst (λ z. z.count < 4294967295) (sym (ap as_taken c.deref_mut.ensures.value ∙ c.self.view_is)) c.requires.few

pub invariant_of-result : goal.invariant_of-result
invariant_of-result g c =
    let o = g.S.Spec.object in
    let place = g.S.Placed.place_of in
    let part = g.S.Parted.part_of in
    let v = c.deref_mut.result.now in
    let w = c.take.new.parts in
    let r = record_meaning c.args.recorded.now in
    let keeps = subst (Keeps o place) (sym c.deref_mut.ensures.value) c.self.invariant.0 in (
      keeps_then o place v w r c.in_ok-good.good c.in_ok-good.ensures.answers,
      listed_then o place part v w w.by_part r c.in_ok-good.good keeps c.in_ok-good.ensures.answers c.in_ok-good.ensures.listed,
    )

pub returns-clause-takes : goal.returns-clause-takes
returns-clause-takes g c =
    subst (λ z. Takes g.S.Spec.object g.S.Placed.place_of z (record_meaning c.args.recorded.now) c.in_ok-good.good (as_taken c.take.new.parts)) (ap as_taken c.deref_mut.ensures.value ∙ c.self.view_is)
    (takes_is g.S.Spec.object g.S.Placed.place_of c.deref_mut.result.now c.take.new.parts (record_meaning c.args.recorded.now) c.in_ok-good.good c.in_ok-good.ensures.answers)

pub returns-clause-bound : goal.returns-clause-bound
returns-clause-bound g c =
    let r = record_meaning c.args.recorded.now in
    let v = c.self.inside.parts.value in
    let most =
    ap (λ z. kept_most g.S.Placed.place_of g.S.Parted.part_of g.S.PartByPart.silent_of z r) c.deref_mut.ensures.value ∙ most_is g.S.Spec.object g.S.Placed.place_of g.S.Parted.part_of g.S.PartByPart.silent_of v c.self.invariant.0 [] r
    ∙ ap (λ B. take_most g.S.Placed.place_of g.S.Parted.part_of g.S.PartByPart.silent_of B r) (sym (summary_is [] v) ∙ ap (λ z. summary_taken [] z) c.self.view_is) in
    subst (λ n. c.take.new.ticks ≤ c.args.ticks.now + n) most c.take.ensures.bound

pub returns-in_err-good-clause-bound : goal.returns-in_err-good-clause-bound
returns-in_err-good-clause-bound g c =
    let r = record_meaning c.args.recorded.now in
    let v = c.self.inside.parts.value in
    let most =
    ap (λ z. kept_most g.S.Placed.place_of g.S.Parted.part_of g.S.PartByPart.silent_of z r) c.deref_mut.ensures.value ∙ most_is g.S.Spec.object g.S.Placed.place_of g.S.Parted.part_of g.S.PartByPart.silent_of v c.self.invariant.0 [] r
    ∙ ap (λ B. take_most g.S.Placed.place_of g.S.Parted.part_of g.S.PartByPart.silent_of B r) (sym (summary_is [] v) ∙ ap (λ z. summary_taken [] z) c.self.view_is) in
    subst (λ n. c.take.new.ticks ≤ c.args.ticks.now + n) most c.take.ensures.bound
