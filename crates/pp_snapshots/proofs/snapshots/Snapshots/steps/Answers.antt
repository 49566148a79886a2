use Rattle.std.proofs.Common.{subst}
use Rattle.pp_records.specs.Records.{record_meaning}
use Rattle.pp_snapshots.specs.Held.{HasStepCount}
use Rattle.pp_snapshots.specs.Steps.{CountsAs}
use Rattle.pp_snapshots.proofs.StepCounts.{steps_are}
use Rattle.pp_snapshots.proofs.snapshots.Snapshots.steps.Goals as goal

pub returns-clause-count : goal.returns-clause-count
returns-clause-count g c =
    let r = record_meaning c.args.recorded.now in
    let counts = subst (λ v. CountsAs g.S.Placed.place_of v r c.steps.result) c.deref.ensures c.steps.ensures.count in
    subst (λ s. HasStepCount g.S.Spec.object g.S.Placed.place_of s r c.steps.result) c.self.view_is
    (steps_are g.S.Spec.object g.S.Placed.place_of g.S.Placed.SameAt g.met.S.Spec.lawful g.met.S.Placed.placed c.self.inside.parts.value c.self.invariant.0 r c.steps.result c.requires.style counts)
