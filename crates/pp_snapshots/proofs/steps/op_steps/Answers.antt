use Rattle.std.proofs.Common.{◌∙◌, ◌+◌, ap, arith, sym}
use Rattle.pp_core.specs.declared.call.Style.TheVariants.{Optimistic}
use Rattle.pp_laws_summary.specs.Counts.{op_count}
use Rattle.pp_snapshots.specs.Shown.{shown}
use Rattle.pp_snapshots.specs.Steps.{first_pulls}
use Rattle.pp_snapshots.proofs.StepCounts.{alone_count, op_counts, pulls_few}
use Rattle.pp_snapshots.proofs.steps.op_steps.Goals as goal

pub returns-in_default-clause-count : goal.returns-in_default-clause-count
returns-in_default-clause-count g c = λ id ks.
    alone_count g.S.Spec.object g.S.Placed.place_of g.S.Placed.SameAt g.met.S.Spec.lawful g.met.S.Placed.placed c.args.parts.now c.requires.keeps c.args.tx.now (sym c.in_default.ensures) (op_count g.S.Placed.place_of Optimistic (shown ks c.args.parts.now) c.args.op.now)

pub overflow_add-result : goal.overflow_add-result
overflow_add-result g c =
    let few = pulls_few g.S.Spec.object g.S.Placed.place_of g.S.Placed.SameAt g.met.S.Spec.lawful g.met.S.Placed.placed c.args.parts.now c.requires.keeps c.args.tx.now c.in-Some.it.now (sym c.in-Some.ensures) c.place-place.result in
    let is = c.count_pulls-pulls.ensures in
    let count = c.requires.few in
    omega (arith, few, is, count)

pub returns-clause-count : goal.returns-clause-count
returns-clause-count g c = λ id.
    op_counts g.S.Spec.object g.S.Placed.place_of g.S.Placed.SameAt g.met.S.Spec.lawful g.met.S.Placed.placed c.args.parts.now c.requires.keeps c.args.tx.now c.in-Some.it.now (sym c.in-Some.ensures) id c.args.op.now _
    (ap (λ n. n + 1) (c.count_pulls-pulls.ensures ∙ ap (λ q. first_pulls g.S.Placed.place_of c.args.parts.now q c.in-Some.it.now) c.place-place.ensures))

pub returns-clause-bound : goal.returns-clause-bound
returns-clause-bound g c =
    let few = pulls_few g.S.Spec.object g.S.Placed.place_of g.S.Placed.SameAt g.met.S.Spec.lawful g.met.S.Placed.placed c.args.parts.now c.requires.keeps c.args.tx.now c.in-Some.it.now (sym c.in-Some.ensures) c.place-place.result in
    let is = c.count_pulls-pulls.ensures in
    omega (arith, few, is)
