use Rattle.std.proofs.Common.{◌∙◌, ◌+◌, ap, arith, nat_eq, sym}
use Rattle.std.specs.Map.{lookup}
use Rattle.pp_summary.specs.Shown.{at, count_behind}
use Rattle.pp_summary.proofs.HeldOf.{apart_of}
use Rattle.pp_summary.proofs.Moving.{fine_of}
use Rattle.pp_summary.proofs.StepCounts.{op_alone, op_steps, unseen_few}
use Rattle.pp_summary.proofs.steps.op_steps.Goals as goal

pub returns-in_default-clause-count : goal.returns-in_default-clause-count
returns-in_default-clause-count g c = λ id.
    let apart = apart_of g.S.Spec.object g.S.Placed.place_of g.S.Placed.SameAt g.met.S.Placed.placed in
    op_alone g.S.Spec.object g.S.Placed.place_of apart c.args.parts.now c.requires.keeps c.args.tx.now (sym c.in_default.ensures) id c.args.op.now

pub count_unseen-unseen-requires : goal.count_unseen-unseen-requires
count_unseen-unseen-requires g c =
    let apart = apart_of g.S.Spec.object g.S.Placed.place_of g.S.Placed.SameAt g.met.S.Placed.placed in
    record { within = (fine_of g.S.Spec.object g.S.Placed.place_of apart c.args.parts.now c.requires.keeps c.args.tx.now c.in-Some.it.now (sym c.in-Some.ensures)).within c.place-place.result }

pub overflow_add-result : goal.overflow_add-result
overflow_add-result g c =
    let apart = apart_of g.S.Spec.object g.S.Placed.place_of g.S.Placed.SameAt g.met.S.Placed.placed in
    let few = unseen_few g.S.Spec.object g.S.Placed.place_of apart c.args.parts.now c.requires.keeps c.place-place.result (lookup (nat_eq c.place-place.result) c.in-Some.it.now.seen.entries) in
    let is = c.count_unseen-unseen.ensures in
    omega arith

pub returns-clause-count : goal.returns-clause-count
returns-clause-count g c = λ id.
    let apart = apart_of g.S.Spec.object g.S.Placed.place_of g.S.Placed.SameAt g.met.S.Placed.placed in
    op_steps g.S.Spec.object g.S.Placed.place_of apart c.args.parts.now c.requires.keeps c.args.tx.now c.in-Some.it.now (sym c.in-Some.ensures) id c.args.op.now _
    (ap (λ n. n + 2) (c.count_unseen-unseen.ensures ∙ ap (λ q. count_behind (lookup (nat_eq q) c.in-Some.it.now.seen.entries) (at q c.args.parts.now.commits.items)) c.place-place.ensures))

pub returns-clause-bound : goal.returns-clause-bound
returns-clause-bound g c =
    let apart = apart_of g.S.Spec.object g.S.Placed.place_of g.S.Placed.SameAt g.met.S.Placed.placed in
    let few = unseen_few g.S.Spec.object g.S.Placed.place_of apart c.args.parts.now c.requires.keeps c.place-place.result (lookup (nat_eq c.place-place.result) c.in-Some.it.now.seen.entries) in
    let is = c.count_unseen-unseen.ensures in
    omega arith
