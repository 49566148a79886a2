use Rattle.std.proofs.Common.{◌∙◌, ◌+◌, ◌-◌, ap, arith, length, sym}
use Rattle.pp_laws_summary.specs.Counts.{missing_count}
use Rattle.pp_snapshots.specs.Past.{made_at}
use Rattle.pp_snapshots.specs.Shown.{shown}
use Rattle.pp_snapshots.proofs.StepCounts.{alone_count, place_few, refresh_counts, saw_no_more}
use Rattle.pp_snapshots.proofs.steps.refresh_steps.Goals as goal

pub returns-in_default-clause-count : goal.returns-in_default-clause-count
returns-in_default-clause-count g c = λ ks.
    alone_count g.S.Spec.object g.S.Placed.place_of g.S.Placed.SameAt g.met.S.Spec.lawful g.met.S.Placed.placed c.args.parts.now c.requires.keeps c.args.tx.now (sym c.in_default.ensures) (λ y. missing_count g.S.Placed.place_of c.args.place (shown ks c.args.parts.now) y + 1)

pub overflow_sub-unseen : goal.overflow_sub-unseen
overflow_sub-unseen g c =
    let few = saw_no_more g.S.Spec.object g.S.Placed.place_of g.S.Placed.SameAt g.met.S.Spec.lawful g.met.S.Placed.placed c.args.parts.now c.requires.keeps c.args.tx.now c.in-Some.it.now (sym c.in-Some.ensures) c.args.place in
    let all = c.count_at-all.ensures in
    let seen = c.seen_at-seen.ensures in
    omega (arith, few, all, seen)

pub overflow_add-result : goal.overflow_add-result
overflow_add-result g c =
    let few = place_few g.S.Spec.object g.S.Placed.place_of g.S.Placed.SameAt g.met.S.Spec.lawful g.met.S.Placed.placed c.args.parts.now c.requires.keeps c.args.place in
    let all = c.count_at-all.ensures in
    let count = c.requires.few in
    omega (arith, few, all, count)

pub returns-clause-count : goal.returns-clause-count
returns-clause-count g c =
    refresh_counts g.S.Spec.object g.S.Placed.place_of g.S.Placed.SameAt g.met.S.Spec.lawful g.met.S.Placed.placed c.args.parts.now c.requires.keeps c.args.tx.now c.in-Some.it.now (sym c.in-Some.ensures) c.args.place _
    (ap (λ n. (n - c.seen_at-seen.result) + 1) c.count_at-all.ensures ∙ ap (λ n. (length (made_at c.args.place c.args.parts.now.past.places.items) - n) + 1) c.seen_at-seen.ensures)

pub returns-clause-bound : goal.returns-clause-bound
returns-clause-bound g c =
    let few = place_few g.S.Spec.object g.S.Placed.place_of g.S.Placed.SameAt g.met.S.Spec.lawful g.met.S.Placed.placed c.args.parts.now c.requires.keeps c.args.place in
    let all = c.count_at-all.ensures in
    omega (arith, few, all)
