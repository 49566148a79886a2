use Rattle.std.proofs.Common.{◌∙◌, ◌+◌, ap, arith, length, sym}
use Rattle.pp_laws_summary.specs.Counts.{back_count}
use Rattle.pp_summary.specs.Seen.{seen_total}
use Rattle.pp_snapshots.specs.Shown.{shown}
use Rattle.pp_snapshots.proofs.Moving.{own_within}
use Rattle.pp_snapshots.proofs.StepCounts.{abort_counts, alone_count, retry_counts, seen_few}
use Rattle.pp_snapshots.proofs.steps.back_steps.Goals as goal

pub returns-in_default-clause-abort : goal.returns-in_default-clause-abort
returns-in_default-clause-abort g c = λ ks.
    alone_count g.S.Spec.object g.S.Placed.place_of g.S.Placed.SameAt g.met.S.Spec.lawful g.met.S.Placed.placed c.args.parts.now c.requires.keeps c.args.tx.now (sym c.in_default.ensures) (λ y. back_count g.S.Placed.place_of (shown ks c.args.parts.now) y + 1)

pub returns-in_default-clause-retry : goal.returns-in_default-clause-retry
returns-in_default-clause-retry g c = λ ks.
    alone_count g.S.Spec.object g.S.Placed.place_of g.S.Placed.SameAt g.met.S.Spec.lawful g.met.S.Placed.placed c.args.parts.now c.requires.keeps c.args.tx.now (sym c.in_default.ensures) (λ y. back_count g.S.Placed.place_of (shown ks c.args.parts.now) y + 1)

pub total-seen-requires : goal.total-seen-requires
total-seen-requires g c =
    let seen = seen_few g.S.Spec.object g.S.Placed.place_of g.S.Placed.SameAt g.met.S.Spec.lawful g.met.S.Placed.placed c.args.parts.now c.requires.keeps c.args.tx.now c.in-Some.it.now (sym c.in-Some.ensures) c.own_places.ensures in
    let few = c.requires.keeps.few in
    let count = c.requires.few in
    record { few = omega (arith, seen, few, count) }

pub overflow_add-result : goal.overflow_add-result
overflow_add-result g c =
    let seen = seen_few g.S.Spec.object g.S.Placed.place_of g.S.Placed.SameAt g.met.S.Spec.lawful g.met.S.Placed.placed c.args.parts.now c.requires.keeps c.args.tx.now c.in-Some.it.now (sym c.in-Some.ensures) c.own_places.ensures in
    let own = own_within g.S.Spec.object g.S.Placed.place_of g.S.Placed.SameAt g.met.S.Spec.lawful g.met.S.Placed.placed c.args.parts.now c.requires.keeps c.args.tx.now c.in-Some.it.now (sym c.in-Some.ensures) in
    let few = c.requires.keeps.few in
    let count = c.requires.few in
    let total = c.total-seen.ensures in
    let is = ap (λ l. length l) c.as_slice-own.ensures in
    omega (arith, seen, own, few, count, total, is)

pub overflow_add-result-2 : goal.overflow_add-result-2
overflow_add-result-2 g c =
    let seen = seen_few g.S.Spec.object g.S.Placed.place_of g.S.Placed.SameAt g.met.S.Spec.lawful g.met.S.Placed.placed c.args.parts.now c.requires.keeps c.args.tx.now c.in-Some.it.now (sym c.in-Some.ensures) c.own_places.ensures in
    let own = own_within g.S.Spec.object g.S.Placed.place_of g.S.Placed.SameAt g.met.S.Spec.lawful g.met.S.Placed.placed c.args.parts.now c.requires.keeps c.args.tx.now c.in-Some.it.now (sym c.in-Some.ensures) in
    let few = c.requires.keeps.few in
    let count = c.requires.few in
    let total = c.total-seen.ensures in
    let is = ap (λ l. length l) c.as_slice-own.ensures in
    omega (arith, seen, own, few, count, total, is)

pub returns-clause-abort : goal.returns-clause-abort
returns-clause-abort g c =
    abort_counts g.S.Spec.object g.S.Placed.place_of g.S.Placed.SameAt g.met.S.Spec.lawful g.met.S.Placed.placed c.args.parts.now c.requires.keeps c.args.tx.now c.in-Some.it.now (sym c.in-Some.ensures) c.own_places.ensures _
    (ap (λ n. n + length c.as_slice-own.result.now + 1) c.total-seen.ensures ∙ ap (λ l. seen_total c.in-Some.it.now.seen.entries + length l + 1) c.as_slice-own.ensures)

pub returns-clause-retry : goal.returns-clause-retry
returns-clause-retry g c =
    retry_counts g.S.Spec.object g.S.Placed.place_of g.S.Placed.SameAt g.met.S.Spec.lawful g.met.S.Placed.placed c.args.parts.now c.requires.keeps c.args.tx.now c.in-Some.it.now (sym c.in-Some.ensures) c.own_places.ensures _
    (ap (λ n. n + length c.as_slice-own.result.now + 1) c.total-seen.ensures ∙ ap (λ l. seen_total c.in-Some.it.now.seen.entries + length l + 1) c.as_slice-own.ensures)

pub returns-clause-bound : goal.returns-clause-bound
returns-clause-bound g c =
    let seen = seen_few g.S.Spec.object g.S.Placed.place_of g.S.Placed.SameAt g.met.S.Spec.lawful g.met.S.Placed.placed c.args.parts.now c.requires.keeps c.args.tx.now c.in-Some.it.now (sym c.in-Some.ensures) c.own_places.ensures in
    let own = own_within g.S.Spec.object g.S.Placed.place_of g.S.Placed.SameAt g.met.S.Spec.lawful g.met.S.Placed.placed c.args.parts.now c.requires.keeps c.args.tx.now c.in-Some.it.now (sym c.in-Some.ensures) in
    let few = c.requires.keeps.few in
    let count = c.requires.few in
    let total = c.total-seen.ensures in
    let is = ap (λ l. length l) c.as_slice-own.ensures in
    omega (arith, seen, own, few, count, total, is)
