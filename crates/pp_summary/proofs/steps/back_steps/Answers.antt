use Rattle.std.proofs.Common.{◌∙◌, ◌+◌, ◌*◌, ◌≡◌, ap, arith, length, sym}
use Rattle.pp_summary.specs.Seen.{seen_total}
use Rattle.pp_summary.proofs.HeldOf.{apart_of}
use Rattle.pp_summary.proofs.StepCounts.{abort_alone, abort_steps, own_few, retry_alone, retry_steps, seen_few}
use Rattle.pp_summary.proofs.steps.back_steps.Goals as goal

pub returns-in_default-clause-abort : goal.returns-in_default-clause-abort
returns-in_default-clause-abort g c =
    let apart = apart_of g.S.Spec.object g.S.Placed.place_of g.S.Placed.SameAt g.met.S.Placed.placed in
    abort_alone g.S.Spec.object g.S.Placed.place_of apart c.args.parts.now c.requires.keeps c.args.tx.now (sym c.in_default.ensures)

pub returns-in_default-clause-retry : goal.returns-in_default-clause-retry
returns-in_default-clause-retry g c =
    let apart = apart_of g.S.Spec.object g.S.Placed.place_of g.S.Placed.SameAt g.met.S.Placed.placed in
    retry_alone g.S.Spec.object g.S.Placed.place_of apart c.args.parts.now c.requires.keeps c.args.tx.now (sym c.in_default.ensures)

pub total-seen-requires : goal.total-seen-requires
total-seen-requires g c =
    let apart = apart_of g.S.Spec.object g.S.Placed.place_of g.S.Placed.SameAt g.met.S.Placed.placed in
    let seen = seen_few g.S.Spec.object g.S.Placed.place_of apart c.args.parts.now c.requires.keeps c.args.tx.now c.in-Some.it.now (sym c.in-Some.ensures) c.own_places.ensures in
    record { few = omega arith }

pub overflow_add-result : goal.overflow_add-result
overflow_add-result g c =
    let apart = apart_of g.S.Spec.object g.S.Placed.place_of g.S.Placed.SameAt g.met.S.Placed.placed in
    let seen = seen_few g.S.Spec.object g.S.Placed.place_of apart c.args.parts.now c.requires.keeps c.args.tx.now c.in-Some.it.now (sym c.in-Some.ensures) c.own_places.ensures in
    let own = own_few g.S.Spec.object g.S.Placed.place_of apart c.args.parts.now c.requires.keeps c.args.tx.now c.in-Some.it.now (sym c.in-Some.ensures) in
    let total = c.total-seen.ensures in
    let length_is : length c.as_slice-own.result.now ≡ length c.in-Some.it.now.own = ap (λ l. length l) c.as_slice-own.ensures in
    omega arith

pub overflow_add-result-2 : goal.overflow_add-result-2
overflow_add-result-2 g c =
    let apart = apart_of g.S.Spec.object g.S.Placed.place_of g.S.Placed.SameAt g.met.S.Placed.placed in
    let seen = seen_few g.S.Spec.object g.S.Placed.place_of apart c.args.parts.now c.requires.keeps c.args.tx.now c.in-Some.it.now (sym c.in-Some.ensures) c.own_places.ensures in
    let own = own_few g.S.Spec.object g.S.Placed.place_of apart c.args.parts.now c.requires.keeps c.args.tx.now c.in-Some.it.now (sym c.in-Some.ensures) in
    let total = c.total-seen.ensures in
    let length_is : length c.as_slice-own.result.now ≡ length c.in-Some.it.now.own = ap (λ l. length l) c.as_slice-own.ensures in
    omega arith

pub returns-clause-abort : goal.returns-clause-abort
returns-clause-abort g c =
    let apart = apart_of g.S.Spec.object g.S.Placed.place_of g.S.Placed.SameAt g.met.S.Placed.placed in
    abort_steps g.S.Spec.object g.S.Placed.place_of apart c.args.parts.now c.requires.keeps c.args.tx.now c.in-Some.it.now (sym c.in-Some.ensures) c.own_places.ensures _
    (ap (λ n. n + 2 * length c.as_slice-own.result.now + 1) c.total-seen.ensures ∙ ap (λ l. seen_total c.in-Some.it.now.seen.entries + 2 * length l + 1) c.as_slice-own.ensures)

pub returns-clause-retry : goal.returns-clause-retry
returns-clause-retry g c =
    let apart = apart_of g.S.Spec.object g.S.Placed.place_of g.S.Placed.SameAt g.met.S.Placed.placed in
    retry_steps g.S.Spec.object g.S.Placed.place_of apart c.args.parts.now c.requires.keeps c.args.tx.now c.in-Some.it.now (sym c.in-Some.ensures) c.own_places.ensures _
    (ap (λ n. n + 2 * length c.as_slice-own.result.now + 1) c.total-seen.ensures ∙ ap (λ l. seen_total c.in-Some.it.now.seen.entries + 2 * length l + 1) c.as_slice-own.ensures)

pub returns-clause-bound : goal.returns-clause-bound
returns-clause-bound g c =
    let apart = apart_of g.S.Spec.object g.S.Placed.place_of g.S.Placed.SameAt g.met.S.Placed.placed in
    let seen = seen_few g.S.Spec.object g.S.Placed.place_of apart c.args.parts.now c.requires.keeps c.args.tx.now c.in-Some.it.now (sym c.in-Some.ensures) c.own_places.ensures in
    let own = own_few g.S.Spec.object g.S.Placed.place_of apart c.args.parts.now c.requires.keeps c.args.tx.now c.in-Some.it.now (sym c.in-Some.ensures) in
    let total = c.total-seen.ensures in
    let length_is : length c.as_slice-own.result.now ≡ length c.in-Some.it.now.own = ap (λ l. length l) c.as_slice-own.ensures in
    omega arith
