use Rattle.std.proofs.Common.{◌≡◌, ℕ, ◌+◌, ◌≤◌, ◌∙◌, None, Some, ap, length, map, refl, subst, sym, arith}
use Rattle.std.specs.Map.{lookup, set_value}
use Rattle.std.specs.Str.{bytes_eq}
use Rattle.pp_model.specs.Config.{shared_item}
use Rattle.pp_log.specs.Leaving.{MayLeave, without_items}
use Rattle.pp_summary.specs.Brief.{own_list}
use Rattle.pp_summary.specs.Shown.{Kept, as_held, shown, shown_tx}
use Rattle.pp_summary.specs.declared.undo.Undoing.TheVariants as ways
use Rattle.pp_summary.proofs.HeldOf.{apart_of, may_leave}
use Rattle.pp_summary.proofs.Judging.{slot_stays, some_there}
use Rattle.pp_summary.proofs.Moving.{aborted_moves, fine_of, open_there, retried_moves}
use Rattle.pp_summary.proofs.Undoing.{moves_from, not_undone, undo_most, undoes}
use Rattle.pp_summary.proofs.undo.undo_parts.Goals as goal
use Rattle.pp_summary.proofs.undo.undo_parts.Goals.{in-Abort, in-Retry}

pub returns-in_default-clause-answers : goal.returns-in_default-clause-answers
returns-in_default-clause-answers g c =
    let apart = apart_of g.S.Spec.object g.S.Placed.place_of g.S.Placed.SameAt g.met.S.Placed.placed in
    let now : Kept g.row.S-Shape.Denot g.row.S-Op.Denot = c.args.parts in (
      (λ k. not_undone g.S.Spec.object g.S.Placed.place_of apart c.args.parts c.requires.keeps c.args.tx.now c.args.how (sym c.take_out.ensures.found ∙ c.in_default.is) k),
      ap (λ z. record now { slots = z }) c.in_default.ensures.same,
    )

pub take_back-requires : goal.take_back-requires
take_back-requires g c =
    let apart = apart_of g.S.Spec.object g.S.Placed.place_of g.S.Placed.SameAt g.met.S.Placed.placed in
    let found = sym c.in-Some.ensures.found in
    subst (λ l. MayLeave g.S.Spec.object l (map shared_item c.args.parts.shared.1)) (sym c.as_slice.ensures)
    (may_leave g.S.Spec.object g.S.Placed.place_of apart (as_held g.S.Placed.place_of c.args.parts) c.requires.keeps.is_held c.args.tx.now
    (shown_tx g.S.Placed.place_of c.args.parts.shared.1 c.args.parts.commits.items c.args.tx.now c.in-Some.it)
    (open_there g.S.Spec.object g.S.Placed.place_of apart c.args.parts c.requires.keeps c.args.tx.now c.in-Some.it found) g.met.S.Spec.lawful)

pub returns-in_err-shared-clause-bound : goal.returns-in_err-shared-clause-bound
returns-in_err-shared-clause-bound g c =
    let apart = apart_of g.S.Spec.object g.S.Placed.place_of g.S.Placed.SameAt g.met.S.Placed.placed in
    let found = sym c.in-Some.ensures.found in
    let own = ap own_list (open_there g.S.Spec.object g.S.Placed.place_of apart c.args.parts c.requires.keeps c.args.tx.now c.in-Some.it found) in
    subst (λ l. c.take_back.new.ticks ≤ c.args.ticks.now + length l) (c.as_slice.ensures ∙ sym own) c.take_back.ensures.bound

pub begin_again-requires : goal.begin_again-requires
begin_again-requires g c =
    let apart = apart_of g.S.Spec.object g.S.Placed.place_of g.S.Placed.SameAt g.met.S.Placed.placed in
    let found = sym c.in-Some.ensures.found in
    (fine_of g.S.Spec.object g.S.Placed.place_of apart c.args.parts c.requires.keeps c.args.tx.now c.in-Some.it found).taken

pub put_back-requires : goal.put_back-requires
put_back-requires g c =
    some_there _ None
    (ap (lookup (bytes_eq c.args.tx.now)) c.in-Some.ensures.emptied ∙ slot_stays c.args.tx.now c.args.parts.slots.entries c.in-Some.it None (sym c.in-Some.ensures.found))

pub returns-clause-bound : goal.returns-clause-bound
returns-clause-bound g c =
    let apart = apart_of g.S.Spec.object g.S.Placed.place_of g.S.Placed.SameAt g.met.S.Placed.placed in
    let found = sym c.in-Some.ensures.found in
    let own = ap own_list (open_there g.S.Spec.object g.S.Placed.place_of apart c.args.parts c.requires.keeps c.args.tx.now c.in-Some.it found) in
    subst (λ l. c.take_back.new.ticks ≤ c.args.ticks.now + length l) (c.as_slice.ensures ∙ sym own) c.take_back.ensures.bound

pub returns-clause-cost : goal.returns-clause-cost
returns-clause-cost g c =
    let apart = apart_of g.S.Spec.object g.S.Placed.place_of g.S.Placed.SameAt g.met.S.Placed.placed in
    let found = sym c.in-Some.ensures.found in
    let own = ap own_list (open_there g.S.Spec.object g.S.Placed.place_of apart c.args.parts c.requires.keeps c.args.tx.now c.in-Some.it found) in
    subst (λ (n : ℕ). c.take_back.new.ticks ≡ c.args.ticks.now + n) (sym (undo_most (shown g.S.Placed.place_of c.args.parts) c.args.how c.args.tx.now))
    (subst (λ l. c.take_back.new.ticks ≡ c.args.ticks.now + length l) (c.as_slice.ensures ∙ sym own) c.in_ok-shared.ensures.cost)

pub overflow_add-parts : goal.overflow_add-parts
overflow_add-parts g c =
    let counted : c.match-how.parts.count ≡ c.args.parts.count =
    elim c.match-how.branch [ in-Abort w ↦ ap (λ p. p.count) w.parts-is | in-Retry w ↦ ap (λ p. p.count) w.parts-is ] in
    omega (arith, counted, c.requires.few)

pub returns-clause-answers : goal.returns-clause-answers
returns-clause-answers g c =
    let apart = apart_of g.S.Spec.object g.S.Placed.place_of g.S.Placed.SameAt g.met.S.Placed.placed in
    let found = sym c.in-Some.ensures.found in
    let log = c.in_ok-shared.ensures.log ∙ ap (λ l. (c.args.parts.shared.0, without_items shared_item l c.args.parts.shared.1)) c.as_slice.ensures in (
      undoes g.S.Spec.object g.S.Placed.place_of apart c.args.parts c.requires.keeps c.args.tx.now c.args.how c.in-Some.it found,
      elim c.match-how.branch [
        | in-Abort w ↦
            let good = undoes g.S.Spec.object g.S.Placed.place_of apart c.args.parts c.requires.keeps c.args.tx.now ways.Abort c.in-Some.it found in
            moves_from g.S.Spec.object g.S.Placed.place_of apart c.args.parts c.requires.keeps c.args.tx.now c.args.how ways.Abort c.match-how.parts _ w.in-Abort.is w.parts-is
            (aborted_moves g.S.Spec.object g.S.Placed.place_of apart c.args.parts c.requires.keeps c.args.tx.now c.in-Some.it found _ log good c.in-Some.ensures.emptied w.swap_remove.ensures.updates.0 refl refl refl refl refl)
        | in-Retry w ↦
            let good = undoes g.S.Spec.object g.S.Placed.place_of apart c.args.parts c.requires.keeps c.args.tx.now ways.Retry c.in-Some.it found in
            let filled = w.put_back.ensures ∙ ap (λ z. set_value (bytes_eq c.args.tx.now) z (Some w.begin_again.result)) c.in-Some.ensures.emptied in
            moves_from g.S.Spec.object g.S.Placed.place_of apart c.args.parts c.requires.keeps c.args.tx.now c.args.how ways.Retry c.match-how.parts _ w.in-Retry.is w.parts-is
            (retried_moves g.S.Spec.object g.S.Placed.place_of apart c.args.parts c.requires.keeps c.args.tx.now c.in-Some.it found _ log good w.begin_again.result filled
            w.begin_again.ensures.thread w.begin_again.ensures.body w.begin_again.ensures.taken w.begin_again.ensures.own w.begin_again.ensures.seen refl refl refl refl refl refl)
      ],
    )
