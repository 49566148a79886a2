use Rattle.std.proofs.Common.{◌∙◌, Some, ap, refl, subst, sym}
use Rattle.std.specs.Str.{bytes_eq}
use Rattle.pp_body.specs.Walks.{TellsBegins}
use Rattle.pp_summary.specs.Brief.{BriefGoodOp}
use Rattle.pp_summary.specs.Shown.{Kept, in_slot, shown}
use Rattle.pp_kind.specs.Object.{rules_of}
use Rattle.pp_summary.proofs.HeldOf.{apart_of}
use Rattle.pp_summary.proofs.Judging.{blocked, good, have_entries, illegal, is_new, may_take, not_open, own_ids, stopped, unbegun, unused, used}
use Rattle.pp_summary.proofs.Moving.{grown_moves}
use Rattle.pp_summary.proofs.Lent.{given_back}
use Rattle.pp_summary.proofs.op.do_op.Goals as goal

pub returns-in_default-clause-answers : goal.returns-in_default-clause-answers
returns-in_default-clause-answers g c =
    let apart = apart_of g.S.Spec.object g.S.Placed.place_of g.S.Placed.SameAt g.met.S.Placed.placed in
    let now : Kept g.row.S-Shape.Denot g.row.S-Op.Denot = c.args.parts.now in (
      (λ k. not_open g.S.Spec.object g.S.Placed.place_of apart c.args.parts.now c.requires.keeps c.args.tx.now (BriefGoodOp (rules_of g.S.Spec.object c.args.parts.now.shape) g.S.Placed.place_of (shown g.S.Placed.place_of c.args.parts.now) c.args.id c.args.op.now) (sym (ap in_slot c.in_default.ensures.value)) k),
      ap (λ z. record now { slots = z }) c.get_mut.follows.holds-at-none,
    )

pub returns-in_default-as_mut-clause-answers : goal.returns-in_default-as_mut-clause-answers
returns-in_default-as_mut-clause-answers g c =
    let apart = apart_of g.S.Spec.object g.S.Placed.place_of g.S.Placed.SameAt g.met.S.Placed.placed in
    let now : Kept g.row.S-Shape.Denot g.row.S-Op.Denot = c.args.parts.now in (
      (λ k. not_open g.S.Spec.object g.S.Placed.place_of apart c.args.parts.now c.requires.keeps c.args.tx.now (BriefGoodOp (rules_of g.S.Spec.object c.args.parts.now.shape) g.S.Placed.place_of (shown g.S.Placed.place_of c.args.parts.now) c.args.id c.args.op.now) (sym (ap in_slot c.in-Some.ensures.value) ∙ sym c.in_default-as_mut.ensures.value) k),
      ap (λ z. record now { slots = z }) (given_back _ (bytes_eq c.args.tx.now) c.args.parts.now.slots _ c.in-Some.slot.now (sym c.in-Some.ensures.value) (c.get_mut.follows.holds c.in-Some.slot.now)),
    )

pub returns-then-contains-clause-answers : goal.returns-then-contains-clause-answers
returns-then-contains-clause-answers g c =
    let apart = apart_of g.S.Spec.object g.S.Placed.place_of g.S.Placed.SameAt g.met.S.Placed.placed in
    let now : Kept g.row.S-Shape.Denot g.row.S-Op.Denot = c.args.parts.now in
    let found = sym (ap in_slot c.in-Some.ensures.value) ∙ sym c.in-Some-as_mut.ensures.value in
    let there = sym c.in-Some.ensures.value ∙ ap (λ s. Some s) (sym c.in-Some-as_mut.ensures.value) in
    ((λ k. used g.S.Spec.object g.S.Placed.place_of apart c.args.parts.now c.requires.keeps c.args.tx.now c.in-Some-as_mut.it.now found c.args.id c.args.op.now (sym c.contains.ensures ∙ c.if-contains.true) k), ap (λ z. record now { slots = z }) (given_back _ (bytes_eq c.args.tx.now) c.args.parts.now.slots _ (Some c.in-Some-as_mut.it.now) there (c.get_mut.follows.holds (Some c.in-Some-as_mut.it.now))))

pub returns-then-not-can-clause-answers : goal.returns-then-not-can-clause-answers
returns-then-not-can-clause-answers g c =
    let apart = apart_of g.S.Spec.object g.S.Placed.place_of g.S.Placed.SameAt g.met.S.Placed.placed in
    let now : Kept g.row.S-Shape.Denot g.row.S-Op.Denot = c.args.parts.now in
    let found = sym (ap in_slot c.in-Some.ensures.value) ∙ sym c.in-Some-as_mut.ensures.value in
    let there = sym c.in-Some.ensures.value ∙ ap (λ s. Some s) (sym c.in-Some-as_mut.ensures.value) in
    ((λ k. unbegun g.S.Spec.object g.S.Placed.place_of apart c.args.parts.now c.requires.keeps c.args.tx.now c.in-Some-as_mut.it.now found c.args.id c.args.op.now c.can.result (subst (λ z. TellsBegins c.in-Some-as_mut.it.now.walk z c.can.result) c.call.ensures c.can.ensures) c.if-not-can.true k), ap (λ z. record now { slots = z }) (given_back _ (bytes_eq c.args.tx.now) c.args.parts.now.slots _ (Some c.in-Some-as_mut.it.now) there (c.get_mut.follows.holds (Some c.in-Some-as_mut.it.now))))

pub swaps_with_unseen-requires-clause-ids : goal.swaps_with_unseen-requires-clause-ids
swaps_with_unseen-requires-clause-ids g c =
    let apart = apart_of g.S.Spec.object g.S.Placed.place_of g.S.Placed.SameAt g.met.S.Placed.placed in
    own_ids g.S.Spec.object g.S.Placed.place_of apart c.args.parts.now c.requires.keeps

pub swaps_with_unseen-requires-clause-entries : goal.swaps_with_unseen-requires-clause-entries
swaps_with_unseen-requires-clause-entries g c =
    let apart = apart_of g.S.Spec.object g.S.Placed.place_of g.S.Placed.SameAt g.met.S.Placed.placed in
    have_entries g.S.Spec.object g.S.Placed.place_of apart c.args.parts.now c.requires.keeps

pub returns-then-not-swaps_with_unseen-clause-answers : goal.returns-then-not-swaps_with_unseen-clause-answers
returns-then-not-swaps_with_unseen-clause-answers g c =
    let apart = apart_of g.S.Spec.object g.S.Placed.place_of g.S.Placed.SameAt g.met.S.Placed.placed in
    let now : Kept g.row.S-Shape.Denot g.row.S-Op.Denot = c.args.parts.now in
    let found = sym (ap in_slot c.in-Some.ensures.value) ∙ sym c.in-Some-as_mut.ensures.value in
    let there = sym c.in-Some.ensures.value ∙ ap (λ s. Some s) (sym c.in-Some-as_mut.ensures.value) in
    ((λ k. stopped g.S.Spec.object g.S.Placed.place_of apart c.args.parts.now c.requires.keeps c.args.tx.now c.in-Some-as_mut.it.now found c.args.id c.args.op.now g.met.S.Spec.lawful (c.swaps_with_unseen.ensures.no c.if-not-swaps_with_unseen.true) k), ap (λ z. record now { slots = z }) (given_back _ (bytes_eq c.args.tx.now) c.args.parts.now.slots _ (Some c.in-Some-as_mut.it.now) there (c.get_mut.follows.holds (Some c.in-Some-as_mut.it.now))))

pub returns-in-Some-blocking-clause-answers : goal.returns-in-Some-blocking-clause-answers
returns-in-Some-blocking-clause-answers g c =
    let apart = apart_of g.S.Spec.object g.S.Placed.place_of g.S.Placed.SameAt g.met.S.Placed.placed in
    let now : Kept g.row.S-Shape.Denot g.row.S-Op.Denot = c.args.parts.now in
    let found = sym (ap in_slot c.in-Some.ensures.value) ∙ sym c.in-Some-as_mut.ensures.value in
    let there = sym c.in-Some.ensures.value ∙ ap (λ s. Some s) (sym c.in-Some-as_mut.ensures.value) in
    ((λ k. blocked g.S.Spec.object g.S.Placed.place_of apart c.args.parts.now c.requires.keeps c.args.tx.now c.in-Some-as_mut.it.now found c.args.id c.args.op.now g.met.S.Spec.lawful c.requires.asked.0 c.in-Some-blocking.field-0 c.in-Some-blocking.ensures.some k), ap (λ z. record now { slots = z }) (given_back _ (bytes_eq c.args.tx.now) c.args.parts.now.slots _ (Some c.in-Some-as_mut.it.now) there (c.get_mut.follows.holds (Some c.in-Some-as_mut.it.now))))

pub returns-then-not-legal-clause-answers : goal.returns-then-not-legal-clause-answers
returns-then-not-legal-clause-answers g c =
    let apart = apart_of g.S.Spec.object g.S.Placed.place_of g.S.Placed.SameAt g.met.S.Placed.placed in
    let now : Kept g.row.S-Shape.Denot g.row.S-Op.Denot = c.args.parts.now in
    let found = sym (ap in_slot c.in-Some.ensures.value) ∙ sym c.in-Some-as_mut.ensures.value in
    let there = sym c.in-Some.ensures.value ∙ ap (λ s. Some s) (sym c.in-Some-as_mut.ensures.value) in
    ((λ k. illegal g.S.Spec.object g.S.Placed.place_of apart c.args.parts.now c.requires.keeps c.args.tx.now c.in-Some-as_mut.it.now found c.args.id c.args.op.now c.legal.result c.legal.ensures c.if-not-legal.true k), ap (λ z. record now { slots = z }) (given_back _ (bytes_eq c.args.tx.now) c.args.parts.now.slots _ (Some c.in-Some-as_mut.it.now) there (c.get_mut.follows.holds (Some c.in-Some-as_mut.it.now))))

pub push-requires-clause-new : goal.push-requires-clause-new
push-requires-clause-new g c =
    let apart = apart_of g.S.Spec.object g.S.Placed.place_of g.S.Placed.SameAt g.met.S.Placed.placed in
    let found = sym (ap in_slot c.in-Some.ensures.value) ∙ sym c.in-Some-as_mut.ensures.value in
    let is_good = good g.S.Spec.object g.S.Placed.place_of apart c.args.parts.now c.requires.keeps c.args.tx.now c.in-Some-as_mut.it.now found c.args.id c.args.op.now (sym c.contains.ensures ∙ c.if-contains.false) c.can.result
    (subst (λ z. TellsBegins c.in-Some-as_mut.it.now.walk z c.can.result) c.call.ensures c.can.ensures) c.if-not-can.false (c.swaps_with_unseen.ensures.yes c.if-not-swaps_with_unseen.false) c.in_default-blocking.ensures.none (c.legal.ensures.0 c.if-not-legal.false) in
    is_new g.S.Spec.object g.S.Placed.place_of apart c.args.parts.now c.requires.keeps c.args.tx.now c.in-Some-as_mut.it.now found c.args.id c.args.op.now is_good

pub insert-requires : goal.insert-requires
insert-requires g c =
    let apart = apart_of g.S.Spec.object g.S.Placed.place_of g.S.Placed.SameAt g.met.S.Placed.placed in
    let found = sym (ap in_slot c.in-Some.ensures.value) ∙ sym c.in-Some-as_mut.ensures.value in
    let is_good = good g.S.Spec.object g.S.Placed.place_of apart c.args.parts.now c.requires.keeps c.args.tx.now c.in-Some-as_mut.it.now found c.args.id c.args.op.now (sym c.contains.ensures ∙ c.if-contains.false) c.can.result
    (subst (λ z. TellsBegins c.in-Some-as_mut.it.now.walk z c.can.result) c.call.ensures c.can.ensures) c.if-not-can.false (c.swaps_with_unseen.ensures.yes c.if-not-swaps_with_unseen.false) c.in_default-blocking.ensures.none (c.legal.ensures.0 c.if-not-legal.false) in
    unused g.S.Spec.object g.S.Placed.place_of apart c.args.parts.now c.requires.keeps c.args.tx.now c.in-Some-as_mut.it.now found c.args.id c.args.op.now is_good

pub add_operation-requires : goal.add_operation-requires
add_operation-requires g c =
    let apart = apart_of g.S.Spec.object g.S.Placed.place_of g.S.Placed.SameAt g.met.S.Placed.placed in
    let found = sym (ap in_slot c.in-Some.ensures.value) ∙ sym c.in-Some-as_mut.ensures.value in
    let is_good = good g.S.Spec.object g.S.Placed.place_of apart c.args.parts.now c.requires.keeps c.args.tx.now c.in-Some-as_mut.it.now found c.args.id c.args.op.now (sym c.contains.ensures ∙ c.if-contains.false) c.can.result
    (subst (λ z. TellsBegins c.in-Some-as_mut.it.now.walk z c.can.result) c.call.ensures c.can.ensures) c.if-not-can.false (c.swaps_with_unseen.ensures.yes c.if-not-swaps_with_unseen.false) c.in_default-blocking.ensures.none (c.legal.ensures.0 c.if-not-legal.false) in
    may_take g.S.Spec.object g.S.Placed.place_of apart c.args.parts.now c.requires.keeps c.args.tx.now c.in-Some-as_mut.it.now found c.args.id c.args.op.now is_good

pub returns-clause-answers : goal.returns-clause-answers
returns-clause-answers g c =
    let apart = apart_of g.S.Spec.object g.S.Placed.place_of g.S.Placed.SameAt g.met.S.Placed.placed in
    let found = sym (ap in_slot c.in-Some.ensures.value) ∙ sym c.in-Some-as_mut.ensures.value in
    let is_good = good g.S.Spec.object g.S.Placed.place_of apart c.args.parts.now c.requires.keeps c.args.tx.now c.in-Some-as_mut.it.now found c.args.id c.args.op.now (sym c.contains.ensures ∙ c.if-contains.false) c.can.result
    (subst (λ z. TellsBegins c.in-Some-as_mut.it.now.walk z c.can.result) c.call.ensures c.can.ensures) c.if-not-can.false (c.swaps_with_unseen.ensures.yes c.if-not-swaps_with_unseen.false) c.in_default-blocking.ensures.none (c.legal.ensures.0 c.if-not-legal.false) in (
      is_good,
      grown_moves g.S.Spec.object g.S.Placed.place_of apart c.args.parts.now c.requires.keeps c.args.tx.now c.args.id c.args.op.now c.in-Some-as_mut.it.now c.add_operation.new.it _ is_good c.requires.asked.1 found c.in_ok-add_operation.ensures
          (c.get_mut.follows.holds (Some c.add_operation.new.it)).0 refl c.in_ok-push.ensures.ok c.in_ok-insert.ensures.ok refl refl refl refl,
    )
