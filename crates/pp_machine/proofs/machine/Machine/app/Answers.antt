use Rattle.std.proofs.Common.{◌∙◌, refl, sym}
use Rattle.pp_model.specs.Config.{App}
use Rattle.pp_model.proofs.Finding.{decided, decided_not}
use Rattle.pp_machine.proofs.Applying.{fits_course, holds_back, holds_more, illegal_refused, meets_app}
use Rattle.pp_machine.proofs.Applying.{new_id, seen_back, seen_more, stray_refused, takes_entry, used_refused}
use Rattle.pp_machine.proofs.Judged.{refused_cost, refused_step}
use Rattle.pp_machine.proofs.Judging.{app_1}
use Rattle.pp_machine.proofs.Lent.{lent_holds, lent_view}
use Rattle.pp_machine.proofs.Opened.{uncoursed}
use Rattle.pp_machine.proofs.machine.Machine.app.Goals as goal

pub returns-in_default-clause-effect : goal.returns-in_default-clause-effect
returns-in_default-clause-effect g c =
    refused_step g.S.Spec.object c.args.self _ (App c.args.tx.now c.args.id c.args.op.now) c.bare.result c.refused.result c.refused.ensures (app_1 g.S.Spec.object _ _ (lent_view c.deref_mut-parts.ensures.value c.self.view_is) c.args.tx.now c.args.id c.args.op.now (uncoursed g.S.Spec.object c.deref_mut-parts.result.now.shape c.deref_mut-parts.result.now.transactions c.deref_mut-parts.result.now.ids c.deref_mut-parts.result.now.shared c.deref_mut-parts.result.now.committed c.deref_mut-parts.result.now.count (lent_holds g.S.Spec.object c.deref_mut-parts.ensures.value c.self.invariant) c.args.tx.now c.in_default.ensures.course) c.bare.result c.bare.ensures) (lent_view c.deref_mut-parts.ensures.value c.self.view_is)

pub returns-in_default-clause-cost : goal.returns-in_default-clause-cost
returns-in_default-clause-cost g c =
    refused_cost g.S.Placed.place_of c.args.self (App c.args.tx.now c.args.id c.args.op.now) c.bare.result c.refused.result c.refused.ensures _ _ refl

pub invariant_of-self-then-used : goal.invariant_of-self-then-used
invariant_of-self-then-used g c =
    holds_back g.S.Spec.object c.deref_mut-parts.result.now c.args.self (lent_view c.deref_mut-parts.ensures.value c.self.view_is) (lent_holds g.S.Spec.object c.deref_mut-parts.ensures.value c.self.invariant) c.args.tx.now c.in-Some.course.now c.in-Some.ensures.course

pub returns-then-used-clause-effect : goal.returns-then-used-clause-effect
returns-then-used-clause-effect g c =
    refused_step g.S.Spec.object c.args.self _ (App c.args.tx.now c.args.id c.args.op.now) c.bare-then-used.result c.refused-then-used.result c.refused-then-used.ensures
    (used_refused g.S.Spec.object c.deref_mut-parts.result.now c.args.self (lent_view c.deref_mut-parts.ensures.value c.self.view_is) (lent_holds g.S.Spec.object c.deref_mut-parts.ensures.value c.self.invariant) c.args.tx.now c.in-Some.course.now c.in-Some.ensures.course c.args.id c.args.op.now (sym c.if-used.true ∙ c.contains-used.ensures) c.bare-then-used.result c.bare-then-used.ensures)
    (seen_back g.S.Spec.object c.deref_mut-parts.result.now c.args.self (lent_view c.deref_mut-parts.ensures.value c.self.view_is) (lent_holds g.S.Spec.object c.deref_mut-parts.ensures.value c.self.invariant) c.args.tx.now c.in-Some.course.now c.in-Some.ensures.course)

pub returns-then-used-clause-cost : goal.returns-then-used-clause-cost
returns-then-used-clause-cost g c =
    refused_cost g.S.Placed.place_of c.args.self (App c.args.tx.now c.args.id c.args.op.now) c.bare-then-used.result c.refused-then-used.result c.refused-then-used.ensures _ _ refl

pub invariant_of-self-then-not-can : goal.invariant_of-self-then-not-can
invariant_of-self-then-not-can g c =
    holds_back g.S.Spec.object c.deref_mut-parts.result.now c.args.self (lent_view c.deref_mut-parts.ensures.value c.self.view_is) (lent_holds g.S.Spec.object c.deref_mut-parts.ensures.value c.self.invariant) c.args.tx.now c.in-Some.course.now c.in-Some.ensures.course

pub returns-then-not-can-clause-effect : goal.returns-then-not-can-clause-effect
returns-then-not-can-clause-effect g c =
    refused_step g.S.Spec.object c.args.self _ (App c.args.tx.now c.args.id c.args.op.now) c.bare-then-not-can.result c.refused-then-not-can.result c.refused-then-not-can.ensures
    (stray_refused g.S.Spec.object c.deref_mut-parts.result.now c.args.self (lent_view c.deref_mut-parts.ensures.value c.self.view_is) (lent_holds g.S.Spec.object c.deref_mut-parts.ensures.value c.self.invariant) c.args.tx.now c.in-Some.course.now c.in-Some.ensures.course c.args.id c.args.op.now (sym c.if-used.false ∙ c.contains-used.ensures) (decided_not c.can.result _ c.can.ensures c.if-not-can.true) c.bare-then-not-can.result c.bare-then-not-can.ensures)
    (seen_back g.S.Spec.object c.deref_mut-parts.result.now c.args.self (lent_view c.deref_mut-parts.ensures.value c.self.view_is) (lent_holds g.S.Spec.object c.deref_mut-parts.ensures.value c.self.invariant) c.args.tx.now c.in-Some.course.now c.in-Some.ensures.course)

pub returns-then-not-can-clause-cost : goal.returns-then-not-can-clause-cost
returns-then-not-can-clause-cost g c =
    refused_cost g.S.Placed.place_of c.args.self (App c.args.tx.now c.args.id c.args.op.now) c.bare-then-not-can.result c.refused-then-not-can.result c.refused-then-not-can.ensures _ _ refl

pub legal-requires : goal.legal-requires
legal-requires g c = fits_course g.S.Spec.object c.deref_mut-parts.result.now c.args.self (lent_view c.deref_mut-parts.ensures.value c.self.view_is) (lent_holds g.S.Spec.object c.deref_mut-parts.ensures.value c.self.invariant) c.args.tx.now c.in-Some.course.now c.in-Some.ensures.course c.args.id c.args.op.now c.local-local.result.now c.local-local.ensures c.requires.fits

pub gives-answer-requires : goal.gives-answer-requires
gives-answer-requires g c = fits_course g.S.Spec.object c.deref_mut-parts.result.now c.args.self (lent_view c.deref_mut-parts.ensures.value c.self.view_is) (lent_holds g.S.Spec.object c.deref_mut-parts.ensures.value c.self.invariant) c.args.tx.now c.in-Some.course.now c.in-Some.ensures.course c.args.id c.args.op.now c.local-local.result.now c.local-local.ensures c.requires.fits

pub invariant_of-self-then-not-legal : goal.invariant_of-self-then-not-legal
invariant_of-self-then-not-legal g c =
    holds_back g.S.Spec.object c.deref_mut-parts.result.now c.args.self (lent_view c.deref_mut-parts.ensures.value c.self.view_is) (lent_holds g.S.Spec.object c.deref_mut-parts.ensures.value c.self.invariant) c.args.tx.now c.in-Some.course.now c.in-Some.ensures.course

pub returns-then-not-legal-clause-effect : goal.returns-then-not-legal-clause-effect
returns-then-not-legal-clause-effect g c =
    refused_step g.S.Spec.object c.args.self _ (App c.args.tx.now c.args.id c.args.op.now) c.told.result c.refused-then-not-legal.result c.refused-then-not-legal.ensures
    (illegal_refused g.S.Spec.object c.deref_mut-parts.result.now c.args.self (lent_view c.deref_mut-parts.ensures.value c.self.view_is) (lent_holds g.S.Spec.object c.deref_mut-parts.ensures.value c.self.invariant) c.args.tx.now c.in-Some.course.now c.in-Some.ensures.course c.args.id c.args.op.now (sym c.if-used.false ∙ c.contains-used.ensures) (decided c.can.result _ c.can.ensures c.if-not-can.false) c.local-local.result.now c.local-local.ensures (decided_not c.legal.result _ c.legal.ensures c.if-not-legal.true) c.gives-answer.result c.gives-answer.ensures c.told.result c.told.ensures)
    (seen_back g.S.Spec.object c.deref_mut-parts.result.now c.args.self (lent_view c.deref_mut-parts.ensures.value c.self.view_is) (lent_holds g.S.Spec.object c.deref_mut-parts.ensures.value c.self.invariant) c.args.tx.now c.in-Some.course.now c.in-Some.ensures.course)

pub returns-then-not-legal-clause-cost : goal.returns-then-not-legal-clause-cost
returns-then-not-legal-clause-cost g c =
    refused_cost g.S.Placed.place_of c.args.self (App c.args.tx.now c.args.id c.args.op.now) c.told.result c.refused-then-not-legal.result c.refused-then-not-legal.ensures _ _ refl

pub append-requires : goal.append-requires
append-requires g c =
    let m = meets_app g.S.Spec.object c.deref_mut-parts.result.now c.args.self (lent_view c.deref_mut-parts.ensures.value c.self.view_is) (lent_holds g.S.Spec.object c.deref_mut-parts.ensures.value c.self.invariant) c.args.tx.now c.in-Some.course.now c.in-Some.ensures.course c.args.id c.args.op.now (sym c.if-used.false ∙ c.contains-used.ensures) (decided c.can.result _ c.can.ensures c.if-not-can.false) c.local-local.result.now c.local-local.ensures (decided c.legal.result _ c.legal.ensures c.if-not-legal.false) in
    let q = takes_entry g.S.Spec.object c.deref_mut-parts.result.now c.args.self (lent_view c.deref_mut-parts.ensures.value c.self.view_is) (lent_holds g.S.Spec.object c.deref_mut-parts.ensures.value c.self.invariant) c.args.tx.now c.in-Some.course.now c.in-Some.ensures.course c.args.id c.args.op.now m c.requires.ranged c.requires.few in
    record { takes = q.0; follows = q.1 }

pub insert-requires : goal.insert-requires
insert-requires g c =
    let m = meets_app g.S.Spec.object c.deref_mut-parts.result.now c.args.self (lent_view c.deref_mut-parts.ensures.value c.self.view_is) (lent_holds g.S.Spec.object c.deref_mut-parts.ensures.value c.self.invariant) c.args.tx.now c.in-Some.course.now c.in-Some.ensures.course c.args.id c.args.op.now (sym c.if-used.false ∙ c.contains-used.ensures) (decided c.can.result _ c.can.ensures c.if-not-can.false) c.local-local.result.now c.local-local.ensures (decided c.legal.result _ c.legal.ensures c.if-not-legal.false) in
    new_id g.S.Spec.object c.deref_mut-parts.result.now c.args.self (lent_view c.deref_mut-parts.ensures.value c.self.view_is) (lent_holds g.S.Spec.object c.deref_mut-parts.ensures.value c.self.invariant) c.args.tx.now c.in-Some.course.now c.in-Some.ensures.course c.args.id c.args.op.now m

pub invariant_of-self-2 : goal.invariant_of-self-2
invariant_of-self-2 g c =
    let m = meets_app g.S.Spec.object c.deref_mut-parts.result.now c.args.self (lent_view c.deref_mut-parts.ensures.value c.self.view_is) (lent_holds g.S.Spec.object c.deref_mut-parts.ensures.value c.self.invariant) c.args.tx.now c.in-Some.course.now c.in-Some.ensures.course c.args.id c.args.op.now (sym c.if-used.false ∙ c.contains-used.ensures) (decided c.can.result _ c.can.ensures c.if-not-can.false) c.local-local.result.now c.local-local.ensures (decided c.legal.result _ c.legal.ensures c.if-not-legal.false) in
    holds_more g.S.Spec.object c.deref_mut-parts.result.now c.args.self (lent_view c.deref_mut-parts.ensures.value c.self.view_is) (lent_holds g.S.Spec.object c.deref_mut-parts.ensures.value c.self.invariant) c.args.tx.now c.in-Some.course.now c.in-Some.ensures.course c.args.id c.args.op.now m c.append.new.self c.in_ok-append.ensures.ok c.insert.new.self c.in_ok-insert.ensures.ok c.requires.ranged

pub returns-clause-effect : goal.returns-clause-effect
returns-clause-effect g c =
    let m = meets_app g.S.Spec.object c.deref_mut-parts.result.now c.args.self (lent_view c.deref_mut-parts.ensures.value c.self.view_is) (lent_holds g.S.Spec.object c.deref_mut-parts.ensures.value c.self.invariant) c.args.tx.now c.in-Some.course.now c.in-Some.ensures.course c.args.id c.args.op.now (sym c.if-used.false ∙ c.contains-used.ensures) (decided c.can.result _ c.can.ensures c.if-not-can.false) c.local-local.result.now c.local-local.ensures (decided c.legal.result _ c.legal.ensures c.if-not-legal.false) in
    (m, seen_more g.S.Spec.object c.deref_mut-parts.result.now c.args.self (lent_view c.deref_mut-parts.ensures.value c.self.view_is) (lent_holds g.S.Spec.object c.deref_mut-parts.ensures.value c.self.invariant) c.args.tx.now c.in-Some.course.now c.in-Some.ensures.course c.args.id c.args.op.now m c.append.new.self c.in_ok-append.ensures.ok c.insert.new.self c.in_ok-insert.ensures.ok)
