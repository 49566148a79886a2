use Rattle.std.proofs.Common.{Err, Ok, arith, refl, subst}
use Rattle.pp_model.specs.Config.{Unpush}
use Rattle.pp_machine.specs.Judges.{JudgesUnpush}
use Rattle.pp_machine.specs.Sites.{seen_with}
use Rattle.pp_machine.proofs.Judged.{refused_cost, refused_step}
use Rattle.pp_machine.proofs.Judging.{unpush_1}
use Rattle.pp_machine.proofs.Lent.{by_local, lent_holds, lent_view}
use Rattle.pp_machine.proofs.Opened.{holds_local, rest, uncoursed}
use Rattle.pp_machine.proofs.machine.Machine.unpush.Goals as goal

pub returns-in_default-clause-effect : goal.returns-in_default-clause-effect
returns-in_default-clause-effect g c =
    refused_step g.S.Spec.object c.args.self _ (Unpush c.args.tx.now c.args.id) c.bare.result c.refused.result c.refused.ensures (unpush_1 g.S.Spec.object _ _ (lent_view c.deref-parts.ensures c.self.view_is) c.args.tx.now c.args.id (uncoursed g.S.Spec.object c.deref-parts.result.now.shape c.deref-parts.result.now.transactions c.deref-parts.result.now.ids c.deref-parts.result.now.shared c.deref-parts.result.now.committed c.deref-parts.result.now.count (lent_holds g.S.Spec.object c.deref-parts.ensures c.self.invariant) c.args.tx.now c.in_default.ensures.course) c.bare.result c.bare.ensures) refl

pub returns-in_default-clause-cost : goal.returns-in_default-clause-cost
returns-in_default-clause-cost g c =
    refused_cost g.S.Placed.place_of c.args.self (Unpush c.args.tx.now c.args.id) c.bare.result c.refused.result c.refused.ensures _ _ (omega arith, omega arith)

pub judge_unpush-requires : goal.judge_unpush-requires
judge_unpush-requires g c =
    (rest g.S.Spec.object c.deref-parts.result.now.shape c.deref-parts.result.now.transactions c.deref-parts.result.now.ids c.deref-parts.result.now.shared c.deref-parts.result.now.committed c.deref-parts.result.now.count (lent_holds g.S.Spec.object c.deref-parts.ensures c.self.invariant), holds_local g.S.Spec.object c.deref-parts.result.now.shape c.deref-parts.result.now.transactions c.deref-parts.result.now.ids c.deref-parts.result.now.shared c.deref-parts.result.now.committed c.deref-parts.result.now.count (lent_holds g.S.Spec.object c.deref-parts.ensures c.self.invariant) c.args.tx.now c.in-Some.course.now c.in-Some.ensures.course c.local.result.now c.local.ensures)

pub take_back-requires-clause-found : goal.take_back-requires-clause-found
take_back-requires-clause-found g c =
    by_local g.S.Spec.object c.deref-parts.result.now (lent_view c.deref-parts.ensures c.self.view_is) (lent_holds g.S.Spec.object c.deref-parts.ensures c.self.invariant) c.args.tx.now c.in-Some.course.now c.in-Some.ensures.course (λ z. JudgesUnpush g.S.Spec.object z c.args.tx.now c.args.id (Ok (c.in-Ok.i, c.in-Ok.posted))) c.local.result.now c.local.ensures (λ m h. subst (JudgesUnpush g.S.Spec.object (seen_with m c.deref-parts.result.now.shared) c.args.tx.now c.args.id) c.in-Ok.is (c.in_ok-judged.ensures m h))

pub returns-in-Err-clause-effect : goal.returns-in-Err-clause-effect
returns-in-Err-clause-effect g c =
    refused_step g.S.Spec.object c.args.self _ (Unpush c.args.tx.now c.args.id) c.in-Err.refusal c.refused-in-Err.result c.refused-in-Err.ensures
    (by_local g.S.Spec.object c.deref-parts.result.now (lent_view c.deref-parts.ensures c.self.view_is) (lent_holds g.S.Spec.object c.deref-parts.ensures c.self.invariant) c.args.tx.now c.in-Some.course.now c.in-Some.ensures.course (λ z. JudgesUnpush g.S.Spec.object z c.args.tx.now c.args.id (Err c.in-Err.refusal)) c.local.result.now c.local.ensures (λ m h. subst (JudgesUnpush g.S.Spec.object (seen_with m c.deref-parts.result.now.shared) c.args.tx.now c.args.id) c.in-Err.is (c.in_ok-judged.ensures m h)))
    refl

pub returns-in-Err-clause-cost : goal.returns-in-Err-clause-cost
returns-in-Err-clause-cost g c =
    refused_cost g.S.Placed.place_of c.args.self (Unpush c.args.tx.now c.args.id) c.in-Err.refusal c.refused-in-Err.result c.refused-in-Err.ensures _ _ (omega arith, omega arith)
