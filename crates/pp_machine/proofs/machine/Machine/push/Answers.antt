use Rattle.std.proofs.Common.{◌≡◌, Err, Ok, Some, ap, refl, slice_get, subst}
use Rattle.pp_model.specs.Config.{Push, Pushed, set_mark}
use Rattle.pp_model.proofs.Finding.{stands_in}
use Rattle.pp_machine.specs.Sites.{seen_with}
use Rattle.pp_machine.specs.Judges.{JudgesPush}
use Rattle.pp_machine.specs.Transactions.{HasOwn}
use Rattle.pp_machine.proofs.Judged.{entry_at, refused_cost, refused_step}
use Rattle.pp_machine.proofs.Judging.{push_1}
use Rattle.pp_machine.proofs.Keeping.{course_same, holds_push, holds_same, of_course, owns}
use Rattle.pp_machine.proofs.Keeping.{push_allowed, push_new, relogged_is, seen_push, seen_same}
use Rattle.pp_machine.proofs.Keeping.{unpushed_own}
use Rattle.pp_machine.proofs.Lent.{lent_holds, lent_view}
use Rattle.pp_machine.proofs.Opened.{coursed, holds_local, ranged_local, rest, uncoursed}
use Rattle.pp_machine.proofs.machine.Machine.push.Goals as goal

pub returns-in_default-clause-effect : goal.returns-in_default-clause-effect
returns-in_default-clause-effect g c =
    refused_step g.S.Spec.object c.args.self _ (Push c.args.tx.now c.args.id) c.bare.result c.refused.result c.refused.ensures (push_1 g.S.Spec.object _ _ (lent_view c.deref_mut-parts.ensures.value c.self.view_is) c.args.tx.now c.args.id (uncoursed g.S.Spec.object c.deref_mut-parts.result.now.shape c.deref_mut-parts.result.now.transactions c.deref_mut-parts.result.now.ids c.deref_mut-parts.result.now.shared c.deref_mut-parts.result.now.committed c.deref_mut-parts.result.now.count (lent_holds g.S.Spec.object c.deref_mut-parts.ensures.value c.self.invariant) c.args.tx.now c.in_default.ensures.course) c.bare.result c.bare.ensures) (lent_view c.deref_mut-parts.ensures.value c.self.view_is)

pub returns-in_default-clause-cost : goal.returns-in_default-clause-cost
returns-in_default-clause-cost g c =
    refused_cost g.S.Placed.place_of c.args.self (Push c.args.tx.now c.args.id) c.bare.result c.refused.result c.refused.ensures _ _ refl

pub judge_push-requires : goal.judge_push-requires
judge_push-requires g c =
    ((rest g.S.Spec.object c.deref_mut-parts.result.now.shape c.deref_mut-parts.result.now.transactions c.deref_mut-parts.result.now.ids c.deref_mut-parts.result.now.shared c.deref_mut-parts.result.now.committed c.deref_mut-parts.result.now.count (lent_holds g.S.Spec.object c.deref_mut-parts.ensures.value c.self.invariant)), (holds_local g.S.Spec.object c.deref_mut-parts.result.now.shape c.deref_mut-parts.result.now.transactions c.deref_mut-parts.result.now.ids c.deref_mut-parts.result.now.shared c.deref_mut-parts.result.now.committed c.deref_mut-parts.result.now.count (lent_holds g.S.Spec.object c.deref_mut-parts.ensures.value c.self.invariant) c.args.tx.now c.in-Some.course.now c.in-Some.ensures.course c.local.result.now c.local.ensures))

pub invariant_of-self-in-Err : goal.invariant_of-self-in-Err
invariant_of-self-in-Err g c =
    holds_same g.S.Spec.object c.deref_mut-parts.result.now.shape c.deref_mut-parts.result.now.transactions c.deref_mut-parts.result.now.ids c.deref_mut-parts.result.now.shared c.deref_mut-parts.result.now.committed c.deref_mut-parts.result.now.count _ (lent_view c.deref_mut-parts.ensures.value c.self.view_is) (lent_holds g.S.Spec.object c.deref_mut-parts.ensures.value c.self.invariant) _ _ (course_same g.S.Spec.object c.deref_mut-parts.result.now.shape c.deref_mut-parts.result.now.transactions c.deref_mut-parts.result.now.ids c.deref_mut-parts.result.now.shared c.deref_mut-parts.result.now.committed c.deref_mut-parts.result.now.count _ (lent_view c.deref_mut-parts.ensures.value c.self.view_is) (lent_holds g.S.Spec.object c.deref_mut-parts.ensures.value c.self.invariant) c.args.tx.now c.in-Some.course.now c.in-Some.course.now (coursed g.S.Spec.object c.deref_mut-parts.result.now.shape c.deref_mut-parts.result.now.transactions c.deref_mut-parts.result.now.ids c.deref_mut-parts.result.now.shared c.deref_mut-parts.result.now.committed c.deref_mut-parts.result.now.count (lent_holds g.S.Spec.object c.deref_mut-parts.ensures.value c.self.invariant) c.args.tx.now c.in-Some.course.now c.in-Some.ensures.course) refl) refl

pub returns-in-Err-clause-effect : goal.returns-in-Err-clause-effect
returns-in-Err-clause-effect g c =
    refused_step g.S.Spec.object c.args.self _ (Push c.args.tx.now c.args.id) c.in-Err.refusal c.refused-in-Err.result c.refused-in-Err.ensures ((subst (λ z. JudgesPush g.S.Spec.object z c.args.tx.now c.args.id (Err c.in-Err.refusal)) (lent_view c.deref_mut-parts.ensures.value c.self.view_is) (subst (JudgesPush g.S.Spec.object (seen_with (rest g.S.Spec.object c.deref_mut-parts.result.now.shape c.deref_mut-parts.result.now.transactions c.deref_mut-parts.result.now.ids c.deref_mut-parts.result.now.shared c.deref_mut-parts.result.now.committed c.deref_mut-parts.result.now.count (lent_holds g.S.Spec.object c.deref_mut-parts.ensures.value c.self.invariant)) c.deref_mut-parts.result.now.shared) c.args.tx.now c.args.id) c.in-Err.is (c.in_ok-judged.ensures (rest g.S.Spec.object c.deref_mut-parts.result.now.shape c.deref_mut-parts.result.now.transactions c.deref_mut-parts.result.now.ids c.deref_mut-parts.result.now.shared c.deref_mut-parts.result.now.committed c.deref_mut-parts.result.now.count (lent_holds g.S.Spec.object c.deref_mut-parts.ensures.value c.self.invariant)) (holds_local g.S.Spec.object c.deref_mut-parts.result.now.shape c.deref_mut-parts.result.now.transactions c.deref_mut-parts.result.now.ids c.deref_mut-parts.result.now.shared c.deref_mut-parts.result.now.committed c.deref_mut-parts.result.now.count (lent_holds g.S.Spec.object c.deref_mut-parts.ensures.value c.self.invariant) c.args.tx.now c.in-Some.course.now c.in-Some.ensures.course c.local.result.now c.local.ensures))))) (seen_same g.S.Spec.object c.deref_mut-parts.result.now.shape c.deref_mut-parts.result.now.transactions c.deref_mut-parts.result.now.ids c.deref_mut-parts.result.now.shared c.deref_mut-parts.result.now.committed c.deref_mut-parts.result.now.count _ (lent_view c.deref_mut-parts.ensures.value c.self.view_is) (lent_holds g.S.Spec.object c.deref_mut-parts.ensures.value c.self.invariant) _ _ (course_same g.S.Spec.object c.deref_mut-parts.result.now.shape c.deref_mut-parts.result.now.transactions c.deref_mut-parts.result.now.ids c.deref_mut-parts.result.now.shared c.deref_mut-parts.result.now.committed c.deref_mut-parts.result.now.count _ (lent_view c.deref_mut-parts.ensures.value c.self.view_is) (lent_holds g.S.Spec.object c.deref_mut-parts.ensures.value c.self.invariant) c.args.tx.now c.in-Some.course.now c.in-Some.course.now (coursed g.S.Spec.object c.deref_mut-parts.result.now.shape c.deref_mut-parts.result.now.transactions c.deref_mut-parts.result.now.ids c.deref_mut-parts.result.now.shared c.deref_mut-parts.result.now.committed c.deref_mut-parts.result.now.count (lent_holds g.S.Spec.object c.deref_mut-parts.ensures.value c.self.invariant) c.args.tx.now c.in-Some.course.now c.in-Some.ensures.course) refl) refl)

pub returns-in-Err-clause-cost : goal.returns-in-Err-clause-cost
returns-in-Err-clause-cost g c =
    refused_cost g.S.Placed.place_of c.args.self (Push c.args.tx.now c.args.id) c.in-Err.refusal c.refused-in-Err.result c.refused-in-Err.ensures _ _ refl

pub push-requires-clause-allowed : goal.push-requires-clause-allowed
push-requires-clause-allowed g c =
    let j = (subst (λ z. JudgesPush g.S.Spec.object z c.args.tx.now c.args.id (Ok c.in-Ok.found)) (lent_view c.deref_mut-parts.ensures.value c.self.view_is) (subst (JudgesPush g.S.Spec.object (seen_with (rest g.S.Spec.object c.deref_mut-parts.result.now.shape c.deref_mut-parts.result.now.transactions c.deref_mut-parts.result.now.ids c.deref_mut-parts.result.now.shared c.deref_mut-parts.result.now.committed c.deref_mut-parts.result.now.count (lent_holds g.S.Spec.object c.deref_mut-parts.ensures.value c.self.invariant)) c.deref_mut-parts.result.now.shared) c.args.tx.now c.args.id) c.in-Ok.is (c.in_ok-judged.ensures (rest g.S.Spec.object c.deref_mut-parts.result.now.shape c.deref_mut-parts.result.now.transactions c.deref_mut-parts.result.now.ids c.deref_mut-parts.result.now.shared c.deref_mut-parts.result.now.committed c.deref_mut-parts.result.now.count (lent_holds g.S.Spec.object c.deref_mut-parts.ensures.value c.self.invariant)) (holds_local g.S.Spec.object c.deref_mut-parts.result.now.shape c.deref_mut-parts.result.now.transactions c.deref_mut-parts.result.now.ids c.deref_mut-parts.result.now.shared c.deref_mut-parts.result.now.committed c.deref_mut-parts.result.now.count (lent_holds g.S.Spec.object c.deref_mut-parts.ensures.value c.self.invariant) c.args.tx.now c.in-Some.course.now c.in-Some.ensures.course c.local.result.now c.local.ensures)))) in
    let r = entry_at g.S.Spec.object c.deref_mut-parts.result.now.shape c.deref_mut-parts.result.now.transactions c.deref_mut-parts.result.now.ids c.deref_mut-parts.result.now.shared c.deref_mut-parts.result.now.committed c.deref_mut-parts.result.now.count (lent_holds g.S.Spec.object c.deref_mut-parts.ensures.value c.self.invariant) _ (lent_view c.deref_mut-parts.ensures.value c.self.view_is) c.args.tx.now c.args.id _ c.in-Ok.found.0 c.in-Ok.found.1 j.1 in
    push_allowed g.S.Spec.object c.deref_mut-parts.result.now.shape c.deref_mut-parts.result.now.transactions c.deref_mut-parts.result.now.ids c.deref_mut-parts.result.now.shared c.deref_mut-parts.result.now.committed c.deref_mut-parts.result.now.count _ (lent_view c.deref_mut-parts.ensures.value c.self.view_is) (lent_holds g.S.Spec.object c.deref_mut-parts.ensures.value c.self.invariant) c.args.tx.now c.args.id j.0 r.log r.has c.in-Ok.found.1 r.found

pub push-requires-clause-ranged : goal.push-requires-clause-ranged
push-requires-clause-ranged g c =
    let j = (subst (λ z. JudgesPush g.S.Spec.object z c.args.tx.now c.args.id (Ok c.in-Ok.found)) (lent_view c.deref_mut-parts.ensures.value c.self.view_is) (subst (JudgesPush g.S.Spec.object (seen_with (rest g.S.Spec.object c.deref_mut-parts.result.now.shape c.deref_mut-parts.result.now.transactions c.deref_mut-parts.result.now.ids c.deref_mut-parts.result.now.shared c.deref_mut-parts.result.now.committed c.deref_mut-parts.result.now.count (lent_holds g.S.Spec.object c.deref_mut-parts.ensures.value c.self.invariant)) c.deref_mut-parts.result.now.shared) c.args.tx.now c.args.id) c.in-Ok.is (c.in_ok-judged.ensures (rest g.S.Spec.object c.deref_mut-parts.result.now.shape c.deref_mut-parts.result.now.transactions c.deref_mut-parts.result.now.ids c.deref_mut-parts.result.now.shared c.deref_mut-parts.result.now.committed c.deref_mut-parts.result.now.count (lent_holds g.S.Spec.object c.deref_mut-parts.ensures.value c.self.invariant)) (holds_local g.S.Spec.object c.deref_mut-parts.result.now.shape c.deref_mut-parts.result.now.transactions c.deref_mut-parts.result.now.ids c.deref_mut-parts.result.now.shared c.deref_mut-parts.result.now.committed c.deref_mut-parts.result.now.count (lent_holds g.S.Spec.object c.deref_mut-parts.ensures.value c.self.invariant) c.args.tx.now c.in-Some.course.now c.in-Some.ensures.course c.local.result.now c.local.ensures)))) in
    let r = entry_at g.S.Spec.object c.deref_mut-parts.result.now.shape c.deref_mut-parts.result.now.transactions c.deref_mut-parts.result.now.ids c.deref_mut-parts.result.now.shared c.deref_mut-parts.result.now.committed c.deref_mut-parts.result.now.count (lent_holds g.S.Spec.object c.deref_mut-parts.ensures.value c.self.invariant) _ (lent_view c.deref_mut-parts.ensures.value c.self.view_is) c.args.tx.now c.args.id _ c.in-Ok.found.0 c.in-Ok.found.1 j.1 in
    ranged_local g.S.Spec.object c.deref_mut-parts.result.now.shape c.deref_mut-parts.result.now.transactions c.deref_mut-parts.result.now.ids c.deref_mut-parts.result.now.shared c.deref_mut-parts.result.now.committed c.deref_mut-parts.result.now.count (lent_holds g.S.Spec.object c.deref_mut-parts.ensures.value c.self.invariant) c.args.tx.now r.log r.has c.in-Ok.found.1 (stands_in (r.log).1 c.in-Ok.found.0 c.in-Ok.found.1 r.here)

pub push-requires-clause-new : goal.push-requires-clause-new
push-requires-clause-new g c =
    let j = (subst (λ z. JudgesPush g.S.Spec.object z c.args.tx.now c.args.id (Ok c.in-Ok.found)) (lent_view c.deref_mut-parts.ensures.value c.self.view_is) (subst (JudgesPush g.S.Spec.object (seen_with (rest g.S.Spec.object c.deref_mut-parts.result.now.shape c.deref_mut-parts.result.now.transactions c.deref_mut-parts.result.now.ids c.deref_mut-parts.result.now.shared c.deref_mut-parts.result.now.committed c.deref_mut-parts.result.now.count (lent_holds g.S.Spec.object c.deref_mut-parts.ensures.value c.self.invariant)) c.deref_mut-parts.result.now.shared) c.args.tx.now c.args.id) c.in-Ok.is (c.in_ok-judged.ensures (rest g.S.Spec.object c.deref_mut-parts.result.now.shape c.deref_mut-parts.result.now.transactions c.deref_mut-parts.result.now.ids c.deref_mut-parts.result.now.shared c.deref_mut-parts.result.now.committed c.deref_mut-parts.result.now.count (lent_holds g.S.Spec.object c.deref_mut-parts.ensures.value c.self.invariant)) (holds_local g.S.Spec.object c.deref_mut-parts.result.now.shape c.deref_mut-parts.result.now.transactions c.deref_mut-parts.result.now.ids c.deref_mut-parts.result.now.shared c.deref_mut-parts.result.now.committed c.deref_mut-parts.result.now.count (lent_holds g.S.Spec.object c.deref_mut-parts.ensures.value c.self.invariant) c.args.tx.now c.in-Some.course.now c.in-Some.ensures.course c.local.result.now c.local.ensures)))) in
    let r = entry_at g.S.Spec.object c.deref_mut-parts.result.now.shape c.deref_mut-parts.result.now.transactions c.deref_mut-parts.result.now.ids c.deref_mut-parts.result.now.shared c.deref_mut-parts.result.now.committed c.deref_mut-parts.result.now.count (lent_holds g.S.Spec.object c.deref_mut-parts.ensures.value c.self.invariant) _ (lent_view c.deref_mut-parts.ensures.value c.self.view_is) c.args.tx.now c.args.id _ c.in-Ok.found.0 c.in-Ok.found.1 j.1 in
    push_new g.S.Spec.object c.deref_mut-parts.result.now.shape c.deref_mut-parts.result.now.transactions c.deref_mut-parts.result.now.ids c.deref_mut-parts.result.now.shared c.deref_mut-parts.result.now.committed c.deref_mut-parts.result.now.count _ (lent_view c.deref_mut-parts.ensures.value c.self.view_is) (lent_holds g.S.Spec.object c.deref_mut-parts.ensures.value c.self.invariant) c.args.tx.now c.args.id j.0 r.log r.has c.in-Ok.found.1 r.found

pub mark-requires-clause-own : goal.mark-requires-clause-own
mark-requires-clause-own g c =
    let j = (subst (λ z. JudgesPush g.S.Spec.object z c.args.tx.now c.args.id (Ok c.in-Ok.found)) (lent_view c.deref_mut-parts.ensures.value c.self.view_is) (subst (JudgesPush g.S.Spec.object (seen_with (rest g.S.Spec.object c.deref_mut-parts.result.now.shape c.deref_mut-parts.result.now.transactions c.deref_mut-parts.result.now.ids c.deref_mut-parts.result.now.shared c.deref_mut-parts.result.now.committed c.deref_mut-parts.result.now.count (lent_holds g.S.Spec.object c.deref_mut-parts.ensures.value c.self.invariant)) c.deref_mut-parts.result.now.shared) c.args.tx.now c.args.id) c.in-Ok.is (c.in_ok-judged.ensures (rest g.S.Spec.object c.deref_mut-parts.result.now.shape c.deref_mut-parts.result.now.transactions c.deref_mut-parts.result.now.ids c.deref_mut-parts.result.now.shared c.deref_mut-parts.result.now.committed c.deref_mut-parts.result.now.count (lent_holds g.S.Spec.object c.deref_mut-parts.ensures.value c.self.invariant)) (holds_local g.S.Spec.object c.deref_mut-parts.result.now.shape c.deref_mut-parts.result.now.transactions c.deref_mut-parts.result.now.ids c.deref_mut-parts.result.now.shared c.deref_mut-parts.result.now.committed c.deref_mut-parts.result.now.count (lent_holds g.S.Spec.object c.deref_mut-parts.ensures.value c.self.invariant) c.args.tx.now c.in-Some.course.now c.in-Some.ensures.course c.local.result.now c.local.ensures)))) in
    let r = entry_at g.S.Spec.object c.deref_mut-parts.result.now.shape c.deref_mut-parts.result.now.transactions c.deref_mut-parts.result.now.ids c.deref_mut-parts.result.now.shared c.deref_mut-parts.result.now.committed c.deref_mut-parts.result.now.count (lent_holds g.S.Spec.object c.deref_mut-parts.ensures.value c.self.invariant) _ (lent_view c.deref_mut-parts.ensures.value c.self.view_is) c.args.tx.now c.args.id _ c.in-Ok.found.0 c.in-Ok.found.1 j.1 in
    let q = owns g.S.Spec.object c.deref_mut-parts.result.now.shape c.deref_mut-parts.result.now.transactions c.deref_mut-parts.result.now.ids c.deref_mut-parts.result.now.shared c.deref_mut-parts.result.now.committed c.deref_mut-parts.result.now.count _ (lent_view c.deref_mut-parts.ensures.value c.self.view_is) (lent_holds g.S.Spec.object c.deref_mut-parts.ensures.value c.self.invariant) c.args.tx.now c.args.id _ unpushed_own r.log r.has c.in-Ok.found.1 c.in-Ok.found.0 r.found r.here in
    subst (λ z. HasOwn z.local.1 c.in-Ok.found.0) (of_course g.S.Spec.object c.deref_mut-parts.result.now.shape c.deref_mut-parts.result.now.transactions c.deref_mut-parts.result.now.ids c.deref_mut-parts.result.now.shared c.deref_mut-parts.result.now.committed c.deref_mut-parts.result.now.count _ (lent_view c.deref_mut-parts.ensures.value c.self.view_is) (lent_holds g.S.Spec.object c.deref_mut-parts.ensures.value c.self.invariant) c.args.tx.now c.in-Some.course.now (coursed g.S.Spec.object c.deref_mut-parts.result.now.shape c.deref_mut-parts.result.now.transactions c.deref_mut-parts.result.now.ids c.deref_mut-parts.result.now.shared c.deref_mut-parts.result.now.committed c.deref_mut-parts.result.now.count (lent_holds g.S.Spec.object c.deref_mut-parts.ensures.value c.self.invariant) c.args.tx.now c.in-Some.course.now c.in-Some.ensures.course) q.0 q.1) q.2

pub invariant_of-self-2 : goal.invariant_of-self-2
invariant_of-self-2 g c =
    let j = (subst (λ z. JudgesPush g.S.Spec.object z c.args.tx.now c.args.id (Ok c.in-Ok.found)) (lent_view c.deref_mut-parts.ensures.value c.self.view_is) (subst (JudgesPush g.S.Spec.object (seen_with (rest g.S.Spec.object c.deref_mut-parts.result.now.shape c.deref_mut-parts.result.now.transactions c.deref_mut-parts.result.now.ids c.deref_mut-parts.result.now.shared c.deref_mut-parts.result.now.committed c.deref_mut-parts.result.now.count (lent_holds g.S.Spec.object c.deref_mut-parts.ensures.value c.self.invariant)) c.deref_mut-parts.result.now.shared) c.args.tx.now c.args.id) c.in-Ok.is (c.in_ok-judged.ensures (rest g.S.Spec.object c.deref_mut-parts.result.now.shape c.deref_mut-parts.result.now.transactions c.deref_mut-parts.result.now.ids c.deref_mut-parts.result.now.shared c.deref_mut-parts.result.now.committed c.deref_mut-parts.result.now.count (lent_holds g.S.Spec.object c.deref_mut-parts.ensures.value c.self.invariant)) (holds_local g.S.Spec.object c.deref_mut-parts.result.now.shape c.deref_mut-parts.result.now.transactions c.deref_mut-parts.result.now.ids c.deref_mut-parts.result.now.shared c.deref_mut-parts.result.now.committed c.deref_mut-parts.result.now.count (lent_holds g.S.Spec.object c.deref_mut-parts.ensures.value c.self.invariant) c.args.tx.now c.in-Some.course.now c.in-Some.ensures.course c.local.result.now c.local.ensures)))) in
    let r = entry_at g.S.Spec.object c.deref_mut-parts.result.now.shape c.deref_mut-parts.result.now.transactions c.deref_mut-parts.result.now.ids c.deref_mut-parts.result.now.shared c.deref_mut-parts.result.now.committed c.deref_mut-parts.result.now.count (lent_holds g.S.Spec.object c.deref_mut-parts.ensures.value c.self.invariant) _ (lent_view c.deref_mut-parts.ensures.value c.self.view_is) c.args.tx.now c.args.id _ c.in-Ok.found.0 c.in-Ok.found.1 j.1 in
    holds_push g.S.Spec.object c.deref_mut-parts.result.now.shape c.deref_mut-parts.result.now.transactions c.deref_mut-parts.result.now.ids c.deref_mut-parts.result.now.shared c.deref_mut-parts.result.now.committed c.deref_mut-parts.result.now.count _ (lent_view c.deref_mut-parts.ensures.value c.self.view_is) (lent_holds g.S.Spec.object c.deref_mut-parts.ensures.value c.self.invariant) c.args.tx.now c.args.id j.0 r.log r.has c.in-Ok.found.1 c.in-Ok.found.0 r.found r.here _ c.push.new.self (relogged_is g.S.Spec.object c.deref_mut-parts.result.now.shape c.deref_mut-parts.result.now.transactions c.deref_mut-parts.result.now.ids c.deref_mut-parts.result.now.shared c.deref_mut-parts.result.now.committed c.deref_mut-parts.result.now.count _ (lent_view c.deref_mut-parts.ensures.value c.self.view_is) (lent_holds g.S.Spec.object c.deref_mut-parts.ensures.value c.self.invariant) c.args.tx.now c.in-Some.course.now c.mark.new.self (coursed g.S.Spec.object c.deref_mut-parts.result.now.shape c.deref_mut-parts.result.now.transactions c.deref_mut-parts.result.now.ids c.deref_mut-parts.result.now.shared c.deref_mut-parts.result.now.committed c.deref_mut-parts.result.now.count (lent_holds g.S.Spec.object c.deref_mut-parts.ensures.value c.self.invariant) c.args.tx.now c.in-Some.course.now c.in-Some.ensures.course) (set_mark (c.in-Ok.found.1).id Pushed) (c.mark.ensures c.in-Ok.found.1 (subst (λ l. slice_get l.1 c.in-Ok.found.0 ≡ Some c.in-Ok.found.1) (ap (λ z. z.local) (of_course g.S.Spec.object c.deref_mut-parts.result.now.shape c.deref_mut-parts.result.now.transactions c.deref_mut-parts.result.now.ids c.deref_mut-parts.result.now.shared c.deref_mut-parts.result.now.committed c.deref_mut-parts.result.now.count _ (lent_view c.deref_mut-parts.ensures.value c.self.view_is) (lent_holds g.S.Spec.object c.deref_mut-parts.ensures.value c.self.invariant) c.args.tx.now c.in-Some.course.now (coursed g.S.Spec.object c.deref_mut-parts.result.now.shape c.deref_mut-parts.result.now.transactions c.deref_mut-parts.result.now.ids c.deref_mut-parts.result.now.shared c.deref_mut-parts.result.now.committed c.deref_mut-parts.result.now.count (lent_holds g.S.Spec.object c.deref_mut-parts.ensures.value c.self.invariant) c.args.tx.now c.in-Some.course.now c.in-Some.ensures.course) _ (r.has).at)) r.here))) c.in_ok-push.ensures.ok

pub returns-clause-effect : goal.returns-clause-effect
returns-clause-effect g c =
    let j = (subst (λ z. JudgesPush g.S.Spec.object z c.args.tx.now c.args.id (Ok c.in-Ok.found)) (lent_view c.deref_mut-parts.ensures.value c.self.view_is) (subst (JudgesPush g.S.Spec.object (seen_with (rest g.S.Spec.object c.deref_mut-parts.result.now.shape c.deref_mut-parts.result.now.transactions c.deref_mut-parts.result.now.ids c.deref_mut-parts.result.now.shared c.deref_mut-parts.result.now.committed c.deref_mut-parts.result.now.count (lent_holds g.S.Spec.object c.deref_mut-parts.ensures.value c.self.invariant)) c.deref_mut-parts.result.now.shared) c.args.tx.now c.args.id) c.in-Ok.is (c.in_ok-judged.ensures (rest g.S.Spec.object c.deref_mut-parts.result.now.shape c.deref_mut-parts.result.now.transactions c.deref_mut-parts.result.now.ids c.deref_mut-parts.result.now.shared c.deref_mut-parts.result.now.committed c.deref_mut-parts.result.now.count (lent_holds g.S.Spec.object c.deref_mut-parts.ensures.value c.self.invariant)) (holds_local g.S.Spec.object c.deref_mut-parts.result.now.shape c.deref_mut-parts.result.now.transactions c.deref_mut-parts.result.now.ids c.deref_mut-parts.result.now.shared c.deref_mut-parts.result.now.committed c.deref_mut-parts.result.now.count (lent_holds g.S.Spec.object c.deref_mut-parts.ensures.value c.self.invariant) c.args.tx.now c.in-Some.course.now c.in-Some.ensures.course c.local.result.now c.local.ensures)))) in
    let r = entry_at g.S.Spec.object c.deref_mut-parts.result.now.shape c.deref_mut-parts.result.now.transactions c.deref_mut-parts.result.now.ids c.deref_mut-parts.result.now.shared c.deref_mut-parts.result.now.committed c.deref_mut-parts.result.now.count (lent_holds g.S.Spec.object c.deref_mut-parts.ensures.value c.self.invariant) _ (lent_view c.deref_mut-parts.ensures.value c.self.view_is) c.args.tx.now c.args.id _ c.in-Ok.found.0 c.in-Ok.found.1 j.1 in
    (j.0, seen_push g.S.Spec.object c.deref_mut-parts.result.now.shape c.deref_mut-parts.result.now.transactions c.deref_mut-parts.result.now.ids c.deref_mut-parts.result.now.shared c.deref_mut-parts.result.now.committed c.deref_mut-parts.result.now.count _ (lent_view c.deref_mut-parts.ensures.value c.self.view_is) (lent_holds g.S.Spec.object c.deref_mut-parts.ensures.value c.self.invariant) c.args.tx.now c.args.id r.log r.has c.in-Ok.found.1 r.found _ c.push.new.self (relogged_is g.S.Spec.object c.deref_mut-parts.result.now.shape c.deref_mut-parts.result.now.transactions c.deref_mut-parts.result.now.ids c.deref_mut-parts.result.now.shared c.deref_mut-parts.result.now.committed c.deref_mut-parts.result.now.count _ (lent_view c.deref_mut-parts.ensures.value c.self.view_is) (lent_holds g.S.Spec.object c.deref_mut-parts.ensures.value c.self.invariant) c.args.tx.now c.in-Some.course.now c.mark.new.self (coursed g.S.Spec.object c.deref_mut-parts.result.now.shape c.deref_mut-parts.result.now.transactions c.deref_mut-parts.result.now.ids c.deref_mut-parts.result.now.shared c.deref_mut-parts.result.now.committed c.deref_mut-parts.result.now.count (lent_holds g.S.Spec.object c.deref_mut-parts.ensures.value c.self.invariant) c.args.tx.now c.in-Some.course.now c.in-Some.ensures.course) (set_mark (c.in-Ok.found.1).id Pushed) (c.mark.ensures c.in-Ok.found.1 (subst (λ l. slice_get l.1 c.in-Ok.found.0 ≡ Some c.in-Ok.found.1) (ap (λ z. z.local) (of_course g.S.Spec.object c.deref_mut-parts.result.now.shape c.deref_mut-parts.result.now.transactions c.deref_mut-parts.result.now.ids c.deref_mut-parts.result.now.shared c.deref_mut-parts.result.now.committed c.deref_mut-parts.result.now.count _ (lent_view c.deref_mut-parts.ensures.value c.self.view_is) (lent_holds g.S.Spec.object c.deref_mut-parts.ensures.value c.self.invariant) c.args.tx.now c.in-Some.course.now (coursed g.S.Spec.object c.deref_mut-parts.result.now.shape c.deref_mut-parts.result.now.transactions c.deref_mut-parts.result.now.ids c.deref_mut-parts.result.now.shared c.deref_mut-parts.result.now.committed c.deref_mut-parts.result.now.count (lent_holds g.S.Spec.object c.deref_mut-parts.ensures.value c.self.invariant) c.args.tx.now c.in-Some.course.now c.in-Some.ensures.course) _ (r.has).at)) r.here))) c.in_ok-push.ensures.ok)
