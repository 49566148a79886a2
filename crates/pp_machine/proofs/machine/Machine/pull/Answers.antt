use Rattle.std.proofs.Common.{◌∷◌, ◌++◌, [], Err, Ok, refl, subst}
use Rattle.pp_model.specs.Config.{Pull, Pulled}
use Rattle.pp_machine.specs.Courses.{FollowsIfOwn}
use Rattle.pp_machine.specs.Sites.{seen_with}
use Rattle.pp_machine.specs.Judges.{JudgesPull}
use Rattle.pp_machine.specs.Transactions.{Takes}
use Rattle.pp_machine.proofs.Judged.{is_of_other, refused_cost, refused_step}
use Rattle.pp_machine.proofs.Judging.{pull_1}
use Rattle.pp_machine.proofs.Keeping.{course_same, holds_pull, holds_same, of_course, relogged_is}
use Rattle.pp_machine.proofs.Keeping.{seen_pull, seen_same, takes_pull}
use Rattle.pp_machine.proofs.Lent.{lent_holds, lent_view}
use Rattle.pp_machine.proofs.Opened.{coursed, holds_local, rest, uncoursed}
use Rattle.pp_machine.proofs.machine.Machine.pull.Goals as goal

pub other_at-found-requires : goal.other_at-found-requires
other_at-found-requires g c =
    let h = lent_holds g.S.Spec.object c.deref_mut-parts.ensures.value c.self.invariant in
    h.sound.shared_ids

pub returns-in_default-clause-effect : goal.returns-in_default-clause-effect
returns-in_default-clause-effect g c =
    refused_step g.S.Spec.object c.args.self _ (Pull c.args.tx.now c.args.id) c.bare.result c.refused.result c.refused.ensures (pull_1 g.S.Spec.object _ _ (lent_view c.deref_mut-parts.ensures.value c.self.view_is) c.args.tx.now c.args.id (uncoursed g.S.Spec.object c.deref_mut-parts.result.now.shape c.deref_mut-parts.result.now.transactions c.deref_mut-parts.result.now.ids c.deref_mut-parts.result.now.shared c.deref_mut-parts.result.now.committed c.deref_mut-parts.result.now.count (lent_holds g.S.Spec.object c.deref_mut-parts.ensures.value c.self.invariant) c.args.tx.now c.in_default.ensures.course) c.bare.result c.bare.ensures) (lent_view c.deref_mut-parts.ensures.value c.self.view_is)

pub returns-in_default-clause-cost : goal.returns-in_default-clause-cost
returns-in_default-clause-cost g c =
    refused_cost g.S.Placed.place_of c.args.self (Pull c.args.tx.now c.args.id) c.bare.result c.refused.result c.refused.ensures _ _ refl

pub judge_pull-requires : goal.judge_pull-requires
judge_pull-requires g c =
    (c.deref_mut-parts.result.now.shared, c.args.tx.now, c.other_at-found.ensures, ((rest g.S.Spec.object c.deref_mut-parts.result.now.shape c.deref_mut-parts.result.now.transactions c.deref_mut-parts.result.now.ids c.deref_mut-parts.result.now.shared c.deref_mut-parts.result.now.committed c.deref_mut-parts.result.now.count (lent_holds g.S.Spec.object c.deref_mut-parts.ensures.value c.self.invariant)), (holds_local g.S.Spec.object c.deref_mut-parts.result.now.shape c.deref_mut-parts.result.now.transactions c.deref_mut-parts.result.now.ids c.deref_mut-parts.result.now.shared c.deref_mut-parts.result.now.committed c.deref_mut-parts.result.now.count (lent_holds g.S.Spec.object c.deref_mut-parts.ensures.value c.self.invariant) c.args.tx.now c.in-Some.course.now c.in-Some.ensures.course c.local.result.now c.local.ensures)))

pub invariant_of-self-in-Err : goal.invariant_of-self-in-Err
invariant_of-self-in-Err g c =
    holds_same g.S.Spec.object c.deref_mut-parts.result.now.shape c.deref_mut-parts.result.now.transactions c.deref_mut-parts.result.now.ids c.deref_mut-parts.result.now.shared c.deref_mut-parts.result.now.committed c.deref_mut-parts.result.now.count _ (lent_view c.deref_mut-parts.ensures.value c.self.view_is) (lent_holds g.S.Spec.object c.deref_mut-parts.ensures.value c.self.invariant) _ _ (course_same g.S.Spec.object c.deref_mut-parts.result.now.shape c.deref_mut-parts.result.now.transactions c.deref_mut-parts.result.now.ids c.deref_mut-parts.result.now.shared c.deref_mut-parts.result.now.committed c.deref_mut-parts.result.now.count _ (lent_view c.deref_mut-parts.ensures.value c.self.view_is) (lent_holds g.S.Spec.object c.deref_mut-parts.ensures.value c.self.invariant) c.args.tx.now c.in-Some.course.now c.in-Some.course.now (coursed g.S.Spec.object c.deref_mut-parts.result.now.shape c.deref_mut-parts.result.now.transactions c.deref_mut-parts.result.now.ids c.deref_mut-parts.result.now.shared c.deref_mut-parts.result.now.committed c.deref_mut-parts.result.now.count (lent_holds g.S.Spec.object c.deref_mut-parts.ensures.value c.self.invariant) c.args.tx.now c.in-Some.course.now c.in-Some.ensures.course) refl) refl

pub returns-in-Err-clause-effect : goal.returns-in-Err-clause-effect
returns-in-Err-clause-effect g c =
    refused_step g.S.Spec.object c.args.self _ (Pull c.args.tx.now c.args.id) c.in-Err.refusal c.refused-in-Err.result c.refused-in-Err.ensures ((subst (λ z. JudgesPull g.S.Spec.object z c.args.tx.now c.args.id (Err c.in-Err.refusal)) (lent_view c.deref_mut-parts.ensures.value c.self.view_is) (subst (JudgesPull g.S.Spec.object (seen_with (rest g.S.Spec.object c.deref_mut-parts.result.now.shape c.deref_mut-parts.result.now.transactions c.deref_mut-parts.result.now.ids c.deref_mut-parts.result.now.shared c.deref_mut-parts.result.now.committed c.deref_mut-parts.result.now.count (lent_holds g.S.Spec.object c.deref_mut-parts.ensures.value c.self.invariant)) c.deref_mut-parts.result.now.shared) c.args.tx.now c.args.id) c.in-Err.is (c.in_ok-judged.ensures (rest g.S.Spec.object c.deref_mut-parts.result.now.shape c.deref_mut-parts.result.now.transactions c.deref_mut-parts.result.now.ids c.deref_mut-parts.result.now.shared c.deref_mut-parts.result.now.committed c.deref_mut-parts.result.now.count (lent_holds g.S.Spec.object c.deref_mut-parts.ensures.value c.self.invariant)) c.deref_mut-parts.result.now.shared c.args.tx.now c.other_at-found.ensures (holds_local g.S.Spec.object c.deref_mut-parts.result.now.shape c.deref_mut-parts.result.now.transactions c.deref_mut-parts.result.now.ids c.deref_mut-parts.result.now.shared c.deref_mut-parts.result.now.committed c.deref_mut-parts.result.now.count (lent_holds g.S.Spec.object c.deref_mut-parts.ensures.value c.self.invariant) c.args.tx.now c.in-Some.course.now c.in-Some.ensures.course c.local.result.now c.local.ensures))))) (seen_same g.S.Spec.object c.deref_mut-parts.result.now.shape c.deref_mut-parts.result.now.transactions c.deref_mut-parts.result.now.ids c.deref_mut-parts.result.now.shared c.deref_mut-parts.result.now.committed c.deref_mut-parts.result.now.count _ (lent_view c.deref_mut-parts.ensures.value c.self.view_is) (lent_holds g.S.Spec.object c.deref_mut-parts.ensures.value c.self.invariant) _ _ (course_same g.S.Spec.object c.deref_mut-parts.result.now.shape c.deref_mut-parts.result.now.transactions c.deref_mut-parts.result.now.ids c.deref_mut-parts.result.now.shared c.deref_mut-parts.result.now.committed c.deref_mut-parts.result.now.count _ (lent_view c.deref_mut-parts.ensures.value c.self.view_is) (lent_holds g.S.Spec.object c.deref_mut-parts.ensures.value c.self.invariant) c.args.tx.now c.in-Some.course.now c.in-Some.course.now (coursed g.S.Spec.object c.deref_mut-parts.result.now.shape c.deref_mut-parts.result.now.transactions c.deref_mut-parts.result.now.ids c.deref_mut-parts.result.now.shared c.deref_mut-parts.result.now.committed c.deref_mut-parts.result.now.count (lent_holds g.S.Spec.object c.deref_mut-parts.ensures.value c.self.invariant) c.args.tx.now c.in-Some.course.now c.in-Some.ensures.course) refl) refl)

pub returns-in-Err-clause-cost : goal.returns-in-Err-clause-cost
returns-in-Err-clause-cost g c =
    refused_cost g.S.Placed.place_of c.args.self (Pull c.args.tx.now c.args.id) c.in-Err.refusal c.refused-in-Err.result c.refused-in-Err.ensures _ _ refl

pub append-requires : goal.append-requires
append-requires g c =
    let j = (subst (λ z. JudgesPull g.S.Spec.object z c.args.tx.now c.args.id (Ok c.in-Ok.post)) (lent_view c.deref_mut-parts.ensures.value c.self.view_is) (subst (JudgesPull g.S.Spec.object (seen_with (rest g.S.Spec.object c.deref_mut-parts.result.now.shape c.deref_mut-parts.result.now.transactions c.deref_mut-parts.result.now.ids c.deref_mut-parts.result.now.shared c.deref_mut-parts.result.now.committed c.deref_mut-parts.result.now.count (lent_holds g.S.Spec.object c.deref_mut-parts.ensures.value c.self.invariant)) c.deref_mut-parts.result.now.shared) c.args.tx.now c.args.id) c.in-Ok.is (c.in_ok-judged.ensures (rest g.S.Spec.object c.deref_mut-parts.result.now.shape c.deref_mut-parts.result.now.transactions c.deref_mut-parts.result.now.ids c.deref_mut-parts.result.now.shared c.deref_mut-parts.result.now.committed c.deref_mut-parts.result.now.count (lent_holds g.S.Spec.object c.deref_mut-parts.ensures.value c.self.invariant)) c.deref_mut-parts.result.now.shared c.args.tx.now c.other_at-found.ensures (holds_local g.S.Spec.object c.deref_mut-parts.result.now.shape c.deref_mut-parts.result.now.transactions c.deref_mut-parts.result.now.ids c.deref_mut-parts.result.now.shared c.deref_mut-parts.result.now.committed c.deref_mut-parts.result.now.count (lent_holds g.S.Spec.object c.deref_mut-parts.ensures.value c.self.invariant) c.args.tx.now c.in-Some.course.now c.in-Some.ensures.course c.local.result.now c.local.ensures)))) in
    let p = is_of_other g.S.Spec.object c.deref_mut-parts.result.now.shape c.deref_mut-parts.result.now.transactions c.deref_mut-parts.result.now.ids c.deref_mut-parts.result.now.shared c.deref_mut-parts.result.now.committed c.deref_mut-parts.result.now.count (lent_holds g.S.Spec.object c.deref_mut-parts.ensures.value c.self.invariant) _ (lent_view c.deref_mut-parts.ensures.value c.self.view_is) c.args.tx.now c.args.id c.in-Ok.post j.1 in
    let q = takes_pull g.S.Spec.object c.deref_mut-parts.result.now.shape c.deref_mut-parts.result.now.transactions c.deref_mut-parts.result.now.ids c.deref_mut-parts.result.now.shared c.deref_mut-parts.result.now.committed c.deref_mut-parts.result.now.count _ (lent_view c.deref_mut-parts.ensures.value c.self.view_is) (lent_holds g.S.Spec.object c.deref_mut-parts.ensures.value c.self.invariant) c.args.tx.now c.args.id c.in-Ok.post j.0 p c.requires.few in
    let is = of_course g.S.Spec.object c.deref_mut-parts.result.now.shape c.deref_mut-parts.result.now.transactions c.deref_mut-parts.result.now.ids c.deref_mut-parts.result.now.shared c.deref_mut-parts.result.now.committed c.deref_mut-parts.result.now.count _ (lent_view c.deref_mut-parts.ensures.value c.self.view_is) (lent_holds g.S.Spec.object c.deref_mut-parts.ensures.value c.self.invariant) c.args.tx.now c.in-Some.course.now (coursed g.S.Spec.object c.deref_mut-parts.result.now.shape c.deref_mut-parts.result.now.transactions c.deref_mut-parts.result.now.ids c.deref_mut-parts.result.now.shared c.deref_mut-parts.result.now.committed c.deref_mut-parts.result.now.count (lent_holds g.S.Spec.object c.deref_mut-parts.ensures.value c.self.invariant) c.args.tx.now c.in-Some.course.now c.in-Some.ensures.course) q.0 q.1 in
    record {
      takes = subst (λ z. Takes g.S.Spec.object z.local (record { id = (c.in-Ok.post).id; owner = (c.in-Ok.post).owner; mark = Pulled; op = (c.in-Ok.post).op })) is q.2;
      follows = subst (λ z. FollowsIfOwn g.S.Spec.object z.body z.local.1 (record { id = (c.in-Ok.post).id; owner = (c.in-Ok.post).owner; mark = Pulled; op = (c.in-Ok.post).op })) is q.3;
    }

pub invariant_of-self-2 : goal.invariant_of-self-2
invariant_of-self-2 g c =
    let j = (subst (λ z. JudgesPull g.S.Spec.object z c.args.tx.now c.args.id (Ok c.in-Ok.post)) (lent_view c.deref_mut-parts.ensures.value c.self.view_is) (subst (JudgesPull g.S.Spec.object (seen_with (rest g.S.Spec.object c.deref_mut-parts.result.now.shape c.deref_mut-parts.result.now.transactions c.deref_mut-parts.result.now.ids c.deref_mut-parts.result.now.shared c.deref_mut-parts.result.now.committed c.deref_mut-parts.result.now.count (lent_holds g.S.Spec.object c.deref_mut-parts.ensures.value c.self.invariant)) c.deref_mut-parts.result.now.shared) c.args.tx.now c.args.id) c.in-Ok.is (c.in_ok-judged.ensures (rest g.S.Spec.object c.deref_mut-parts.result.now.shape c.deref_mut-parts.result.now.transactions c.deref_mut-parts.result.now.ids c.deref_mut-parts.result.now.shared c.deref_mut-parts.result.now.committed c.deref_mut-parts.result.now.count (lent_holds g.S.Spec.object c.deref_mut-parts.ensures.value c.self.invariant)) c.deref_mut-parts.result.now.shared c.args.tx.now c.other_at-found.ensures (holds_local g.S.Spec.object c.deref_mut-parts.result.now.shape c.deref_mut-parts.result.now.transactions c.deref_mut-parts.result.now.ids c.deref_mut-parts.result.now.shared c.deref_mut-parts.result.now.committed c.deref_mut-parts.result.now.count (lent_holds g.S.Spec.object c.deref_mut-parts.ensures.value c.self.invariant) c.args.tx.now c.in-Some.course.now c.in-Some.ensures.course c.local.result.now c.local.ensures)))) in
    let p = is_of_other g.S.Spec.object c.deref_mut-parts.result.now.shape c.deref_mut-parts.result.now.transactions c.deref_mut-parts.result.now.ids c.deref_mut-parts.result.now.shared c.deref_mut-parts.result.now.committed c.deref_mut-parts.result.now.count (lent_holds g.S.Spec.object c.deref_mut-parts.ensures.value c.self.invariant) _ (lent_view c.deref_mut-parts.ensures.value c.self.view_is) c.args.tx.now c.args.id c.in-Ok.post j.1 in
    holds_pull g.S.Spec.object c.deref_mut-parts.result.now.shape c.deref_mut-parts.result.now.transactions c.deref_mut-parts.result.now.ids c.deref_mut-parts.result.now.shared c.deref_mut-parts.result.now.committed c.deref_mut-parts.result.now.count _ (lent_view c.deref_mut-parts.ensures.value c.self.view_is) (lent_holds g.S.Spec.object c.deref_mut-parts.ensures.value c.self.invariant) c.args.tx.now c.args.id c.in-Ok.post _ j.0 p (relogged_is g.S.Spec.object c.deref_mut-parts.result.now.shape c.deref_mut-parts.result.now.transactions c.deref_mut-parts.result.now.ids c.deref_mut-parts.result.now.shared c.deref_mut-parts.result.now.committed c.deref_mut-parts.result.now.count _ (lent_view c.deref_mut-parts.ensures.value c.self.view_is) (lent_holds g.S.Spec.object c.deref_mut-parts.ensures.value c.self.invariant) c.args.tx.now c.in-Some.course.now c.append.new.self (coursed g.S.Spec.object c.deref_mut-parts.result.now.shape c.deref_mut-parts.result.now.transactions c.deref_mut-parts.result.now.ids c.deref_mut-parts.result.now.shared c.deref_mut-parts.result.now.committed c.deref_mut-parts.result.now.count (lent_holds g.S.Spec.object c.deref_mut-parts.ensures.value c.self.invariant) c.args.tx.now c.in-Some.course.now c.in-Some.ensures.course) (λ l. l ++ (record { id = (c.in-Ok.post).id; owner = (c.in-Ok.post).owner; mark = Pulled; op = (c.in-Ok.post).op }) ∷ []) c.in_ok-append.ensures.ok)

pub returns-clause-effect : goal.returns-clause-effect
returns-clause-effect g c =
    let j = (subst (λ z. JudgesPull g.S.Spec.object z c.args.tx.now c.args.id (Ok c.in-Ok.post)) (lent_view c.deref_mut-parts.ensures.value c.self.view_is) (subst (JudgesPull g.S.Spec.object (seen_with (rest g.S.Spec.object c.deref_mut-parts.result.now.shape c.deref_mut-parts.result.now.transactions c.deref_mut-parts.result.now.ids c.deref_mut-parts.result.now.shared c.deref_mut-parts.result.now.committed c.deref_mut-parts.result.now.count (lent_holds g.S.Spec.object c.deref_mut-parts.ensures.value c.self.invariant)) c.deref_mut-parts.result.now.shared) c.args.tx.now c.args.id) c.in-Ok.is (c.in_ok-judged.ensures (rest g.S.Spec.object c.deref_mut-parts.result.now.shape c.deref_mut-parts.result.now.transactions c.deref_mut-parts.result.now.ids c.deref_mut-parts.result.now.shared c.deref_mut-parts.result.now.committed c.deref_mut-parts.result.now.count (lent_holds g.S.Spec.object c.deref_mut-parts.ensures.value c.self.invariant)) c.deref_mut-parts.result.now.shared c.args.tx.now c.other_at-found.ensures (holds_local g.S.Spec.object c.deref_mut-parts.result.now.shape c.deref_mut-parts.result.now.transactions c.deref_mut-parts.result.now.ids c.deref_mut-parts.result.now.shared c.deref_mut-parts.result.now.committed c.deref_mut-parts.result.now.count (lent_holds g.S.Spec.object c.deref_mut-parts.ensures.value c.self.invariant) c.args.tx.now c.in-Some.course.now c.in-Some.ensures.course c.local.result.now c.local.ensures)))) in
    let p = is_of_other g.S.Spec.object c.deref_mut-parts.result.now.shape c.deref_mut-parts.result.now.transactions c.deref_mut-parts.result.now.ids c.deref_mut-parts.result.now.shared c.deref_mut-parts.result.now.committed c.deref_mut-parts.result.now.count (lent_holds g.S.Spec.object c.deref_mut-parts.ensures.value c.self.invariant) _ (lent_view c.deref_mut-parts.ensures.value c.self.view_is) c.args.tx.now c.args.id c.in-Ok.post j.1 in
    (j.0, seen_pull g.S.Spec.object c.deref_mut-parts.result.now.shape c.deref_mut-parts.result.now.transactions c.deref_mut-parts.result.now.ids c.deref_mut-parts.result.now.shared c.deref_mut-parts.result.now.committed c.deref_mut-parts.result.now.count _ (lent_view c.deref_mut-parts.ensures.value c.self.view_is) (lent_holds g.S.Spec.object c.deref_mut-parts.ensures.value c.self.invariant) c.args.tx.now c.args.id c.in-Ok.post _ p (relogged_is g.S.Spec.object c.deref_mut-parts.result.now.shape c.deref_mut-parts.result.now.transactions c.deref_mut-parts.result.now.ids c.deref_mut-parts.result.now.shared c.deref_mut-parts.result.now.committed c.deref_mut-parts.result.now.count _ (lent_view c.deref_mut-parts.ensures.value c.self.view_is) (lent_holds g.S.Spec.object c.deref_mut-parts.ensures.value c.self.invariant) c.args.tx.now c.in-Some.course.now c.append.new.self (coursed g.S.Spec.object c.deref_mut-parts.result.now.shape c.deref_mut-parts.result.now.transactions c.deref_mut-parts.result.now.ids c.deref_mut-parts.result.now.shared c.deref_mut-parts.result.now.committed c.deref_mut-parts.result.now.count (lent_holds g.S.Spec.object c.deref_mut-parts.ensures.value c.self.invariant) c.args.tx.now c.in-Some.course.now c.in-Some.ensures.course) (λ l. l ++ (record { id = (c.in-Ok.post).id; owner = (c.in-Ok.post).owner; mark = Pulled; op = (c.in-Ok.post).op }) ∷ []) c.in_ok-append.ensures.ok))
