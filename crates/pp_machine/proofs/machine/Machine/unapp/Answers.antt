use Rattle.std.proofs.Common.{Err, Ok, refl, subst, sym}
use Rattle.std.proofs.lemmas.Result.{err_from_is_err_and}
use Rattle.pp_model.specs.Config.{Unapp}
use Rattle.pp_machine.specs.Costs.{Costs}
use Rattle.pp_machine.specs.Judges.{JudgesUnapp}
use Rattle.pp_machine.proofs.Judged.{refused_cost, refused_step}
use Rattle.pp_machine.proofs.Judging.{unapp_1}
use Rattle.pp_machine.proofs.Keeping.{holds_unapp, seen_unapp}
use Rattle.pp_machine.proofs.Lent.{by_local, lent_holds, lent_view}
use Rattle.pp_machine.proofs.Opened.{uncoursed}
use Rattle.pp_machine.proofs.Undoing.{last_of, unapp_bound, unapp_cost, unapp_leaves, unapp_most}
use Rattle.pp_machine.proofs.Undoing.{unapplied}
use Rattle.pp_machine.proofs.machine.Machine.unapp.Goals as goal

pub returns-in_default-clause-effect : goal.returns-in_default-clause-effect
returns-in_default-clause-effect g c =
    refused_step g.S.Spec.object c.args.self _ (Unapp c.args.tx.now c.args.id) c.bare.result c.refused.result c.refused.ensures (unapp_1 g.S.Spec.object _ _ (lent_view c.deref_mut-parts.ensures.value c.self.view_is) c.args.tx.now c.args.id (uncoursed g.S.Spec.object c.deref_mut-parts.result.now.shape c.deref_mut-parts.result.now.transactions c.deref_mut-parts.result.now.ids c.deref_mut-parts.result.now.shared c.deref_mut-parts.result.now.committed c.deref_mut-parts.result.now.count (lent_holds g.S.Spec.object c.deref_mut-parts.ensures.value c.self.invariant) c.args.tx.now c.in_default.ensures.course) c.bare.result c.bare.ensures) (lent_view c.deref_mut-parts.ensures.value c.self.view_is)

pub returns-in_default-clause-cost : goal.returns-in_default-clause-cost
returns-in_default-clause-cost g c =
    refused_cost g.S.Placed.place_of c.args.self (Unapp c.args.tx.now c.args.id) c.bare.result c.refused.result c.refused.ensures _ _ refl

pub invariant_of-self-in-Err : goal.invariant_of-self-in-Err
invariant_of-self-in-Err g c = lent_holds g.S.Spec.object c.deref_mut-parts.ensures.value c.self.invariant

pub returns-in-Err-clause-effect : goal.returns-in-Err-clause-effect
returns-in-Err-clause-effect g c =
    refused_step g.S.Spec.object c.args.self _ (Unapp c.args.tx.now c.args.id) c.in-Err.refusal c.refused-in-Err.result c.refused-in-Err.ensures
    (by_local g.S.Spec.object c.deref_mut-parts.result.now (lent_view c.deref_mut-parts.ensures.value c.self.view_is) (lent_holds g.S.Spec.object c.deref_mut-parts.ensures.value c.self.invariant) c.args.tx.now c.in-Some.course.now c.in-Some.ensures.course (λ z. JudgesUnapp g.S.Spec.object z c.args.tx.now c.args.id (Err c.in-Err.refusal)) c.local.result.now c.local.ensures (λ m. c.in-Err.ensures m c.deref_mut-parts.result.now.shared c.args.tx.now))
    (lent_view c.deref_mut-parts.ensures.value c.self.view_is)

pub returns-in-Err-clause-cost : goal.returns-in-Err-clause-cost
returns-in-Err-clause-cost g c =
    refused_cost g.S.Placed.place_of c.args.self (Unapp c.args.tx.now c.args.id) c.in-Err.refusal c.refused-in-Err.result c.refused-in-Err.ensures _ _ refl

pub remove_at-requires : goal.remove_at-requires
remove_at-requires g c =
    let j = by_local g.S.Spec.object c.deref_mut-parts.result.now (lent_view c.deref_mut-parts.ensures.value c.self.view_is) (lent_holds g.S.Spec.object c.deref_mut-parts.ensures.value c.self.invariant) c.args.tx.now c.in-Some.course.now c.in-Some.ensures.course (λ z. JudgesUnapp g.S.Spec.object z c.args.tx.now c.args.id (Ok c.in-Ok.i)) c.local.result.now c.local.ensures (λ m. c.in-Ok.ensures m c.deref_mut-parts.result.now.shared c.args.tx.now) in
    let k = last_of g.S.Spec.object c.deref_mut-parts.result.now.shape c.deref_mut-parts.result.now.transactions c.deref_mut-parts.result.now.ids c.deref_mut-parts.result.now.shared c.deref_mut-parts.result.now.committed c.deref_mut-parts.result.now.count _ (lent_view c.deref_mut-parts.ensures.value c.self.view_is) (lent_holds g.S.Spec.object c.deref_mut-parts.ensures.value c.self.invariant) c.args.tx.now c.in-Ok.i j.1 in
    let q = unapp_leaves g.S.Spec.object c.deref_mut-parts.result.now.shape c.deref_mut-parts.result.now.transactions c.deref_mut-parts.result.now.ids c.deref_mut-parts.result.now.shared c.deref_mut-parts.result.now.committed c.deref_mut-parts.result.now.count _ (lent_view c.deref_mut-parts.ensures.value c.self.view_is) (lent_holds g.S.Spec.object c.deref_mut-parts.ensures.value c.self.invariant) c.args.tx.now c.in-Ok.i k in
    (c.args.tx.now, q.0, c.in-Some.ensures.place, q.1, q.2)

pub returns-in_err-_done-clause-cost : goal.returns-in_err-_done-clause-cost
returns-in_err-_done-clause-cost g c =
    let j = by_local g.S.Spec.object c.deref_mut-parts.result.now (lent_view c.deref_mut-parts.ensures.value c.self.view_is) (lent_holds g.S.Spec.object c.deref_mut-parts.ensures.value c.self.invariant) c.args.tx.now c.in-Some.course.now c.in-Some.ensures.course (λ z. JudgesUnapp g.S.Spec.object z c.args.tx.now c.args.id (Ok c.in-Ok.i)) c.local.result.now c.local.ensures (λ m. c.in-Ok.ensures m c.deref_mut-parts.result.now.shared c.args.tx.now) in
    let k = last_of g.S.Spec.object c.deref_mut-parts.result.now.shape c.deref_mut-parts.result.now.transactions c.deref_mut-parts.result.now.ids c.deref_mut-parts.result.now.shared c.deref_mut-parts.result.now.committed c.deref_mut-parts.result.now.count _ (lent_view c.deref_mut-parts.ensures.value c.self.view_is) (lent_holds g.S.Spec.object c.deref_mut-parts.ensures.value c.self.invariant) c.args.tx.now c.in-Ok.i j.1 in
    let p = err_from_is_err_and c.from_residual.result c.from_residual.ensures.1 in
    subst (λ z. Costs g.S.Placed.place_of c.args.self (Unapp c.args.tx.now c.args.id) z c.args.ticks.now c.remove_at.new.ticks) (sym p.1)
    (unapp_bound g.S.Spec.object c.deref_mut-parts.result.now.shape c.deref_mut-parts.result.now.transactions c.deref_mut-parts.result.now.ids c.deref_mut-parts.result.now.shared c.deref_mut-parts.result.now.committed c.deref_mut-parts.result.now.count _ (lent_view c.deref_mut-parts.ensures.value c.self.view_is) (lent_holds g.S.Spec.object c.deref_mut-parts.ensures.value c.self.invariant) g.S.Placed.place_of c.args.tx.now c.in-Ok.i k _ _ (c.in_err-_done.ensures.cost c.args.tx.now c.in-Some.ensures.place))

pub returns-in_err-_done-clause-bound : goal.returns-in_err-_done-clause-bound
returns-in_err-_done-clause-bound g c =
    let j = by_local g.S.Spec.object c.deref_mut-parts.result.now (lent_view c.deref_mut-parts.ensures.value c.self.view_is) (lent_holds g.S.Spec.object c.deref_mut-parts.ensures.value c.self.invariant) c.args.tx.now c.in-Some.course.now c.in-Some.ensures.course (λ z. JudgesUnapp g.S.Spec.object z c.args.tx.now c.args.id (Ok c.in-Ok.i)) c.local.result.now c.local.ensures (λ m. c.in-Ok.ensures m c.deref_mut-parts.result.now.shared c.args.tx.now) in
    let k = last_of g.S.Spec.object c.deref_mut-parts.result.now.shape c.deref_mut-parts.result.now.transactions c.deref_mut-parts.result.now.ids c.deref_mut-parts.result.now.shared c.deref_mut-parts.result.now.committed c.deref_mut-parts.result.now.count _ (lent_view c.deref_mut-parts.ensures.value c.self.view_is) (lent_holds g.S.Spec.object c.deref_mut-parts.ensures.value c.self.invariant) c.args.tx.now c.in-Ok.i j.1 in
    unapp_bound g.S.Spec.object c.deref_mut-parts.result.now.shape c.deref_mut-parts.result.now.transactions c.deref_mut-parts.result.now.ids c.deref_mut-parts.result.now.shared c.deref_mut-parts.result.now.committed c.deref_mut-parts.result.now.count _ (lent_view c.deref_mut-parts.ensures.value c.self.view_is) (lent_holds g.S.Spec.object c.deref_mut-parts.ensures.value c.self.invariant) g.S.Placed.place_of c.args.tx.now c.in-Ok.i k _ _ (c.in_err-_done.ensures.cost c.args.tx.now c.in-Some.ensures.place)

pub invariant_of-self-2 : goal.invariant_of-self-2
invariant_of-self-2 g c =
    let j = by_local g.S.Spec.object c.deref_mut-parts.result.now (lent_view c.deref_mut-parts.ensures.value c.self.view_is) (lent_holds g.S.Spec.object c.deref_mut-parts.ensures.value c.self.invariant) c.args.tx.now c.in-Some.course.now c.in-Some.ensures.course (λ z. JudgesUnapp g.S.Spec.object z c.args.tx.now c.args.id (Ok c.in-Ok.i)) c.local.result.now c.local.ensures (λ m. c.in-Ok.ensures m c.deref_mut-parts.result.now.shared c.args.tx.now) in
    let k = last_of g.S.Spec.object c.deref_mut-parts.result.now.shape c.deref_mut-parts.result.now.transactions c.deref_mut-parts.result.now.ids c.deref_mut-parts.result.now.shared c.deref_mut-parts.result.now.committed c.deref_mut-parts.result.now.count _ (lent_view c.deref_mut-parts.ensures.value c.self.view_is) (lent_holds g.S.Spec.object c.deref_mut-parts.ensures.value c.self.invariant) c.args.tx.now c.in-Ok.i j.1 in
    holds_unapp g.S.Spec.object c.deref_mut-parts.result.now.shape c.deref_mut-parts.result.now.transactions c.deref_mut-parts.result.now.ids c.deref_mut-parts.result.now.shared c.deref_mut-parts.result.now.committed c.deref_mut-parts.result.now.count _ (lent_view c.deref_mut-parts.ensures.value c.self.view_is) (lent_holds g.S.Spec.object c.deref_mut-parts.ensures.value c.self.invariant) c.args.tx.now c.args.id _ j.0
    (unapplied g.S.Spec.object c.deref_mut-parts.result.now.shape c.deref_mut-parts.result.now.transactions c.deref_mut-parts.result.now.ids c.deref_mut-parts.result.now.shared c.deref_mut-parts.result.now.committed c.deref_mut-parts.result.now.count _ (lent_view c.deref_mut-parts.ensures.value c.self.view_is) (lent_holds g.S.Spec.object c.deref_mut-parts.ensures.value c.self.invariant) c.args.tx.now c.in-Ok.i k c.remove_at.new.self c.in_ok-_done._done (c.in_ok-_done.ensures.removes c.args.tx.now c.in-Some.ensures.place))

pub returns-clause-effect : goal.returns-clause-effect
returns-clause-effect g c =
    let j = by_local g.S.Spec.object c.deref_mut-parts.result.now (lent_view c.deref_mut-parts.ensures.value c.self.view_is) (lent_holds g.S.Spec.object c.deref_mut-parts.ensures.value c.self.invariant) c.args.tx.now c.in-Some.course.now c.in-Some.ensures.course (λ z. JudgesUnapp g.S.Spec.object z c.args.tx.now c.args.id (Ok c.in-Ok.i)) c.local.result.now c.local.ensures (λ m. c.in-Ok.ensures m c.deref_mut-parts.result.now.shared c.args.tx.now) in
    let k = last_of g.S.Spec.object c.deref_mut-parts.result.now.shape c.deref_mut-parts.result.now.transactions c.deref_mut-parts.result.now.ids c.deref_mut-parts.result.now.shared c.deref_mut-parts.result.now.committed c.deref_mut-parts.result.now.count _ (lent_view c.deref_mut-parts.ensures.value c.self.view_is) (lent_holds g.S.Spec.object c.deref_mut-parts.ensures.value c.self.invariant) c.args.tx.now c.in-Ok.i j.1 in
    (j.0, seen_unapp g.S.Spec.object c.deref_mut-parts.result.now.shape c.deref_mut-parts.result.now.transactions c.deref_mut-parts.result.now.ids c.deref_mut-parts.result.now.shared c.deref_mut-parts.result.now.committed c.deref_mut-parts.result.now.count _ (lent_view c.deref_mut-parts.ensures.value c.self.view_is) (lent_holds g.S.Spec.object c.deref_mut-parts.ensures.value c.self.invariant) c.args.tx.now c.args.id _ (unapplied g.S.Spec.object c.deref_mut-parts.result.now.shape c.deref_mut-parts.result.now.transactions c.deref_mut-parts.result.now.ids c.deref_mut-parts.result.now.shared c.deref_mut-parts.result.now.committed c.deref_mut-parts.result.now.count _ (lent_view c.deref_mut-parts.ensures.value c.self.view_is) (lent_holds g.S.Spec.object c.deref_mut-parts.ensures.value c.self.invariant) c.args.tx.now c.in-Ok.i k c.remove_at.new.self c.in_ok-_done._done (c.in_ok-_done.ensures.removes c.args.tx.now c.in-Some.ensures.place)))

pub returns-clause-cost : goal.returns-clause-cost
returns-clause-cost g c =
    let j = by_local g.S.Spec.object c.deref_mut-parts.result.now (lent_view c.deref_mut-parts.ensures.value c.self.view_is) (lent_holds g.S.Spec.object c.deref_mut-parts.ensures.value c.self.invariant) c.args.tx.now c.in-Some.course.now c.in-Some.ensures.course (λ z. JudgesUnapp g.S.Spec.object z c.args.tx.now c.args.id (Ok c.in-Ok.i)) c.local.result.now c.local.ensures (λ m. c.in-Ok.ensures m c.deref_mut-parts.result.now.shared c.args.tx.now) in
    let k = last_of g.S.Spec.object c.deref_mut-parts.result.now.shape c.deref_mut-parts.result.now.transactions c.deref_mut-parts.result.now.ids c.deref_mut-parts.result.now.shared c.deref_mut-parts.result.now.committed c.deref_mut-parts.result.now.count _ (lent_view c.deref_mut-parts.ensures.value c.self.view_is) (lent_holds g.S.Spec.object c.deref_mut-parts.ensures.value c.self.invariant) c.args.tx.now c.in-Ok.i j.1 in
    unapp_cost g.S.Spec.object c.deref_mut-parts.result.now.shape c.deref_mut-parts.result.now.transactions c.deref_mut-parts.result.now.ids c.deref_mut-parts.result.now.shared c.deref_mut-parts.result.now.committed c.deref_mut-parts.result.now.count _ (lent_view c.deref_mut-parts.ensures.value c.self.view_is) (lent_holds g.S.Spec.object c.deref_mut-parts.ensures.value c.self.invariant) g.S.Placed.place_of c.args.tx.now c.in-Ok.i k c.remove_at.new.self c.in_ok-_done._done _ _ (c.in_ok-_done.ensures.removes c.args.tx.now c.in-Some.ensures.place) (c.in_ok-_done.ensures.cost c.args.tx.now c.in-Some.ensures.place)

pub returns-clause-bound : goal.returns-clause-bound
returns-clause-bound g c =
    let j = by_local g.S.Spec.object c.deref_mut-parts.result.now (lent_view c.deref_mut-parts.ensures.value c.self.view_is) (lent_holds g.S.Spec.object c.deref_mut-parts.ensures.value c.self.invariant) c.args.tx.now c.in-Some.course.now c.in-Some.ensures.course (λ z. JudgesUnapp g.S.Spec.object z c.args.tx.now c.args.id (Ok c.in-Ok.i)) c.local.result.now c.local.ensures (λ m. c.in-Ok.ensures m c.deref_mut-parts.result.now.shared c.args.tx.now) in
    let k = last_of g.S.Spec.object c.deref_mut-parts.result.now.shape c.deref_mut-parts.result.now.transactions c.deref_mut-parts.result.now.ids c.deref_mut-parts.result.now.shared c.deref_mut-parts.result.now.committed c.deref_mut-parts.result.now.count _ (lent_view c.deref_mut-parts.ensures.value c.self.view_is) (lent_holds g.S.Spec.object c.deref_mut-parts.ensures.value c.self.invariant) c.args.tx.now c.in-Ok.i j.1 in
    unapp_most g.S.Spec.object c.deref_mut-parts.result.now.shape c.deref_mut-parts.result.now.transactions c.deref_mut-parts.result.now.ids c.deref_mut-parts.result.now.shared c.deref_mut-parts.result.now.committed c.deref_mut-parts.result.now.count _ (lent_view c.deref_mut-parts.ensures.value c.self.view_is) (lent_holds g.S.Spec.object c.deref_mut-parts.ensures.value c.self.invariant) g.S.Placed.place_of c.args.tx.now c.in-Ok.i k c.remove_at.new.self c.in_ok-_done._done _ _ (c.in_ok-_done.ensures.removes c.args.tx.now c.in-Some.ensures.place) (c.in_ok-_done.ensures.cost c.args.tx.now c.in-Some.ensures.place)
