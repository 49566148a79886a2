use Rattle.std.proofs.Common.{Err, Ok, arith, refl, subst, sym}
use Rattle.std.proofs.lemmas.Result.{err_from_is_err_and}
use Rattle.pp_model.specs.Config.{Unpull}
use Rattle.pp_machine.specs.Costs.{Costs}
use Rattle.pp_machine.specs.Finding.{AreDistinct}
use Rattle.pp_machine.specs.Judges.{JudgesUnpull, Refuses}
use Rattle.pp_machine.proofs.Judged.{entry_at, refused_cost, refused_step}
use Rattle.pp_machine.proofs.Judging.{unpull_1}
use Rattle.pp_machine.proofs.Keeping.{holds_same, holds_unpull, seen_same, seen_unpull}
use Rattle.pp_machine.proofs.Keeping.{unpull_leaves}
use Rattle.pp_machine.proofs.Lent.{by_local, lent_holds, lent_view}
use Rattle.pp_machine.proofs.Opened.{coursed, distinct, uncoursed}
use Rattle.pp_machine.proofs.Undoing.{unpull_cost_differs, unpull_cost_done, unpull_cost_err}
use Rattle.pp_machine.proofs.Undoing.{unpull_cost_more, unpull_differs, unpull_done}
use Rattle.pp_machine.proofs.machine.Machine.unpull.Goals as goal

pub returns-in_default-clause-effect : goal.returns-in_default-clause-effect
returns-in_default-clause-effect g c =
    refused_step g.S.Spec.object c.args.self _ (Unpull c.args.tx.now c.args.id) c.bare.result c.refused.result c.refused.ensures (unpull_1 g.S.Spec.object _ _ (lent_view c.deref_mut-parts.ensures.value c.self.view_is) c.args.tx.now c.args.id (uncoursed g.S.Spec.object c.deref_mut-parts.result.now.shape c.deref_mut-parts.result.now.transactions c.deref_mut-parts.result.now.ids c.deref_mut-parts.result.now.shared c.deref_mut-parts.result.now.committed c.deref_mut-parts.result.now.count (lent_holds g.S.Spec.object c.deref_mut-parts.ensures.value c.self.invariant) c.args.tx.now c.in_default.ensures.course) c.bare.result c.bare.ensures) (lent_view c.deref_mut-parts.ensures.value c.self.view_is)

pub returns-in_default-clause-cost : goal.returns-in_default-clause-cost
returns-in_default-clause-cost g c =
    refused_cost g.S.Placed.place_of c.args.self (Unpull c.args.tx.now c.args.id) c.bare.result c.refused.result c.refused.ensures _ _ (omega arith, omega arith)

pub judge_unpull-requires : goal.judge_unpull-requires
judge_unpull-requires g c =
    let k = coursed g.S.Spec.object c.deref_mut-parts.result.now.shape c.deref_mut-parts.result.now.transactions c.deref_mut-parts.result.now.ids c.deref_mut-parts.result.now.shared c.deref_mut-parts.result.now.committed c.deref_mut-parts.result.now.count (lent_holds g.S.Spec.object c.deref_mut-parts.ensures.value c.self.invariant) c.args.tx.now c.in-Some.course.now c.in-Some.ensures.course in
    subst (λ l. AreDistinct l.1) (sym c.local.ensures) (distinct g.S.Spec.object c.deref_mut-parts.result.now.shape c.deref_mut-parts.result.now.transactions c.deref_mut-parts.result.now.ids c.deref_mut-parts.result.now.shared c.deref_mut-parts.result.now.committed c.deref_mut-parts.result.now.count (lent_holds g.S.Spec.object c.deref_mut-parts.ensures.value c.self.invariant) c.args.tx.now _ k.log)

pub invariant_of-self-in-Err : goal.invariant_of-self-in-Err
invariant_of-self-in-Err g c = lent_holds g.S.Spec.object c.deref_mut-parts.ensures.value c.self.invariant

pub returns-in-Err-clause-effect : goal.returns-in-Err-clause-effect
returns-in-Err-clause-effect g c =
    refused_step g.S.Spec.object c.args.self _ (Unpull c.args.tx.now c.args.id) c.in-Err.refusal c.refused-in-Err.result c.refused-in-Err.ensures
    (by_local g.S.Spec.object c.deref_mut-parts.result.now (lent_view c.deref_mut-parts.ensures.value c.self.view_is) (lent_holds g.S.Spec.object c.deref_mut-parts.ensures.value c.self.invariant) c.args.tx.now c.in-Some.course.now c.in-Some.ensures.course (λ z. JudgesUnpull g.S.Spec.object z c.args.tx.now c.args.id (Err c.in-Err.refusal)) c.local.result.now c.local.ensures (λ m. c.in-Err.ensures m c.deref_mut-parts.result.now.shared c.args.tx.now))
    (lent_view c.deref_mut-parts.ensures.value c.self.view_is)

pub returns-in-Err-clause-cost : goal.returns-in-Err-clause-cost
returns-in-Err-clause-cost g c =
    refused_cost g.S.Placed.place_of c.args.self (Unpull c.args.tx.now c.args.id) c.in-Err.refusal c.refused-in-Err.result c.refused-in-Err.ensures _ _ (omega arith, omega arith)

pub remove_at-requires : goal.remove_at-requires
remove_at-requires g c =
    let j = by_local g.S.Spec.object c.deref_mut-parts.result.now (lent_view c.deref_mut-parts.ensures.value c.self.view_is) (lent_holds g.S.Spec.object c.deref_mut-parts.ensures.value c.self.invariant) c.args.tx.now c.in-Some.course.now c.in-Some.ensures.course (λ z. JudgesUnpull g.S.Spec.object z c.args.tx.now c.args.id (Ok c.in-Ok.i)) c.local.result.now c.local.ensures (λ m. c.in-Ok.ensures m c.deref_mut-parts.result.now.shared c.args.tx.now) in
    let k = entry_at g.S.Spec.object c.deref_mut-parts.result.now.shape c.deref_mut-parts.result.now.transactions c.deref_mut-parts.result.now.ids c.deref_mut-parts.result.now.shared c.deref_mut-parts.result.now.committed c.deref_mut-parts.result.now.count (lent_holds g.S.Spec.object c.deref_mut-parts.ensures.value c.self.invariant) _ (lent_view c.deref_mut-parts.ensures.value c.self.view_is) c.args.tx.now c.args.id _ c.in-Ok.i j.0 j.1 in
    let q = unpull_leaves g.S.Spec.object c.deref_mut-parts.result.now.shape c.deref_mut-parts.result.now.transactions c.deref_mut-parts.result.now.ids c.deref_mut-parts.result.now.shared c.deref_mut-parts.result.now.committed c.deref_mut-parts.result.now.count _ (lent_view c.deref_mut-parts.ensures.value c.self.view_is) (lent_holds g.S.Spec.object c.deref_mut-parts.ensures.value c.self.invariant) c.args.tx.now c.args.id k.log k.has j.0 c.in-Ok.i k.found k.here in
    (c.args.tx.now, q.0, c.in-Some.ensures.place, q.1, q.2)

pub returns-in_err-removed-clause-cost : goal.returns-in_err-removed-clause-cost
returns-in_err-removed-clause-cost g c =
    let j = by_local g.S.Spec.object c.deref_mut-parts.result.now (lent_view c.deref_mut-parts.ensures.value c.self.view_is) (lent_holds g.S.Spec.object c.deref_mut-parts.ensures.value c.self.invariant) c.args.tx.now c.in-Some.course.now c.in-Some.ensures.course (λ z. JudgesUnpull g.S.Spec.object z c.args.tx.now c.args.id (Ok c.in-Ok.i)) c.local.result.now c.local.ensures (λ m. c.in-Ok.ensures m c.deref_mut-parts.result.now.shared c.args.tx.now) in
    let k = entry_at g.S.Spec.object c.deref_mut-parts.result.now.shape c.deref_mut-parts.result.now.transactions c.deref_mut-parts.result.now.ids c.deref_mut-parts.result.now.shared c.deref_mut-parts.result.now.committed c.deref_mut-parts.result.now.count (lent_holds g.S.Spec.object c.deref_mut-parts.ensures.value c.self.invariant) _ (lent_view c.deref_mut-parts.ensures.value c.self.view_is) c.args.tx.now c.args.id _ c.in-Ok.i j.0 j.1 in
    let q = err_from_is_err_and c.from_residual.result c.from_residual.ensures.1 in
    subst (λ z. Costs g.S.Placed.place_of c.args.self (Unpull c.args.tx.now c.args.id) z c.args.ticks.now c.remove_at.new.ticks) (sym q.1)
    (unpull_cost_err g.S.Spec.object c.deref_mut-parts.result.now.shape c.deref_mut-parts.result.now.transactions c.deref_mut-parts.result.now.ids c.deref_mut-parts.result.now.shared c.deref_mut-parts.result.now.committed c.deref_mut-parts.result.now.count _ (lent_view c.deref_mut-parts.ensures.value c.self.view_is) (lent_holds g.S.Spec.object c.deref_mut-parts.ensures.value c.self.invariant) c.args.tx.now c.args.id c.in-Ok.i j.0 k g.S.Placed.place_of _ _ (c.in_err-removed.ensures.cost c.args.tx.now c.in-Some.ensures.place))

pub returns-in_err-removed-clause-bound : goal.returns-in_err-removed-clause-bound
returns-in_err-removed-clause-bound g c =
    let j = by_local g.S.Spec.object c.deref_mut-parts.result.now (lent_view c.deref_mut-parts.ensures.value c.self.view_is) (lent_holds g.S.Spec.object c.deref_mut-parts.ensures.value c.self.invariant) c.args.tx.now c.in-Some.course.now c.in-Some.ensures.course (λ z. JudgesUnpull g.S.Spec.object z c.args.tx.now c.args.id (Ok c.in-Ok.i)) c.local.result.now c.local.ensures (λ m. c.in-Ok.ensures m c.deref_mut-parts.result.now.shared c.args.tx.now) in
    let k = entry_at g.S.Spec.object c.deref_mut-parts.result.now.shape c.deref_mut-parts.result.now.transactions c.deref_mut-parts.result.now.ids c.deref_mut-parts.result.now.shared c.deref_mut-parts.result.now.committed c.deref_mut-parts.result.now.count (lent_holds g.S.Spec.object c.deref_mut-parts.ensures.value c.self.invariant) _ (lent_view c.deref_mut-parts.ensures.value c.self.view_is) c.args.tx.now c.args.id _ c.in-Ok.i j.0 j.1 in
    unpull_cost_err g.S.Spec.object c.deref_mut-parts.result.now.shape c.deref_mut-parts.result.now.transactions c.deref_mut-parts.result.now.ids c.deref_mut-parts.result.now.shared c.deref_mut-parts.result.now.committed c.deref_mut-parts.result.now.count _ (lent_view c.deref_mut-parts.ensures.value c.self.view_is) (lent_holds g.S.Spec.object c.deref_mut-parts.ensures.value c.self.invariant) c.args.tx.now c.args.id c.in-Ok.i j.0 k g.S.Placed.place_of _ _ (c.in_err-removed.ensures.cost c.args.tx.now c.in-Some.ensures.place)

pub invariant_of-self-in-Done : goal.invariant_of-self-in-Done
invariant_of-self-in-Done g c =
    let j = by_local g.S.Spec.object c.deref_mut-parts.result.now (lent_view c.deref_mut-parts.ensures.value c.self.view_is) (lent_holds g.S.Spec.object c.deref_mut-parts.ensures.value c.self.invariant) c.args.tx.now c.in-Some.course.now c.in-Some.ensures.course (λ z. JudgesUnpull g.S.Spec.object z c.args.tx.now c.args.id (Ok c.in-Ok.i)) c.local.result.now c.local.ensures (λ m. c.in-Ok.ensures m c.deref_mut-parts.result.now.shared c.args.tx.now) in
    let k = entry_at g.S.Spec.object c.deref_mut-parts.result.now.shape c.deref_mut-parts.result.now.transactions c.deref_mut-parts.result.now.ids c.deref_mut-parts.result.now.shared c.deref_mut-parts.result.now.committed c.deref_mut-parts.result.now.count (lent_holds g.S.Spec.object c.deref_mut-parts.ensures.value c.self.invariant) _ (lent_view c.deref_mut-parts.ensures.value c.self.view_is) c.args.tx.now c.args.id _ c.in-Ok.i j.0 j.1 in
    let d = unpull_done g.S.Spec.object c.deref_mut-parts.result.now.shape c.deref_mut-parts.result.now.transactions c.deref_mut-parts.result.now.ids c.deref_mut-parts.result.now.shared c.deref_mut-parts.result.now.committed c.deref_mut-parts.result.now.count _ (lent_view c.deref_mut-parts.ensures.value c.self.view_is) (lent_holds g.S.Spec.object c.deref_mut-parts.ensures.value c.self.invariant) c.args.tx.now c.args.id c.in-Ok.i j.0 k c.remove_at.new.self c.in_ok-removed.removed c.in-Done.is (c.in_ok-removed.ensures.removes c.args.tx.now c.in-Some.ensures.place) in
    holds_unpull g.S.Spec.object c.deref_mut-parts.result.now.shape c.deref_mut-parts.result.now.transactions c.deref_mut-parts.result.now.ids c.deref_mut-parts.result.now.shared c.deref_mut-parts.result.now.committed c.deref_mut-parts.result.now.count _ (lent_view c.deref_mut-parts.ensures.value c.self.view_is) (lent_holds g.S.Spec.object c.deref_mut-parts.ensures.value c.self.invariant) c.args.tx.now c.args.id _ d.1 d.0

pub returns-in-Done-clause-effect : goal.returns-in-Done-clause-effect
returns-in-Done-clause-effect g c =
    let j = by_local g.S.Spec.object c.deref_mut-parts.result.now (lent_view c.deref_mut-parts.ensures.value c.self.view_is) (lent_holds g.S.Spec.object c.deref_mut-parts.ensures.value c.self.invariant) c.args.tx.now c.in-Some.course.now c.in-Some.ensures.course (λ z. JudgesUnpull g.S.Spec.object z c.args.tx.now c.args.id (Ok c.in-Ok.i)) c.local.result.now c.local.ensures (λ m. c.in-Ok.ensures m c.deref_mut-parts.result.now.shared c.args.tx.now) in
    let k = entry_at g.S.Spec.object c.deref_mut-parts.result.now.shape c.deref_mut-parts.result.now.transactions c.deref_mut-parts.result.now.ids c.deref_mut-parts.result.now.shared c.deref_mut-parts.result.now.committed c.deref_mut-parts.result.now.count (lent_holds g.S.Spec.object c.deref_mut-parts.ensures.value c.self.invariant) _ (lent_view c.deref_mut-parts.ensures.value c.self.view_is) c.args.tx.now c.args.id _ c.in-Ok.i j.0 j.1 in
    let d = unpull_done g.S.Spec.object c.deref_mut-parts.result.now.shape c.deref_mut-parts.result.now.transactions c.deref_mut-parts.result.now.ids c.deref_mut-parts.result.now.shared c.deref_mut-parts.result.now.committed c.deref_mut-parts.result.now.count _ (lent_view c.deref_mut-parts.ensures.value c.self.view_is) (lent_holds g.S.Spec.object c.deref_mut-parts.ensures.value c.self.invariant) c.args.tx.now c.args.id c.in-Ok.i j.0 k c.remove_at.new.self c.in_ok-removed.removed c.in-Done.is (c.in_ok-removed.ensures.removes c.args.tx.now c.in-Some.ensures.place) in
    (d.1, seen_unpull g.S.Spec.object c.deref_mut-parts.result.now.shape c.deref_mut-parts.result.now.transactions c.deref_mut-parts.result.now.ids c.deref_mut-parts.result.now.shared c.deref_mut-parts.result.now.committed c.deref_mut-parts.result.now.count _ (lent_view c.deref_mut-parts.ensures.value c.self.view_is) (lent_holds g.S.Spec.object c.deref_mut-parts.ensures.value c.self.invariant) c.args.tx.now c.args.id _ d.0)

pub returns-in-Done-clause-cost : goal.returns-in-Done-clause-cost
returns-in-Done-clause-cost g c =
    let j = by_local g.S.Spec.object c.deref_mut-parts.result.now (lent_view c.deref_mut-parts.ensures.value c.self.view_is) (lent_holds g.S.Spec.object c.deref_mut-parts.ensures.value c.self.invariant) c.args.tx.now c.in-Some.course.now c.in-Some.ensures.course (λ z. JudgesUnpull g.S.Spec.object z c.args.tx.now c.args.id (Ok c.in-Ok.i)) c.local.result.now c.local.ensures (λ m. c.in-Ok.ensures m c.deref_mut-parts.result.now.shared c.args.tx.now) in
    let k = entry_at g.S.Spec.object c.deref_mut-parts.result.now.shape c.deref_mut-parts.result.now.transactions c.deref_mut-parts.result.now.ids c.deref_mut-parts.result.now.shared c.deref_mut-parts.result.now.committed c.deref_mut-parts.result.now.count (lent_holds g.S.Spec.object c.deref_mut-parts.ensures.value c.self.invariant) _ (lent_view c.deref_mut-parts.ensures.value c.self.view_is) c.args.tx.now c.args.id _ c.in-Ok.i j.0 j.1 in
    unpull_cost_done g.S.Spec.object c.deref_mut-parts.result.now.shape c.deref_mut-parts.result.now.transactions c.deref_mut-parts.result.now.ids c.deref_mut-parts.result.now.shared c.deref_mut-parts.result.now.committed c.deref_mut-parts.result.now.count _ (lent_view c.deref_mut-parts.ensures.value c.self.view_is) (lent_holds g.S.Spec.object c.deref_mut-parts.ensures.value c.self.invariant) c.args.tx.now c.args.id c.in-Ok.i j.0 k g.S.Placed.place_of c.in_ok-removed.removed _ _ c.in-Done.is (c.in_ok-removed.ensures.cost c.args.tx.now c.in-Some.ensures.place)

pub returns-in-Done-clause-bound : goal.returns-in-Done-clause-bound
returns-in-Done-clause-bound g c =
    let j = by_local g.S.Spec.object c.deref_mut-parts.result.now (lent_view c.deref_mut-parts.ensures.value c.self.view_is) (lent_holds g.S.Spec.object c.deref_mut-parts.ensures.value c.self.invariant) c.args.tx.now c.in-Some.course.now c.in-Some.ensures.course (λ z. JudgesUnpull g.S.Spec.object z c.args.tx.now c.args.id (Ok c.in-Ok.i)) c.local.result.now c.local.ensures (λ m. c.in-Ok.ensures m c.deref_mut-parts.result.now.shared c.args.tx.now) in
    let k = entry_at g.S.Spec.object c.deref_mut-parts.result.now.shape c.deref_mut-parts.result.now.transactions c.deref_mut-parts.result.now.ids c.deref_mut-parts.result.now.shared c.deref_mut-parts.result.now.committed c.deref_mut-parts.result.now.count (lent_holds g.S.Spec.object c.deref_mut-parts.ensures.value c.self.invariant) _ (lent_view c.deref_mut-parts.ensures.value c.self.view_is) c.args.tx.now c.args.id _ c.in-Ok.i j.0 j.1 in
    unpull_cost_more g.S.Spec.object c.deref_mut-parts.result.now.shape c.deref_mut-parts.result.now.transactions c.deref_mut-parts.result.now.ids c.deref_mut-parts.result.now.shared c.deref_mut-parts.result.now.committed c.deref_mut-parts.result.now.count _ (lent_view c.deref_mut-parts.ensures.value c.self.view_is) (lent_holds g.S.Spec.object c.deref_mut-parts.ensures.value c.self.invariant) c.args.tx.now c.args.id c.in-Ok.i j.0 k g.S.Placed.place_of c.in_ok-removed.removed _ _ c.in-Done.is (c.in_ok-removed.ensures.cost c.args.tx.now c.in-Some.ensures.place)

pub invariant_of-self-in-Differs : goal.invariant_of-self-in-Differs
invariant_of-self-in-Differs g c =
    let j = by_local g.S.Spec.object c.deref_mut-parts.result.now (lent_view c.deref_mut-parts.ensures.value c.self.view_is) (lent_holds g.S.Spec.object c.deref_mut-parts.ensures.value c.self.invariant) c.args.tx.now c.in-Some.course.now c.in-Some.ensures.course (λ z. JudgesUnpull g.S.Spec.object z c.args.tx.now c.args.id (Ok c.in-Ok.i)) c.local.result.now c.local.ensures (λ m. c.in-Ok.ensures m c.deref_mut-parts.result.now.shared c.args.tx.now) in
    let k = entry_at g.S.Spec.object c.deref_mut-parts.result.now.shape c.deref_mut-parts.result.now.transactions c.deref_mut-parts.result.now.ids c.deref_mut-parts.result.now.shared c.deref_mut-parts.result.now.committed c.deref_mut-parts.result.now.count (lent_holds g.S.Spec.object c.deref_mut-parts.ensures.value c.self.invariant) _ (lent_view c.deref_mut-parts.ensures.value c.self.view_is) c.args.tx.now c.args.id _ c.in-Ok.i j.0 j.1 in
    let d = unpull_differs g.S.Spec.object c.deref_mut-parts.result.now.shape c.deref_mut-parts.result.now.transactions c.deref_mut-parts.result.now.ids c.deref_mut-parts.result.now.shared c.deref_mut-parts.result.now.committed c.deref_mut-parts.result.now.count _ (lent_view c.deref_mut-parts.ensures.value c.self.view_is) (lent_holds g.S.Spec.object c.deref_mut-parts.ensures.value c.self.invariant) c.args.tx.now c.args.id c.in-Ok.i j.0 k c.remove_at.new.self c.in_ok-removed.removed _ _ c.in-Differs.is (c.in_ok-removed.ensures.removes c.args.tx.now c.in-Some.ensures.place) in
    holds_same g.S.Spec.object c.deref_mut-parts.result.now.shape c.deref_mut-parts.result.now.transactions c.deref_mut-parts.result.now.ids c.deref_mut-parts.result.now.shared c.deref_mut-parts.result.now.committed c.deref_mut-parts.result.now.count _ (lent_view c.deref_mut-parts.ensures.value c.self.view_is) (lent_holds g.S.Spec.object c.deref_mut-parts.ensures.value c.self.invariant) _ _ d.0 refl

pub returns-in-Differs-clause-effect : goal.returns-in-Differs-clause-effect
returns-in-Differs-clause-effect g c =
    let j = by_local g.S.Spec.object c.deref_mut-parts.result.now (lent_view c.deref_mut-parts.ensures.value c.self.view_is) (lent_holds g.S.Spec.object c.deref_mut-parts.ensures.value c.self.invariant) c.args.tx.now c.in-Some.course.now c.in-Some.ensures.course (λ z. JudgesUnpull g.S.Spec.object z c.args.tx.now c.args.id (Ok c.in-Ok.i)) c.local.result.now c.local.ensures (λ m. c.in-Ok.ensures m c.deref_mut-parts.result.now.shared c.args.tx.now) in
    let k = entry_at g.S.Spec.object c.deref_mut-parts.result.now.shape c.deref_mut-parts.result.now.transactions c.deref_mut-parts.result.now.ids c.deref_mut-parts.result.now.shared c.deref_mut-parts.result.now.committed c.deref_mut-parts.result.now.count (lent_holds g.S.Spec.object c.deref_mut-parts.ensures.value c.self.invariant) _ (lent_view c.deref_mut-parts.ensures.value c.self.view_is) c.args.tx.now c.args.id _ c.in-Ok.i j.0 j.1 in
    let d = unpull_differs g.S.Spec.object c.deref_mut-parts.result.now.shape c.deref_mut-parts.result.now.transactions c.deref_mut-parts.result.now.ids c.deref_mut-parts.result.now.shared c.deref_mut-parts.result.now.committed c.deref_mut-parts.result.now.count _ (lent_view c.deref_mut-parts.ensures.value c.self.view_is) (lent_holds g.S.Spec.object c.deref_mut-parts.ensures.value c.self.invariant) c.args.tx.now c.args.id c.in-Ok.i j.0 k c.remove_at.new.self c.in_ok-removed.removed _ _ c.in-Differs.is (c.in_ok-removed.ensures.removes c.args.tx.now c.in-Some.ensures.place) in
    refused_step g.S.Spec.object c.args.self _ (Unpull c.args.tx.now c.args.id) c.told-refusal.result c.refused-in-Differs.result c.refused-in-Differs.ensures
    (subst (λ r. Refuses g.S.Spec.object c.args.self (Unpull c.args.tx.now c.args.id) r) (sym c.told-refusal.ensures) (record { breaks = d.1; not_zero = omega arith; is_evidence = d.2 }))
    (seen_same g.S.Spec.object c.deref_mut-parts.result.now.shape c.deref_mut-parts.result.now.transactions c.deref_mut-parts.result.now.ids c.deref_mut-parts.result.now.shared c.deref_mut-parts.result.now.committed c.deref_mut-parts.result.now.count _ (lent_view c.deref_mut-parts.ensures.value c.self.view_is) (lent_holds g.S.Spec.object c.deref_mut-parts.ensures.value c.self.invariant) _ _ d.0 refl)

pub returns-in-Differs-clause-cost : goal.returns-in-Differs-clause-cost
returns-in-Differs-clause-cost g c =
    let j = by_local g.S.Spec.object c.deref_mut-parts.result.now (lent_view c.deref_mut-parts.ensures.value c.self.view_is) (lent_holds g.S.Spec.object c.deref_mut-parts.ensures.value c.self.invariant) c.args.tx.now c.in-Some.course.now c.in-Some.ensures.course (λ z. JudgesUnpull g.S.Spec.object z c.args.tx.now c.args.id (Ok c.in-Ok.i)) c.local.result.now c.local.ensures (λ m. c.in-Ok.ensures m c.deref_mut-parts.result.now.shared c.args.tx.now) in
    let k = entry_at g.S.Spec.object c.deref_mut-parts.result.now.shape c.deref_mut-parts.result.now.transactions c.deref_mut-parts.result.now.ids c.deref_mut-parts.result.now.shared c.deref_mut-parts.result.now.committed c.deref_mut-parts.result.now.count (lent_holds g.S.Spec.object c.deref_mut-parts.ensures.value c.self.invariant) _ (lent_view c.deref_mut-parts.ensures.value c.self.view_is) c.args.tx.now c.args.id _ c.in-Ok.i j.0 j.1 in
    refused_cost g.S.Placed.place_of c.args.self (Unpull c.args.tx.now c.args.id) c.told-refusal.result c.refused-in-Differs.result c.refused-in-Differs.ensures _ _
    (unpull_cost_differs g.S.Spec.object c.deref_mut-parts.result.now.shape c.deref_mut-parts.result.now.transactions c.deref_mut-parts.result.now.ids c.deref_mut-parts.result.now.shared c.deref_mut-parts.result.now.committed c.deref_mut-parts.result.now.count _ (lent_view c.deref_mut-parts.ensures.value c.self.view_is) (lent_holds g.S.Spec.object c.deref_mut-parts.ensures.value c.self.invariant) c.args.tx.now c.args.id c.in-Ok.i j.0 k g.S.Placed.place_of c.in_ok-removed.removed _ _ _ _ c.in-Differs.is (c.in_ok-removed.ensures.cost c.args.tx.now c.in-Some.ensures.place))

pub returns-in-Differs-clause-bound : goal.returns-in-Differs-clause-bound
returns-in-Differs-clause-bound g c =
    let j = by_local g.S.Spec.object c.deref_mut-parts.result.now (lent_view c.deref_mut-parts.ensures.value c.self.view_is) (lent_holds g.S.Spec.object c.deref_mut-parts.ensures.value c.self.invariant) c.args.tx.now c.in-Some.course.now c.in-Some.ensures.course (λ z. JudgesUnpull g.S.Spec.object z c.args.tx.now c.args.id (Ok c.in-Ok.i)) c.local.result.now c.local.ensures (λ m. c.in-Ok.ensures m c.deref_mut-parts.result.now.shared c.args.tx.now) in
    let k = entry_at g.S.Spec.object c.deref_mut-parts.result.now.shape c.deref_mut-parts.result.now.transactions c.deref_mut-parts.result.now.ids c.deref_mut-parts.result.now.shared c.deref_mut-parts.result.now.committed c.deref_mut-parts.result.now.count (lent_holds g.S.Spec.object c.deref_mut-parts.ensures.value c.self.invariant) _ (lent_view c.deref_mut-parts.ensures.value c.self.view_is) c.args.tx.now c.args.id _ c.in-Ok.i j.0 j.1 in
    (unpull_cost_differs g.S.Spec.object c.deref_mut-parts.result.now.shape c.deref_mut-parts.result.now.transactions c.deref_mut-parts.result.now.ids c.deref_mut-parts.result.now.shared c.deref_mut-parts.result.now.committed c.deref_mut-parts.result.now.count _ (lent_view c.deref_mut-parts.ensures.value c.self.view_is) (lent_holds g.S.Spec.object c.deref_mut-parts.ensures.value c.self.invariant) c.args.tx.now c.args.id c.in-Ok.i j.0 k g.S.Placed.place_of c.in_ok-removed.removed _ _ _ _ c.in-Differs.is (c.in_ok-removed.ensures.cost c.args.tx.now c.in-Some.ensures.place)).1
