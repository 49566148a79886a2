use Rattle.std.proofs.Common.{◌≡◌, ◌+◌, None, Some, ap, arith, option_map, refl, slice_get, subst, sym}
use Rattle.std.proofs.Common.{◌∙◌}
use Rattle.std.proofs.lemmas.Result.{err_from_is_err_and}
use Rattle.pp_model.specs.Config.{Unpush, Unpushed, set_mark}
use Rattle.pp_machine.specs.Costs.{Costs}
use Rattle.pp_machine.specs.Judges.{Refuses}
use Rattle.pp_machine.specs.Machines.{Holds, Seen, config_of, stepped}
use Rattle.pp_machine.specs.Transactions.{HasOwn, course_of, open_at, with_course}
use Rattle.pp_machine.proofs.Cuts.{mapped_none}
use Rattle.pp_machine.proofs.Judged.{refused_cost, refused_step}
use Rattle.pp_machine.proofs.Keeping.{holds_same, holds_unpush, of_course, owns, pushed_own}
use Rattle.pp_machine.proofs.Keeping.{relogged_is, seen_same, seen_unpush}
use Rattle.pp_machine.proofs.Lent.{lent_holds, lent_view}
use Rattle.pp_machine.proofs.Opened.{coursed}
use Rattle.pp_machine.proofs.Undoing.{posted_within, pushed_of, unmarked, unpush_cost_differs}
use Rattle.pp_machine.proofs.Undoing.{unpush_cost_done, unpush_cost_err, unpush_cost_more}
use Rattle.pp_machine.proofs.Undoing.{unpush_differs, unpush_done}
use Rattle.pp_machine.proofs.machine.Machine.take_back.Goals as goal

pub remove-requires : goal.remove-requires
remove-requires g c =
    let k = pushed_of g.S.Spec.object c.into_inner-parts.result.shape c.into_inner-parts.result.transactions c.into_inner-parts.result.ids c.into_inner-parts.result.shared c.into_inner-parts.result.committed c.into_inner-parts.result.count _ (lent_view c.into_inner-parts.ensures c.self.view_is) (lent_holds g.S.Spec.object c.into_inner-parts.ensures c.self.invariant) c.args.tx.now c.args.id c.args.i c.args.posted c.requires.found in
    posted_within g.S.Spec.object c.into_inner-parts.result.shape c.into_inner-parts.result.transactions c.into_inner-parts.result.ids c.into_inner-parts.result.shared c.into_inner-parts.result.committed c.into_inner-parts.result.count _ (lent_view c.into_inner-parts.ensures c.self.view_is) (lent_holds g.S.Spec.object c.into_inner-parts.ensures c.self.invariant) c.args.tx.now c.args.id c.args.i c.args.posted k

pub returns-in_err-shared-clause-cost : goal.returns-in_err-shared-clause-cost
returns-in_err-shared-clause-cost g c =
    let k = pushed_of g.S.Spec.object c.into_inner-parts.result.shape c.into_inner-parts.result.transactions c.into_inner-parts.result.ids c.into_inner-parts.result.shared c.into_inner-parts.result.committed c.into_inner-parts.result.count _ (lent_view c.into_inner-parts.ensures c.self.view_is) (lent_holds g.S.Spec.object c.into_inner-parts.ensures c.self.invariant) c.args.tx.now c.args.id c.args.i c.args.posted c.requires.found in
    let q = err_from_is_err_and c.from_residual.result c.from_residual.ensures.1 in
    subst (λ z. Costs g.S.Placed.place_of c.args.self (Unpush c.args.tx.now c.args.id) z c.args.ticks.now c.remove.new.ticks) (sym q.1) (unpush_cost_err g.S.Spec.object c.into_inner-parts.result.shape c.into_inner-parts.result.transactions c.into_inner-parts.result.ids c.into_inner-parts.result.shared c.into_inner-parts.result.committed c.into_inner-parts.result.count _ (lent_view c.into_inner-parts.ensures c.self.view_is) (lent_holds g.S.Spec.object c.into_inner-parts.ensures c.self.invariant) c.args.tx.now c.args.id c.args.i c.args.posted k g.S.Placed.place_of _ _ c.remove.ensures.bound)

pub returns-in_err-shared-clause-bound : goal.returns-in_err-shared-clause-bound
returns-in_err-shared-clause-bound g c =
    let k = pushed_of g.S.Spec.object c.into_inner-parts.result.shape c.into_inner-parts.result.transactions c.into_inner-parts.result.ids c.into_inner-parts.result.shared c.into_inner-parts.result.committed c.into_inner-parts.result.count _ (lent_view c.into_inner-parts.ensures c.self.view_is) (lent_holds g.S.Spec.object c.into_inner-parts.ensures c.self.invariant) c.args.tx.now c.args.id c.args.i c.args.posted c.requires.found in
    unpush_cost_err g.S.Spec.object c.into_inner-parts.result.shape c.into_inner-parts.result.transactions c.into_inner-parts.result.ids c.into_inner-parts.result.shared c.into_inner-parts.result.committed c.into_inner-parts.result.count _ (lent_view c.into_inner-parts.ensures c.self.view_is) (lent_holds g.S.Spec.object c.into_inner-parts.ensures c.self.invariant) c.args.tx.now c.args.id c.args.i c.args.posted k g.S.Placed.place_of _ _ c.remove.ensures.bound

pub returns-in_err-parts-clause-cost : goal.returns-in_err-parts-clause-cost
returns-in_err-parts-clause-cost g c =
    let k = pushed_of g.S.Spec.object c.into_inner-parts.result.shape c.into_inner-parts.result.transactions c.into_inner-parts.result.ids c.into_inner-parts.result.shared c.into_inner-parts.result.committed c.into_inner-parts.result.count _ (lent_view c.into_inner-parts.ensures c.self.view_is) (lent_holds g.S.Spec.object c.into_inner-parts.ensures c.self.invariant) c.args.tx.now c.args.id c.args.i c.args.posted c.requires.found in
    let q = err_from_is_err_and c.from_residual-in_err-parts.result c.from_residual-in_err-parts.ensures.1 in
    subst (λ z. Costs g.S.Placed.place_of c.args.self (Unpush c.args.tx.now c.args.id) z c.args.ticks.now c.remove.new.ticks) (sym q.1) (unpush_cost_err g.S.Spec.object c.into_inner-parts.result.shape c.into_inner-parts.result.transactions c.into_inner-parts.result.ids c.into_inner-parts.result.shared c.into_inner-parts.result.committed c.into_inner-parts.result.count _ (lent_view c.into_inner-parts.ensures c.self.view_is) (lent_holds g.S.Spec.object c.into_inner-parts.ensures c.self.invariant) c.args.tx.now c.args.id c.args.i c.args.posted k g.S.Placed.place_of _ _ c.remove.ensures.bound)

pub returns-in_err-parts-clause-bound : goal.returns-in_err-parts-clause-bound
returns-in_err-parts-clause-bound g c =
    let k = pushed_of g.S.Spec.object c.into_inner-parts.result.shape c.into_inner-parts.result.transactions c.into_inner-parts.result.ids c.into_inner-parts.result.shared c.into_inner-parts.result.committed c.into_inner-parts.result.count _ (lent_view c.into_inner-parts.ensures c.self.view_is) (lent_holds g.S.Spec.object c.into_inner-parts.ensures c.self.invariant) c.args.tx.now c.args.id c.args.i c.args.posted c.requires.found in
    unpush_cost_err g.S.Spec.object c.into_inner-parts.result.shape c.into_inner-parts.result.transactions c.into_inner-parts.result.ids c.into_inner-parts.result.shared c.into_inner-parts.result.committed c.into_inner-parts.result.count _ (lent_view c.into_inner-parts.ensures c.self.view_is) (lent_holds g.S.Spec.object c.into_inner-parts.ensures c.self.invariant) c.args.tx.now c.args.id c.args.i c.args.posted k g.S.Placed.place_of _ _ c.remove.ensures.bound

pub unreachable-requires : goal.unreachable-requires
unreachable-requires g c =
    let k = pushed_of g.S.Spec.object c.into_inner-parts.result.shape c.into_inner-parts.result.transactions c.into_inner-parts.result.ids c.into_inner-parts.result.shared c.into_inner-parts.result.committed c.into_inner-parts.result.count _ (lent_view c.into_inner-parts.ensures c.self.view_is) (lent_holds g.S.Spec.object c.into_inner-parts.ensures c.self.invariant) c.args.tx.now c.args.id c.args.i c.args.posted c.requires.found in
    let r = c.deref_mut-inside.ensures.value ∙ c.in_ok-parts.ensures.ok in
    let e = subst (λ z. None ≡ option_map course_of (open_at c.args.tx.now z.transactions.opened)) r c.in_default.ensures.course in
    let z : None ≡ Some _ = sym (mapped_none course_of _ e) ∙ ((k.has).has).at in cc

pub mark-requires-clause-own : goal.mark-requires-clause-own
mark-requires-clause-own g c =
    let k = pushed_of g.S.Spec.object c.into_inner-parts.result.shape c.into_inner-parts.result.transactions c.into_inner-parts.result.ids c.into_inner-parts.result.shared c.into_inner-parts.result.committed c.into_inner-parts.result.count _ (lent_view c.into_inner-parts.ensures c.self.view_is) (lent_holds g.S.Spec.object c.into_inner-parts.ensures c.self.invariant) c.args.tx.now c.args.id c.args.i c.args.posted c.requires.found in
    let r = c.deref_mut-inside.ensures.value ∙ c.in_ok-parts.ensures.ok in
    let e = subst (λ z. Some c.in-Some.course.now ≡ option_map course_of (open_at c.args.tx.now z.transactions.opened)) r c.in-Some.ensures.course in
    let h = coursed g.S.Spec.object c.into_inner-parts.result.shape c.into_inner-parts.result.transactions c.into_inner-parts.result.ids c.into_inner-parts.result.shared c.into_inner-parts.result.committed c.into_inner-parts.result.count (lent_holds g.S.Spec.object c.into_inner-parts.ensures c.self.invariant) c.args.tx.now c.in-Some.course.now e in
    let q = owns g.S.Spec.object c.into_inner-parts.result.shape c.into_inner-parts.result.transactions c.into_inner-parts.result.ids c.into_inner-parts.result.shared c.into_inner-parts.result.committed c.into_inner-parts.result.count _ (lent_view c.into_inner-parts.ensures c.self.view_is) (lent_holds g.S.Spec.object c.into_inner-parts.ensures c.self.invariant) c.args.tx.now c.args.id _ pushed_own (k.has).log (k.has).has k.entry c.args.i (k.has).found (k.has).here in
    subst (λ z. HasOwn z.local.1 c.args.i) (of_course g.S.Spec.object c.into_inner-parts.result.shape c.into_inner-parts.result.transactions c.into_inner-parts.result.ids c.into_inner-parts.result.shared c.into_inner-parts.result.committed c.into_inner-parts.result.count _ (lent_view c.into_inner-parts.ensures c.self.view_is) (lent_holds g.S.Spec.object c.into_inner-parts.ensures c.self.invariant) c.args.tx.now c.in-Some.course.now h q.0 q.1) q.2

pub invariant_of-result : goal.invariant_of-result
invariant_of-result g c =
    let k = pushed_of g.S.Spec.object c.into_inner-parts.result.shape c.into_inner-parts.result.transactions c.into_inner-parts.result.ids c.into_inner-parts.result.shared c.into_inner-parts.result.committed c.into_inner-parts.result.count _ (lent_view c.into_inner-parts.ensures c.self.view_is) (lent_holds g.S.Spec.object c.into_inner-parts.ensures c.self.invariant) c.args.tx.now c.args.id c.args.i c.args.posted c.requires.found in
    let r = c.deref_mut-inside.ensures.value ∙ c.in_ok-parts.ensures.ok in
    let e = subst (λ z. Some c.in-Some.course.now ≡ option_map course_of (open_at c.args.tx.now z.transactions.opened)) r c.in-Some.ensures.course in
    let h = coursed g.S.Spec.object c.into_inner-parts.result.shape c.into_inner-parts.result.transactions c.into_inner-parts.result.ids c.into_inner-parts.result.shared c.into_inner-parts.result.committed c.into_inner-parts.result.count (lent_holds g.S.Spec.object c.into_inner-parts.ensures c.self.invariant) c.args.tx.now c.in-Some.course.now e in
    let d = unpush_done g.S.Spec.object c.into_inner-parts.result.shape c.into_inner-parts.result.transactions c.into_inner-parts.result.ids c.into_inner-parts.result.shared c.into_inner-parts.result.committed c.into_inner-parts.result.count _ (lent_view c.into_inner-parts.ensures c.self.view_is) (lent_holds g.S.Spec.object c.into_inner-parts.ensures c.self.invariant) c.args.tx.now c.args.id c.args.i c.args.posted k c.in_ok-shared.shared c.in_ok-shared.removed c.in-Done.is c.in_ok-shared.ensures.removes in
    let u = unmarked g.S.Spec.object c.into_inner-parts.result.shape c.into_inner-parts.result.transactions c.into_inner-parts.result.ids c.into_inner-parts.result.shared c.into_inner-parts.result.committed c.into_inner-parts.result.count _ (lent_view c.into_inner-parts.ensures c.self.view_is) (lent_holds g.S.Spec.object c.into_inner-parts.ensures c.self.invariant) c.args.tx.now c.args.id c.args.i c.args.posted k _ (relogged_is g.S.Spec.object c.into_inner-parts.result.shape c.into_inner-parts.result.transactions c.into_inner-parts.result.ids c.into_inner-parts.result.shared c.into_inner-parts.result.committed c.into_inner-parts.result.count _ (lent_view c.into_inner-parts.ensures c.self.view_is) (lent_holds g.S.Spec.object c.into_inner-parts.ensures c.self.invariant) c.args.tx.now c.in-Some.course.now c.mark.new.self h (set_mark (k.entry).id Unpushed) (c.mark.ensures k.entry (subst (λ l. slice_get l.1 c.args.i ≡ Some k.entry) (ap (λ z. z.local) (of_course g.S.Spec.object c.into_inner-parts.result.shape c.into_inner-parts.result.transactions c.into_inner-parts.result.ids c.into_inner-parts.result.shared c.into_inner-parts.result.committed c.into_inner-parts.result.count _ (lent_view c.into_inner-parts.ensures c.self.view_is) (lent_holds g.S.Spec.object c.into_inner-parts.ensures c.self.invariant) c.args.tx.now c.in-Some.course.now h _ ((k.has).has).at)) (k.has).here))) in
    subst (λ z. Holds g.S.Spec.object z.shape (with_course c.args.tx.now c.mark.new.self z.transactions) z.ids z.shared z.committed (z.count + 1)) (sym r)
    (holds_unpush g.S.Spec.object c.into_inner-parts.result.shape c.into_inner-parts.result.transactions c.into_inner-parts.result.ids c.into_inner-parts.result.shared c.into_inner-parts.result.committed c.into_inner-parts.result.count _ (lent_view c.into_inner-parts.ensures c.self.view_is) (lent_holds g.S.Spec.object c.into_inner-parts.ensures c.self.invariant) c.args.tx.now c.args.id _ c.in_ok-shared.shared d.1 u d.0)

pub returns-in-Some-clause-effect : goal.returns-in-Some-clause-effect
returns-in-Some-clause-effect g c =
    let k = pushed_of g.S.Spec.object c.into_inner-parts.result.shape c.into_inner-parts.result.transactions c.into_inner-parts.result.ids c.into_inner-parts.result.shared c.into_inner-parts.result.committed c.into_inner-parts.result.count _ (lent_view c.into_inner-parts.ensures c.self.view_is) (lent_holds g.S.Spec.object c.into_inner-parts.ensures c.self.invariant) c.args.tx.now c.args.id c.args.i c.args.posted c.requires.found in
    let r = c.deref_mut-inside.ensures.value ∙ c.in_ok-parts.ensures.ok in
    let e = subst (λ z. Some c.in-Some.course.now ≡ option_map course_of (open_at c.args.tx.now z.transactions.opened)) r c.in-Some.ensures.course in
    let h = coursed g.S.Spec.object c.into_inner-parts.result.shape c.into_inner-parts.result.transactions c.into_inner-parts.result.ids c.into_inner-parts.result.shared c.into_inner-parts.result.committed c.into_inner-parts.result.count (lent_holds g.S.Spec.object c.into_inner-parts.ensures c.self.invariant) c.args.tx.now c.in-Some.course.now e in
    let d = unpush_done g.S.Spec.object c.into_inner-parts.result.shape c.into_inner-parts.result.transactions c.into_inner-parts.result.ids c.into_inner-parts.result.shared c.into_inner-parts.result.committed c.into_inner-parts.result.count _ (lent_view c.into_inner-parts.ensures c.self.view_is) (lent_holds g.S.Spec.object c.into_inner-parts.ensures c.self.invariant) c.args.tx.now c.args.id c.args.i c.args.posted k c.in_ok-shared.shared c.in_ok-shared.removed c.in-Done.is c.in_ok-shared.ensures.removes in
    let u = unmarked g.S.Spec.object c.into_inner-parts.result.shape c.into_inner-parts.result.transactions c.into_inner-parts.result.ids c.into_inner-parts.result.shared c.into_inner-parts.result.committed c.into_inner-parts.result.count _ (lent_view c.into_inner-parts.ensures c.self.view_is) (lent_holds g.S.Spec.object c.into_inner-parts.ensures c.self.invariant) c.args.tx.now c.args.id c.args.i c.args.posted k _ (relogged_is g.S.Spec.object c.into_inner-parts.result.shape c.into_inner-parts.result.transactions c.into_inner-parts.result.ids c.into_inner-parts.result.shared c.into_inner-parts.result.committed c.into_inner-parts.result.count _ (lent_view c.into_inner-parts.ensures c.self.view_is) (lent_holds g.S.Spec.object c.into_inner-parts.ensures c.self.invariant) c.args.tx.now c.in-Some.course.now c.mark.new.self h (set_mark (k.entry).id Unpushed) (c.mark.ensures k.entry (subst (λ l. slice_get l.1 c.args.i ≡ Some k.entry) (ap (λ z. z.local) (of_course g.S.Spec.object c.into_inner-parts.result.shape c.into_inner-parts.result.transactions c.into_inner-parts.result.ids c.into_inner-parts.result.shared c.into_inner-parts.result.committed c.into_inner-parts.result.count _ (lent_view c.into_inner-parts.ensures c.self.view_is) (lent_holds g.S.Spec.object c.into_inner-parts.ensures c.self.invariant) c.args.tx.now c.in-Some.course.now h _ ((k.has).has).at)) (k.has).here))) in (
      d.1,
      subst (λ z. ◌≡◌ {A = Seen _ _} (record { shape = z.shape; config = config_of (with_course c.args.tx.now c.mark.new.self z.transactions) z.ids z.shared.1 z.committed; count = z.count + 1 }) (stepped c.args.self (Unpush c.args.tx.now c.args.id))) (sym r)
          (seen_unpush g.S.Spec.object c.into_inner-parts.result.shape c.into_inner-parts.result.transactions c.into_inner-parts.result.ids c.into_inner-parts.result.shared c.into_inner-parts.result.committed c.into_inner-parts.result.count _ (lent_view c.into_inner-parts.ensures c.self.view_is) (lent_holds g.S.Spec.object c.into_inner-parts.ensures c.self.invariant) c.args.tx.now c.args.id _ c.in_ok-shared.shared u d.0),
    )

pub returns-in-Some-clause-cost : goal.returns-in-Some-clause-cost
returns-in-Some-clause-cost g c =
    let k = pushed_of g.S.Spec.object c.into_inner-parts.result.shape c.into_inner-parts.result.transactions c.into_inner-parts.result.ids c.into_inner-parts.result.shared c.into_inner-parts.result.committed c.into_inner-parts.result.count _ (lent_view c.into_inner-parts.ensures c.self.view_is) (lent_holds g.S.Spec.object c.into_inner-parts.ensures c.self.invariant) c.args.tx.now c.args.id c.args.i c.args.posted c.requires.found in
    unpush_cost_done g.S.Spec.object c.into_inner-parts.result.shape c.into_inner-parts.result.transactions c.into_inner-parts.result.ids c.into_inner-parts.result.shared c.into_inner-parts.result.committed c.into_inner-parts.result.count _ (lent_view c.into_inner-parts.ensures c.self.view_is) (lent_holds g.S.Spec.object c.into_inner-parts.ensures c.self.invariant) c.args.tx.now c.args.id c.args.i c.args.posted k g.S.Placed.place_of c.in_ok-shared.removed _ _ c.in-Done.is c.in_ok-shared.ensures.cost

pub returns-in-Some-clause-bound : goal.returns-in-Some-clause-bound
returns-in-Some-clause-bound g c =
    let k = pushed_of g.S.Spec.object c.into_inner-parts.result.shape c.into_inner-parts.result.transactions c.into_inner-parts.result.ids c.into_inner-parts.result.shared c.into_inner-parts.result.committed c.into_inner-parts.result.count _ (lent_view c.into_inner-parts.ensures c.self.view_is) (lent_holds g.S.Spec.object c.into_inner-parts.ensures c.self.invariant) c.args.tx.now c.args.id c.args.i c.args.posted c.requires.found in
    unpush_cost_more g.S.Spec.object c.into_inner-parts.result.shape c.into_inner-parts.result.transactions c.into_inner-parts.result.ids c.into_inner-parts.result.shared c.into_inner-parts.result.committed c.into_inner-parts.result.count _ (lent_view c.into_inner-parts.ensures c.self.view_is) (lent_holds g.S.Spec.object c.into_inner-parts.ensures c.self.invariant) c.args.tx.now c.args.id c.args.i c.args.posted k g.S.Placed.place_of c.in_ok-shared.removed _ _ c.in-Done.is c.in_ok-shared.ensures.cost

pub invariant_of-result-in-Differs : goal.invariant_of-result-in-Differs
invariant_of-result-in-Differs g c =
    let k = pushed_of g.S.Spec.object c.into_inner-parts.result.shape c.into_inner-parts.result.transactions c.into_inner-parts.result.ids c.into_inner-parts.result.shared c.into_inner-parts.result.committed c.into_inner-parts.result.count _ (lent_view c.into_inner-parts.ensures c.self.view_is) (lent_holds g.S.Spec.object c.into_inner-parts.ensures c.self.invariant) c.args.tx.now c.args.id c.args.i c.args.posted c.requires.found in
    let d = unpush_differs g.S.Spec.object c.into_inner-parts.result.shape c.into_inner-parts.result.transactions c.into_inner-parts.result.ids c.into_inner-parts.result.shared c.into_inner-parts.result.committed c.into_inner-parts.result.count _ (lent_view c.into_inner-parts.ensures c.self.view_is) (lent_holds g.S.Spec.object c.into_inner-parts.ensures c.self.invariant) c.args.tx.now c.args.id c.args.i c.args.posted k c.in_ok-shared.shared c.in_ok-shared.removed _ _ c.in-Differs.is c.in_ok-shared.ensures.removes in
    lent_holds g.S.Spec.object c.in_ok-parts.ensures.ok (holds_same g.S.Spec.object c.into_inner-parts.result.shape c.into_inner-parts.result.transactions c.into_inner-parts.result.ids c.into_inner-parts.result.shared c.into_inner-parts.result.committed c.into_inner-parts.result.count _ (lent_view c.into_inner-parts.ensures c.self.view_is) (lent_holds g.S.Spec.object c.into_inner-parts.ensures c.self.invariant) _ _ refl d.0)

pub returns-in-Differs-clause-effect : goal.returns-in-Differs-clause-effect
returns-in-Differs-clause-effect g c =
    let k = pushed_of g.S.Spec.object c.into_inner-parts.result.shape c.into_inner-parts.result.transactions c.into_inner-parts.result.ids c.into_inner-parts.result.shared c.into_inner-parts.result.committed c.into_inner-parts.result.count _ (lent_view c.into_inner-parts.ensures c.self.view_is) (lent_holds g.S.Spec.object c.into_inner-parts.ensures c.self.invariant) c.args.tx.now c.args.id c.args.i c.args.posted c.requires.found in
    let d = unpush_differs g.S.Spec.object c.into_inner-parts.result.shape c.into_inner-parts.result.transactions c.into_inner-parts.result.ids c.into_inner-parts.result.shared c.into_inner-parts.result.committed c.into_inner-parts.result.count _ (lent_view c.into_inner-parts.ensures c.self.view_is) (lent_holds g.S.Spec.object c.into_inner-parts.ensures c.self.invariant) c.args.tx.now c.args.id c.args.i c.args.posted k c.in_ok-shared.shared c.in_ok-shared.removed _ _ c.in-Differs.is c.in_ok-shared.ensures.removes in
    refused_step g.S.Spec.object c.args.self _ (Unpush c.args.tx.now c.args.id) c.told-refusal.result c.refused.result c.refused.ensures
    (subst (λ r. Refuses g.S.Spec.object c.args.self (Unpush c.args.tx.now c.args.id) r) (sym c.told-refusal.ensures) (record { breaks = d.1; not_zero = omega arith; is_evidence = d.2 }))
    (lent_view c.in_ok-parts.ensures.ok (seen_same g.S.Spec.object c.into_inner-parts.result.shape c.into_inner-parts.result.transactions c.into_inner-parts.result.ids c.into_inner-parts.result.shared c.into_inner-parts.result.committed c.into_inner-parts.result.count _ (lent_view c.into_inner-parts.ensures c.self.view_is) (lent_holds g.S.Spec.object c.into_inner-parts.ensures c.self.invariant) _ _ refl d.0))

pub returns-in-Differs-clause-cost : goal.returns-in-Differs-clause-cost
returns-in-Differs-clause-cost g c =
    let k = pushed_of g.S.Spec.object c.into_inner-parts.result.shape c.into_inner-parts.result.transactions c.into_inner-parts.result.ids c.into_inner-parts.result.shared c.into_inner-parts.result.committed c.into_inner-parts.result.count _ (lent_view c.into_inner-parts.ensures c.self.view_is) (lent_holds g.S.Spec.object c.into_inner-parts.ensures c.self.invariant) c.args.tx.now c.args.id c.args.i c.args.posted c.requires.found in
    refused_cost g.S.Placed.place_of c.args.self (Unpush c.args.tx.now c.args.id) c.told-refusal.result c.refused.result c.refused.ensures _ _
    (unpush_cost_differs g.S.Spec.object c.into_inner-parts.result.shape c.into_inner-parts.result.transactions c.into_inner-parts.result.ids c.into_inner-parts.result.shared c.into_inner-parts.result.committed c.into_inner-parts.result.count _ (lent_view c.into_inner-parts.ensures c.self.view_is) (lent_holds g.S.Spec.object c.into_inner-parts.ensures c.self.invariant) c.args.tx.now c.args.id c.args.i c.args.posted k g.S.Placed.place_of c.in_ok-shared.removed _ _ _ _ c.in-Differs.is c.in_ok-shared.ensures.cost)

pub returns-in-Differs-clause-bound : goal.returns-in-Differs-clause-bound
returns-in-Differs-clause-bound g c =
    let k = pushed_of g.S.Spec.object c.into_inner-parts.result.shape c.into_inner-parts.result.transactions c.into_inner-parts.result.ids c.into_inner-parts.result.shared c.into_inner-parts.result.committed c.into_inner-parts.result.count _ (lent_view c.into_inner-parts.ensures c.self.view_is) (lent_holds g.S.Spec.object c.into_inner-parts.ensures c.self.invariant) c.args.tx.now c.args.id c.args.i c.args.posted c.requires.found in
    (unpush_cost_differs g.S.Spec.object c.into_inner-parts.result.shape c.into_inner-parts.result.transactions c.into_inner-parts.result.ids c.into_inner-parts.result.shared c.into_inner-parts.result.committed c.into_inner-parts.result.count _ (lent_view c.into_inner-parts.ensures c.self.view_is) (lent_holds g.S.Spec.object c.into_inner-parts.ensures c.self.invariant) c.args.tx.now c.args.id c.args.i c.args.posted k g.S.Placed.place_of c.in_ok-shared.removed _ _ _ _ c.in-Differs.is c.in_ok-shared.ensures.cost).1
