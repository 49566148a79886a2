use Rattle.std.proofs.Common.{◌<◌, ◌∙◌, ℕ, ap, length, slice_get, subst, sym, Ok}
use Rattle.pp_model.specs.Config.{item, local_ops}
use Rattle.pp_log.specs.Logs.{RemovalBound, RemovesEntry}
use Rattle.std.proofs.lemmas.Result.{err_from_is_err_and}
use Rattle.pp_machine.specs.Removals.{CostsRemoval, answer_of}
use Rattle.pp_machine.proofs.Courses.{goes_back, leaves_still, taken_removed}
use Rattle.pp_machine.proofs.course.Course.without.Goals as goal

pub is_own_at-own-requires : goal.is_own_at-own-requires
is_own_at-own-requires g c =
    let m = leaves_still g.S.Spec.object c.self.inside.walked.walk c.self.inside.walked.log _ c.self.view_is c.self.invariant c.args.i c.requires in
    subst (λ l. c.args.i < length l) (sym c.entries.ensures) m.within

pub remove-requires : goal.remove-requires
remove-requires g c =
    let m = leaves_still g.S.Spec.object c.self.inside.walked.walk c.self.inside.walked.log _ c.self.view_is c.self.invariant c.args.i c.requires in
    m.within

pub given_back-walk-requires : goal.given_back-walk-requires
given_back-walk-requires g c =
    let m = leaves_still g.S.Spec.object c.self.inside.walked.walk c.self.inside.walked.log _ c.self.view_is c.self.invariant c.args.i c.requires in
    λ t. goes_back g.S.Spec.object c.self.inside.walked.walk c.self.inside.walked.log c.self.invariant c.args.i m (sym (c.is_own_at-own.ensures m.entry (ap (λ l. slice_get l c.args.i) c.entries.ensures ∙ m.here)) ∙ t)

pub invariant_of-result : goal.invariant_of-result
invariant_of-result g c =
    let m = leaves_still g.S.Spec.object c.self.inside.walked.walk c.self.inside.walked.log _ c.self.view_is c.self.invariant c.args.i c.requires in
    taken_removed g.S.Spec.object c.self.inside.walked.walk c.self.inside.walked.log c.self.invariant c.args.i m c.len-allowed.ensures.allowed c.in_ok-log.log c.in_ok-log.removed c.in_ok-log.ensures.removes c.is_own_at-own.result (c.is_own_at-own.ensures m.entry (ap (λ l. slice_get l c.args.i) c.entries.ensures ∙ m.here)) c.given_back-walk.result c.given_back-walk.ensures.same c.given_back-walk.ensures.back

pub returns-clause-body : goal.returns-clause-body
returns-clause-body g c =
    c.given_back-walk.ensures.body ∙ ap (λ z. z.body) c.self.view_is

pub returns-clause-removes : goal.returns-clause-removes
returns-clause-removes g c =
    subst (λ z. RemovesEntry g.S.Spec.object item z.local c.args.i c.in_ok-log.log c.in_ok-log.removed) c.self.view_is c.in_ok-log.ensures.removes

pub returns-clause-cost : goal.returns-clause-cost
returns-clause-cost g c =
    subst (λ z. CostsRemoval {E = ℕ} g.S.Placed.place_of (local_ops z.local.1) c.args.i (Ok c.in_ok-log.removed) c.args.ticks.now c.remove.new.ticks) c.self.view_is c.in_ok-log.ensures.cost

pub returns-in_err-log-clause-cost : goal.returns-in_err-log-clause-cost
returns-in_err-log-clause-cost g c =
    let p = err_from_is_err_and c.from_residual.result c.from_residual.ensures.1 in
    subst (λ z. CostsRemoval g.S.Placed.place_of (local_ops c.args.self.local.1) c.args.i (answer_of z) c.args.ticks.now c.remove.new.ticks) (sym p.1)
    (subst (λ z. RemovalBound g.S.Placed.place_of (local_ops z.local.1) c.args.i c.args.ticks.now c.remove.new.ticks) c.self.view_is c.remove.ensures.bound)
