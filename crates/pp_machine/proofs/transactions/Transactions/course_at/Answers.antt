use Rattle.std.proofs.Common.{refl, sym, ap, ◌∙◌, option_map, slice_get, Some}
use Rattle.std.specs.Map.{keys_of}
use Rattle.pp_machine.specs.Transactions.{course_of, open_of}
use Rattle.pp_machine.proofs.Slots.{no_log, closed_log, open_log, placed_name}
use Rattle.pp_machine.proofs.transactions.Transactions.course_at.Goals as goal

pub returns-in_err-place-clause-course : goal.returns-in_err-place-clause-course
returns-in_err-place-clause-course g c =
    ap (option_map (λ r. r.1.now)) c.from_residual.ensures
    ∙ sym (ap (option_map course_of) (no_log (λ n t. open_of n t.value.thread t.value.course.body t.value.course.local) (λ n t. refl) c.self.inside.slots.entries _ _ c.self.view_is c.self.invariant c.args.tx.now (sym c.in_err-place.ensures.value)))

pub returns-in_err-open-clause-course : goal.returns-in_err-open-clause-course
returns-in_err-open-clause-course g c =
    ap (option_map (λ r. r.1.now)) c.from_residual-in_err-open.ensures
    ∙ sym (ap (option_map course_of) (closed_log (λ n t. open_of n t.value.thread t.value.course.body t.value.course.local) (λ n t. refl) c.self.inside.slots.entries _ _ c.self.view_is c.self.invariant c.args.tx.now (sym c.in_ok-place.ensures.value ∙ ap (λ s. Some s) (sym c.in_err-open.ensures.value))))

pub returns-clause-course : goal.returns-clause-course
returns-clause-course g c = ap (λ z. Some z.course) c.deref.ensures ∙ sym (ap (option_map course_of) (open_log (λ n t. open_of n t.value.thread t.value.course.body t.value.course.local) (λ n t. refl) c.self.inside.slots.entries _ _ c.self.view_is c.self.invariant c.args.tx.now c.in_ok-open.open.now (sym c.in_ok-place.ensures.value ∙ ap (λ s. Some s) (sym c.in_ok-open.ensures.value))))

pub returns-clause-place : goal.returns-clause-place
returns-clause-place g c =
    sym (ap (λ v. slice_get v.names c.in_ok-place.place) c.self.view_is)
    ∙ placed_name (keys_of c.self.inside.slots.entries) c.args.tx.now c.in_ok-place.place c.in_ok-place.ensures.index
