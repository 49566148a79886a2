use Rattle.std.proofs.Common.{refl, sym, ap, ◌∙◌, option_map, Some, inr}
use Rattle.std.specs.Box.{with_value}
use Rattle.std.specs.Map.{set_value}
use Rattle.std.specs.Str.{bytes_eq}
use Rattle.pp_machine.specs.Transactions.{course_of, open_of}
use Rattle.pp_machine.proofs.Slots.{lends_as, no_log, closed_log, open_log, kept_changed, kept_empty}
use Rattle.pp_machine.proofs.Slots.{seen_closed, seen_coursed, seen_same}
use Rattle.pp_machine.proofs.transactions.Transactions.course_mut.Goals as goal

pub returns-in_err-slot : goal.returns-in_err-slot
returns-in_err-slot g c =
    rw c.from_residual.ensures
    (ap inr (seen_same (λ n t. open_of n t.value.thread t.value.course.body t.value.course.local) (λ n t. refl) c.self.inside.slots.entries _ _ c.self.view_is c.self.invariant c.args.tx.now _ (ap (λ m. m.entries) c.get_mut.follows.holds-at-none)), record { lends = tt; course = sym (ap (option_map course_of) (no_log (λ n t. open_of n t.value.thread t.value.course.body t.value.course.local) (λ n t. refl) c.self.inside.slots.entries _ _ c.self.view_is c.self.invariant c.args.tx.now (sym c.in_err-slot.ensures.value))) })

pub returns-in_err-open : goal.returns-in_err-open
returns-in_err-open g c =
    let k = c.get_mut.follows.holds c.in_ok-slot.slot.now in
    rw c.from_residual-in_err-open.ensures
    (ap inr (seen_closed (λ n t. open_of n t.value.thread t.value.course.body t.value.course.local) (λ n t. refl) c.self.inside.slots.entries _ _ c.self.view_is c.self.invariant c.args.tx.now _ (sym c.in_ok-slot.ensures.value ∙ ap (λ s. Some s) (sym c.in_err-open.ensures.value)) (k.0 ∙ ap (set_value (bytes_eq c.args.tx.now) c.self.inside.slots.entries) (sym c.in_err-open.ensures.value))), record { lends = tt; course = sym (ap (option_map course_of) (closed_log (λ n t. open_of n t.value.thread t.value.course.body t.value.course.local) (λ n t. refl) c.self.inside.slots.entries _ _ c.self.view_is c.self.invariant c.args.tx.now (sym c.in_ok-slot.ensures.value ∙ ap (λ s. Some s) (sym c.in_err-open.ensures.value)))) })

pub invariant_of-self-lent : goal.invariant_of-self-lent
invariant_of-self-lent g c w =
    let k = c.get_mut.follows.holds (Some (with_value c.in_ok-open.open.now (record { thread = (c.deref_mut.result.now).thread; course = w }))) in
    kept_changed (λ n t. open_of n t.value.thread t.value.course.body t.value.course.local) (λ n t. refl) c.self.inside.slots.entries _ _ c.self.view_is c.self.invariant c.args.tx.now c.in_ok-open.open.now (with_value c.in_ok-open.open.now (record { thread = (c.deref_mut.result.now).thread; course = w })) _ (sym c.in_ok-slot.ensures.value ∙ ap (λ s. Some s) (sym c.in_ok-open.ensures.value)) (ap (λ z. z.thread) c.deref_mut.ensures.value) k.0 k.1

pub invariant_of-self-in_err-open : goal.invariant_of-self-in_err-open
invariant_of-self-in_err-open g c =
    let k = c.get_mut.follows.holds c.in_ok-slot.slot.now in
    kept_empty (λ n t. open_of n t.value.thread t.value.course.body t.value.course.local) (λ n t. refl) c.self.inside.slots.entries _ _ c.self.view_is c.self.invariant c.args.tx.now _ (sym c.in_ok-slot.ensures.value ∙ ap (λ s. Some s) (sym c.in_err-open.ensures.value)) (k.0 ∙ ap (set_value (bytes_eq c.args.tx.now) c.self.inside.slots.entries) (sym c.in_err-open.ensures.value)) k.1

pub returns : goal.returns
returns g c = (
  lends_as _ (λ w. seen_coursed (λ n t. open_of n t.value.thread t.value.course.body t.value.course.local) (λ n t. refl) c.self.inside.slots.entries _ _ c.self.view_is c.self.invariant c.args.tx.now c.in_ok-open.open.now (with_value c.in_ok-open.open.now (record { thread = (c.deref_mut.result.now).thread; course = w })) w _ (sym c.in_ok-slot.ensures.value ∙ ap (λ s. Some s) (sym c.in_ok-open.ensures.value)) (ap (λ p. open_of c.args.tx.now p w.body w.local) (ap (λ z. z.thread) c.deref_mut.ensures.value)) (c.get_mut.follows.holds (Some (with_value c.in_ok-open.open.now (record { thread = (c.deref_mut.result.now).thread; course = w })))).0 (c.get_mut.follows.holds (Some (with_value c.in_ok-open.open.now (record { thread = (c.deref_mut.result.now).thread; course = w })))).1),
  record { lends = tt; course = ap (λ z. Some z.course) c.deref_mut.ensures.value ∙ sym (ap (option_map course_of) (open_log (λ n t. open_of n t.value.thread t.value.course.body t.value.course.local) (λ n t. refl) c.self.inside.slots.entries _ _ c.self.view_is c.self.invariant c.args.tx.now c.in_ok-open.open.now (sym c.in_ok-slot.ensures.value ∙ ap (λ s. Some s) (sym c.in_ok-open.ensures.value)))) },
)
