use Rattle.std.proofs.Common.{◌≡◌, ℕ, None, Ok, Some, refl, slice_get, sym, ap, subst, ◌∙◌}
use Rattle.std.proofs.lemmas.Option.{same_Some}
use Rattle.indexmap.specs.Layout.{set_value_at}
use Rattle.indexmap.proofs.CallerLemmas.{keys-with_value_at}
use Rattle.pp_log.specs.Logs.{RemovalBound, RemovesEntry}
use Rattle.pp_model.specs.Config.{item, local_ops}
use Rattle.pp_machine.specs.Removals.{CostsRemoval}
use Rattle.pp_machine.specs.Transactions.{MayLeave, open_of, with_course}
use Rattle.pp_machine.proofs.Slots.{closed_log, kept_changed, kept_ended, lookup_at, open_log}
use Rattle.pp_machine.proofs.Slots.{same_gone, seen_coursed, set_at, value_at}
use Rattle.pp_machine.proofs.transactions.Transactions.remove_at.Goals as goal

pub unreachable-requires : goal.unreachable-requires
unreachable-requires g c =
    let k = ap (λ v. slice_get v.names c.args.place) c.self.view_is ∙ c.requires.2 in
    let q = value_at c.self.inside.slots.entries c.args.place c.requires.0 k in
    let z : None ≡ Some q.0 = c.in_default.ensures.value ∙ q.1 in cc

pub unreachable-requires-in_default-take : goal.unreachable-requires-in_default-take
unreachable-requires-in_default-take g c =
    let k = ap (λ v. slice_get v.names c.args.place) c.self.view_is ∙ c.requires.2 in
    let l = lookup_at c.self.inside.slots.entries c.args.place c.requires.0 c.in-Some.slot.now k (sym c.in-Some.ensures.value) c.self.invariant.names_apart ∙ ap (λ s. Some s) (sym c.in_default-take.ensures.value) in
    let z : None ≡ Some c.requires.1 = sym (closed_log (λ n t. open_of n t.value.thread t.value.course.body t.value.course.local) (λ n t. refl) c.self.inside.slots.entries _ _ c.self.view_is c.self.invariant c.requires.0 l) ∙ c.requires.3 in cc

pub without-requires : goal.without-requires
without-requires g c =
    let k = ap (λ v. slice_get v.names c.args.place) c.self.view_is ∙ c.requires.2 in
    let l = lookup_at c.self.inside.slots.entries c.args.place c.requires.0 c.in-Some.slot.now k (sym c.in-Some.ensures.value) c.self.invariant.names_apart ∙ ap (λ s. Some s) (sym c.in-Some-take.ensures.value) in
    subst (λ z. MayLeave z.local.1 c.args.i) (same_Some c.requires.1 _ (sym c.requires.3 ∙ open_log (λ n t. open_of n t.value.thread t.value.course.body t.value.course.local) (λ n t. refl) c.self.inside.slots.entries _ _ c.self.view_is c.self.invariant c.requires.0 c.in-Some-take.begun l)) c.requires.4

pub invariant_of-self : goal.invariant_of-self
invariant_of-self g c =
    let k = ap (λ v. slice_get v.names c.args.place) c.self.view_is ∙ c.requires.2 in
    let l = lookup_at c.self.inside.slots.entries c.args.place c.requires.0 c.in-Some.slot.now k (sym c.in-Some.ensures.value) c.self.invariant.names_apart ∙ ap (λ s. Some s) (sym c.in-Some-take.ensures.value) in
    kept_changed (λ n t. open_of n t.value.thread t.value.course.body t.value.course.local) (λ n t. refl) c.self.inside.slots.entries _ _ c.self.view_is c.self.invariant c.requires.0 c.in-Some-take.begun c.in-Ok.left _ l c.in-Ok.ensures.thread (ap (set_value_at c.self.inside.slots.entries c.args.place) c.fill.ensures ∙ set_at c.self.inside.slots.entries c.args.place c.requires.0 (Some c.in-Ok.left) k c.self.invariant.names_apart) (keys-with_value_at c.self.inside.slots c.args.place c.fill.new.slot)

pub invariant_of-self-in-Err : goal.invariant_of-self-in-Err
invariant_of-self-in-Err g c =
    let k = ap (λ v. slice_get v.names c.args.place) c.self.view_is ∙ c.requires.2 in
    let l = lookup_at c.self.inside.slots.entries c.args.place c.requires.0 c.in-Some.slot.now k (sym c.in-Some.ensures.value) c.self.invariant.names_apart ∙ ap (λ s. Some s) (sym c.in-Some-take.ensures.value) in
    kept_ended (λ n t. open_of n t.value.thread t.value.course.body t.value.course.local) (λ n t. refl) c.self.inside.slots.entries _ _ c.self.view_is c.self.invariant c.requires.0 c.in-Some-take.begun _ c.swap_remove.new.self.keys l (ap (set_value_at c.self.inside.slots.entries c.args.place) c.take.ensures.after ∙ set_at c.self.inside.slots.entries c.args.place c.requires.0 None k c.self.invariant.names_apart) (keys-with_value_at c.self.inside.slots c.args.place c.take.new.self) (same_gone c.self.inside.threads.keys c.swap_remove.new.self.keys _ _ (sym (ap (λ z. z.thread) c.deref.ensures)) c.swap_remove.ensures.updates.0)

pub returns-in-Ok-clause-removes : goal.returns-in-Ok-clause-removes
returns-in-Ok-clause-removes g c = λ t e x o.
    let k = ap (λ v. slice_get v.names c.args.place) c.self.view_is ∙ e in
    let l = lookup_at c.self.inside.slots.entries c.args.place t c.in-Some.slot.now k (sym c.in-Some.ensures.value) c.self.invariant.names_apart ∙ ap (λ s. Some s) (sym c.in-Some-take.ensures.value) in
    let same = same_Some x _ (sym o ∙ open_log (λ n t. open_of n t.value.thread t.value.course.body t.value.course.local) (λ n t. refl) c.self.inside.slots.entries _ _ c.self.view_is c.self.invariant t c.in-Some-take.begun l) in (
      c.in-Ok.left.value.course.local,
      subst (λ z. RemovesEntry g.S.Spec.object item z.local c.args.i c.in-Ok.left.value.course.local c.in-Ok.removed) (sym same) c.in-Ok.ensures.removes,
      seen_coursed (λ n t. open_of n t.value.thread t.value.course.body t.value.course.local) (λ n t. refl) c.self.inside.slots.entries _ _ c.self.view_is c.self.invariant t c.in-Some-take.begun c.in-Ok.left c.in-Ok.left.value.course _ l (ap (λ p. open_of t p c.in-Ok.left.value.course.body c.in-Ok.left.value.course.local) c.in-Ok.ensures.thread) (ap (set_value_at c.self.inside.slots.entries c.args.place) c.fill.ensures ∙ set_at c.self.inside.slots.entries c.args.place t (Some c.in-Ok.left) k c.self.invariant.names_apart) (keys-with_value_at c.self.inside.slots c.args.place c.fill.new.slot)
          ∙ ap (λ z. with_course t (record { body = z; local = c.in-Ok.left.value.course.local }) c.args.self.now) (c.in-Ok.ensures.body ∙ sym (ap (λ z. z.body) same)),
    )

pub returns-in-Ok-clause-cost : goal.returns-in-Ok-clause-cost
returns-in-Ok-clause-cost g c = λ t e x o.
    let k = ap (λ v. slice_get v.names c.args.place) c.self.view_is ∙ e in
    let l = lookup_at c.self.inside.slots.entries c.args.place t c.in-Some.slot.now k (sym c.in-Some.ensures.value) c.self.invariant.names_apart ∙ ap (λ s. Some s) (sym c.in-Some-take.ensures.value) in
    let same = same_Some x _ (sym o ∙ open_log (λ n t. open_of n t.value.thread t.value.course.body t.value.course.local) (λ n t. refl) c.self.inside.slots.entries _ _ c.self.view_is c.self.invariant t c.in-Some-take.begun l) in
    subst (λ z. CostsRemoval {E = ℕ} g.S.Placed.place_of (local_ops z.local.1) c.args.i (Ok c.in-Ok.removed) c.args.ticks.now c.without.new.ticks) (sym same) c.in-Ok.ensures.cost

pub returns-in-Err-clause-cost : goal.returns-in-Err-clause-cost
returns-in-Err-clause-cost g c = λ t e x o.
    let k = ap (λ v. slice_get v.names c.args.place) c.self.view_is ∙ e in
    let l = lookup_at c.self.inside.slots.entries c.args.place t c.in-Some.slot.now k (sym c.in-Some.ensures.value) c.self.invariant.names_apart ∙ ap (λ s. Some s) (sym c.in-Some-take.ensures.value) in
    let same = same_Some x _ (sym o ∙ open_log (λ n t. open_of n t.value.thread t.value.course.body t.value.course.local) (λ n t. refl) c.self.inside.slots.entries _ _ c.self.view_is c.self.invariant t c.in-Some-take.begun l) in
    subst (λ z. RemovalBound g.S.Placed.place_of (local_ops z.local.1) c.args.i c.args.ticks.now c.without.new.ticks) (sym same) c.in-Err.ensures.cost
