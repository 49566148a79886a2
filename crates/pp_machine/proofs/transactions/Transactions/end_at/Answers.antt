use Rattle.std.proofs.Common.{◌≡◌, None, Some, refl, slice_get, sym, ap, ◌∙◌}
use Rattle.indexmap.specs.Layout.{set_value_at}
use Rattle.indexmap.proofs.CallerLemmas.{keys-with_value_at}
use Rattle.pp_machine.specs.Transactions.{open_of}
use Rattle.pp_machine.proofs.Cuts.{mapped_some, mapped_none}
use Rattle.pp_machine.proofs.Slots.{key_at, kept_empty, kept_ended, lookup_at, same_gone, seen_empty}
use Rattle.pp_machine.proofs.Slots.{seen_ended, set_at, value_at}
use Rattle.pp_machine.proofs.transactions.Transactions.end_at.Goals as goal

pub returns-in_default-clause-ended : goal.returns-in_default-clause-ended
returns-in_default-clause-ended g c = λ t h.
    let k = ap (λ v. slice_get v.names c.args.place) c.self.view_is ∙ h in
    let q = value_at c.self.inside.slots.entries c.args.place t k in
    absurd (let z : None ≡ Some q.0 = c.in_default.ensures.value ∙ q.1 in cc)

pub invariant_of-self-in-Some-empty : goal.invariant_of-self-in-Some-empty
invariant_of-self-in-Some-empty g c =
    let r = mapped_some (λ t. t.value.thread) c.in-Some.slot.now c.in-Some-empty.thread c.in-Some-empty.ensures.thread in
    let q = key_at c.self.inside.slots.entries c.args.place c.in-Some.slot.now (sym c.in-Some.ensures.value) in
    kept_ended (λ n t. open_of n t.value.thread t.value.course.body t.value.course.local) (λ n t. refl) c.self.inside.slots.entries _ _ c.self.view_is c.self.invariant q.0 r.0 _ c.swap_remove.new.self.keys (lookup_at c.self.inside.slots.entries c.args.place q.0 c.in-Some.slot.now q.1 (sym c.in-Some.ensures.value) c.self.invariant.names_apart ∙ ap (λ s. Some s) r.1) (ap (set_value_at c.self.inside.slots.entries c.args.place) c.empty.ensures.emptied ∙ set_at c.self.inside.slots.entries c.args.place q.0 None q.1 c.self.invariant.names_apart) (keys-with_value_at c.self.inside.slots c.args.place c.empty.new.slot) (same_gone c.self.inside.threads.keys c.swap_remove.new.self.keys _ _ r.2 c.swap_remove.ensures.updates.0)

pub invariant_of-self-in_default-empty : goal.invariant_of-self-in_default-empty
invariant_of-self-in_default-empty g c =
    let q = key_at c.self.inside.slots.entries c.args.place c.in-Some.slot.now (sym c.in-Some.ensures.value) in
    kept_empty (λ n t. open_of n t.value.thread t.value.course.body t.value.course.local) (λ n t. refl) c.self.inside.slots.entries _ _ c.self.view_is c.self.invariant q.0 _ (lookup_at c.self.inside.slots.entries c.args.place q.0 c.in-Some.slot.now q.1 (sym c.in-Some.ensures.value) c.self.invariant.names_apart ∙ ap (λ s. Some s) (mapped_none (λ t. t.value.thread) c.in-Some.slot.now c.in_default-empty.ensures.thread)) (ap (set_value_at c.self.inside.slots.entries c.args.place) c.empty.ensures.emptied ∙ set_at c.self.inside.slots.entries c.args.place q.0 None q.1 c.self.invariant.names_apart) (keys-with_value_at c.self.inside.slots c.args.place c.empty.new.slot)

pub returns-in-Some-empty-clause-ended : goal.returns-in-Some-empty-clause-ended
returns-in-Some-empty-clause-ended g c = λ t h.
    let k = ap (λ v. slice_get v.names c.args.place) c.self.view_is ∙ h in
    let r = mapped_some (λ t. t.value.thread) c.in-Some.slot.now c.in-Some-empty.thread c.in-Some-empty.ensures.thread in
    seen_ended (λ n t. open_of n t.value.thread t.value.course.body t.value.course.local) (λ n t. refl) c.self.inside.slots.entries _ _ c.self.view_is c.self.invariant t r.0 _ (lookup_at c.self.inside.slots.entries c.args.place t c.in-Some.slot.now k (sym c.in-Some.ensures.value) c.self.invariant.names_apart ∙ ap (λ s. Some s) r.1) (ap (set_value_at c.self.inside.slots.entries c.args.place) c.empty.ensures.emptied ∙ set_at c.self.inside.slots.entries c.args.place t None k c.self.invariant.names_apart) (keys-with_value_at c.self.inside.slots c.args.place c.empty.new.slot)

pub returns-in_default-empty-clause-ended : goal.returns-in_default-empty-clause-ended
returns-in_default-empty-clause-ended g c = λ t h.
    let k = ap (λ v. slice_get v.names c.args.place) c.self.view_is ∙ h in
    seen_empty (λ n t. open_of n t.value.thread t.value.course.body t.value.course.local) (λ n t. refl) c.self.inside.slots.entries _ _ c.self.view_is c.self.invariant t _ (lookup_at c.self.inside.slots.entries c.args.place t c.in-Some.slot.now k (sym c.in-Some.ensures.value) c.self.invariant.names_apart ∙ ap (λ s. Some s) (mapped_none (λ t. t.value.thread) c.in-Some.slot.now c.in_default-empty.ensures.thread)) (ap (set_value_at c.self.inside.slots.entries c.args.place) c.empty.ensures.emptied ∙ set_at c.self.inside.slots.entries c.args.place t None k c.self.invariant.names_apart) (keys-with_value_at c.self.inside.slots c.args.place c.empty.new.slot)

pub returns-in-Some-empty-clause-none : goal.returns-in-Some-empty-clause-none
returns-in-Some-empty-clause-none g c = λ h.
    let q = key_at c.self.inside.slots.entries c.args.place c.in-Some.slot.now (sym c.in-Some.ensures.value) in
    let z : None ≡ Some q.0 = sym h ∙ sym (ap (λ v. slice_get v.names c.args.place) c.self.view_is) ∙ q.1 in cc

pub returns-in_default-empty-clause-none : goal.returns-in_default-empty-clause-none
returns-in_default-empty-clause-none g c = λ h.
    let q = key_at c.self.inside.slots.entries c.args.place c.in-Some.slot.now (sym c.in-Some.ensures.value) in
    let z : None ≡ Some q.0 = sym h ∙ sym (ap (λ v. slice_get v.names c.args.place) c.self.view_is) ∙ q.1 in cc
