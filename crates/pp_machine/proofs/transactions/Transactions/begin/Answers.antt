use Rattle.std.proofs.Common.{cond, refl, true, ap, sym, ◌∙◌}
use Rattle.std.specs.List.{list_any}
use Rattle.pp_model.specs.Names.{◌=ⁿ◌}
use Rattle.pp_machine.specs.Transactions.{is_busy, open_of, with_open}
use Rattle.pp_machine.proofs.Slots.{kept_back, kept_begun, kept_threads, not_there, seen_begun, seen_same}
use Rattle.pp_machine.proofs.transactions.Transactions.begin.Goals as goal

pub invariant_of-self : goal.invariant_of-self
invariant_of-self g c = kept_threads _ _ _ _ c.self.invariant c.in_err-insert.ensures.err

pub put-requires : goal.put-requires
put-requires g c = not_there (λ n t. open_of n t.value.thread t.value.course.body t.value.course.local) (λ n t. refl) c.self.inside.slots.entries _ _ c.self.view_is c.self.invariant c.args.tx.now c.requires.new

pub invariant_of-self-in-Ok : goal.invariant_of-self-in-Ok
invariant_of-self-in-Ok g c =
    kept_begun (λ n t. open_of n t.value.thread t.value.course.body t.value.course.local) (λ n t. refl) c.self.inside.slots.entries _ _ c.self.view_is c.self.invariant c.args.tx.now c.in_ok-begun.begun c.put.new.slots.entries c.insert.new.self.keys c.requires.new
    (ap (λ x. is_busy c.args.self.now x.thread) c.in_ok-begun.ensures.ok ∙ c.requires.idle) c.in-Ok.ensures.ok
    (λ q. c.in_ok-insert.ensures.updates.0 q ∙ ap (λ x. cond (x.thread =ⁿ q) true (list_any (λ z. q =ⁿ z) c.self.inside.threads.keys)) (sym c.in_ok-begun.ensures.ok))

pub invariant_of-self-in-Err : goal.invariant_of-self-in-Err
invariant_of-self-in-Err g c =
    kept_back (λ n t. open_of n t.value.thread t.value.course.body t.value.course.local) (λ n t. refl) c.self.inside.slots.entries _ _ c.self.view_is c.self.invariant c.args.tx.now c.args.thread.now c.insert.new.self.keys c.swap_remove.new.self.keys c.requires.idle c.in_ok-insert.ensures.updates.0 c.swap_remove.ensures.updates.0 c.put.new.slots.entries c.in-Err.ensures.err

pub returns-in-Ok-clause-ok : goal.returns-in-Ok-clause-ok
returns-in-Ok-clause-ok g c =
    seen_begun (λ n t. open_of n t.value.thread t.value.course.body t.value.course.local) (λ n t. refl) c.self.inside.slots.entries _ _ c.self.view_is c.self.invariant c.args.tx.now c.in_ok-begun.begun c.put.new.slots.entries c.in-Ok.ensures.ok
    ∙ ap (λ x. with_open (open_of c.args.tx.now x.thread x.course.body x.course.local) c.args.self.now) c.in_ok-begun.ensures.ok
    ∙ ap (λ k. with_open (open_of c.args.tx.now c.args.thread.now k.body k.local) c.args.self.now) c.in_ok-course.ensures

pub returns-in-Err-clause-err : goal.returns-in-Err-clause-err
returns-in-Err-clause-err g c = seen_same (λ n t. open_of n t.value.thread t.value.course.body t.value.course.local) (λ n t. refl) c.self.inside.slots.entries _ _ c.self.view_is c.self.invariant c.args.tx.now c.put.new.slots.entries c.in-Err.ensures.err
