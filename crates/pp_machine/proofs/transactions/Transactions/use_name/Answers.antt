use Rattle.std.proofs.Common.{Err, Ok, OnErr, Result, refl}
use Rattle.pp_machine.specs.Transactions.{open_of}
use Rattle.pp_machine.proofs.Slots.{kept_as, kept_used, not_there, seen_same, seen_used}
use Rattle.pp_machine.proofs.transactions.Transactions.use_name.Goals as goal

-- A fact is true also on an error.
on_err : {T E P : Type 0} (r : Result T E) → P → OnErr r P
on_err (Ok x) p = tt
on_err (Err e) p = p

pub put-requires : goal.put-requires
put-requires g c = not_there (λ n t. open_of n t.value.thread t.value.course.body t.value.course.local) (λ n t. refl) c.self.inside.slots.entries _ _ c.self.view_is c.self.invariant c.args.tx.now c.requires

pub invariant_of-self : goal.invariant_of-self
invariant_of-self g c = kept_as (λ n t. open_of n t.value.thread t.value.course.body t.value.course.local) (λ n t. refl) c.self.inside.slots.entries _ _ c.self.view_is c.self.invariant c.args.tx.now _ c.in_err-put.ensures.err

pub returns-in_err-put-clause-err : goal.returns-in_err-put-clause-err
returns-in_err-put-clause-err g c = on_err c.from_residual.result (seen_same (λ n t. open_of n t.value.thread t.value.course.body t.value.course.local) (λ n t. refl) c.self.inside.slots.entries _ _ c.self.view_is c.self.invariant c.args.tx.now _ c.in_err-put.ensures.err)

pub invariant_of-self-2 : goal.invariant_of-self-2
invariant_of-self-2 g c = kept_used (λ n t. open_of n t.value.thread t.value.course.body t.value.course.local) (λ n t. refl) c.self.inside.slots.entries _ _ c.self.view_is c.self.invariant c.args.tx.now _ c.requires c.in_ok-put.ensures.ok

pub returns-clause-ok : goal.returns-clause-ok
returns-clause-ok g c = seen_used (λ n t. open_of n t.value.thread t.value.course.body t.value.course.local) (λ n t. refl) c.self.inside.slots.entries _ _ c.self.view_is c.self.invariant c.args.tx.now _ c.in_ok-put.ensures.ok
