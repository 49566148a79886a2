use Rattle.std.proofs.Common.{refl}
use Rattle.pp_machine.specs.Transactions.{open_of}
use Rattle.pp_machine.proofs.Slots.{kept_none}
use Rattle.pp_machine.proofs.transactions.Transactions.new.Goals as goal

pub invariant_of-result : goal.invariant_of-result
invariant_of-result g c = kept_none (λ n t. open_of n t.value.thread t.value.course.body t.value.course.local) (λ n t. refl) _ _ c.new.ensures.empty c.new-2.ensures.empty
