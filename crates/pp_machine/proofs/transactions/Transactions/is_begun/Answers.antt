use Rattle.std.proofs.Common.{refl, ap, ◌∙◌}
use Rattle.pp_machine.proofs.Slots.{begun_is}
use Rattle.pp_machine.specs.Transactions.{is_begun, open_of}
use Rattle.pp_machine.proofs.transactions.Transactions.is_begun.Goals as goal

pub returns : goal.returns
returns g c = c.contains_key.ensures ∙ begun_is (λ n t. open_of n t.value.thread t.value.course.body t.value.course.local) (λ n t. refl) c.self.inside.slots.entries c.args.tx.now ∙ ap (λ v. is_begun v c.args.tx.now) c.self.view_is
