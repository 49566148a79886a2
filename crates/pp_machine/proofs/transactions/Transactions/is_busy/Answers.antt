use Rattle.std.proofs.Common.{ap, ◌∙◌}
use Rattle.pp_machine.specs.Transactions.{is_busy}
use Rattle.pp_machine.proofs.transactions.Transactions.is_busy.Goals as goal

pub returns : goal.returns
returns g c = c.contains.ensures ∙ c.self.invariant.threads_are c.args.thread.now ∙ ap (λ v. is_busy v c.args.thread.now) c.self.view_is
