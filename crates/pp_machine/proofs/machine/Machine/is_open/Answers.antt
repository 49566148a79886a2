use Rattle.std.proofs.Common.{◌∙◌, ap, is_some}
use Rattle.pp_model.specs.Config.{tx}
use Rattle.pp_machine.proofs.Cuts.{some_copied}
use Rattle.pp_machine.proofs.Lent.{lent_holds, lent_view}
use Rattle.pp_machine.proofs.Opened.{open_seen}
use Rattle.pp_machine.proofs.machine.Machine.is_open.Goals as goal

pub returns : goal.returns
returns g c =
    c.is_some.ensures ∙ some_copied c.local.result ∙ ap is_some c.local.ensures ∙ open_seen g.S.Spec.object c.deref.result.now.shape c.deref.result.now.transactions c.deref.result.now.ids c.deref.result.now.shared c.deref.result.now.committed c.deref.result.now.count (lent_holds g.S.Spec.object c.deref.ensures c.self.invariant) c.args.tx.now ∙ ap (λ v. is_some (tx c.args.tx.now v.config.opened)) (lent_view c.deref.ensures c.self.view_is)
