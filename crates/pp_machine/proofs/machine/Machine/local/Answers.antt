use Rattle.std.proofs.Common.{◌∙◌, ap, option_map}
use Rattle.pp_model.specs.Config.{tx}
use Rattle.pp_machine.proofs.Lent.{lent_holds, lent_view}
use Rattle.pp_machine.proofs.Opened.{local_seen}
use Rattle.pp_machine.proofs.machine.Machine.local.Goals as goal

pub returns : goal.returns
returns g c =
    c.local.ensures ∙ local_seen g.S.Spec.object c.deref.result.now.shape c.deref.result.now.transactions c.deref.result.now.ids c.deref.result.now.shared c.deref.result.now.committed c.deref.result.now.count (lent_holds g.S.Spec.object c.deref.ensures c.self.invariant) c.args.tx.now ∙ ap (λ v. option_map (λ x. (v.shape, x.local)) (tx c.args.tx.now v.config.opened)) (lent_view c.deref.ensures c.self.view_is)
