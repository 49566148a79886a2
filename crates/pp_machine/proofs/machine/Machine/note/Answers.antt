use Rattle.std.proofs.Common.{refl}
use Rattle.pp_model.specs.Config.{Note}
use Rattle.pp_machine.proofs.Judged.{refused_step}
use Rattle.pp_machine.proofs.Keeping.{holds_note, seen_note}
use Rattle.pp_machine.proofs.Lent.{lent_holds, lent_view}
use Rattle.pp_machine.proofs.machine.Machine.note.Goals as goal

pub returns-in-Err : goal.returns-in-Err
returns-in-Err g c =
    refused_step g.S.Spec.object c.args.self _ (Note c.args.tx.now) c.in-Err.refusal c.refused.result c.refused.ensures (c.in-Err.ensures) refl

pub invariant_of-self : goal.invariant_of-self
invariant_of-self g c =
    holds_note g.S.Spec.object c.deref_mut.result.now.shape c.deref_mut.result.now.transactions c.deref_mut.result.now.ids c.deref_mut.result.now.shared c.deref_mut.result.now.committed c.deref_mut.result.now.count _ (lent_view c.deref_mut.ensures.value c.self.view_is) (lent_holds g.S.Spec.object c.deref_mut.ensures.value c.self.invariant)

pub returns : goal.returns
returns g c =
    (c.in_default.ensures.0, seen_note g.S.Spec.object c.deref_mut.result.now.shape c.deref_mut.result.now.transactions c.deref_mut.result.now.ids c.deref_mut.result.now.shared c.deref_mut.result.now.committed c.deref_mut.result.now.count _ (lent_view c.deref_mut.ensures.value c.self.view_is) (lent_holds g.S.Spec.object c.deref_mut.ensures.value c.self.invariant) c.args.tx.now)
