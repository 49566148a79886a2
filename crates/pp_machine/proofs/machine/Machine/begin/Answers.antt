use Rattle.std.proofs.Common.{option_map, refl}
use Rattle.pp_core.specs.Trees.{tree}
use Rattle.pp_machine.specs.Judges.{begin_of}
use Rattle.pp_machine.proofs.Judged.{refused_step}
use Rattle.pp_machine.proofs.Keeping.{begin_free, begin_idle, holds_begin, seen_begin}
use Rattle.pp_machine.proofs.Lent.{lent_holds, lent_view}
use Rattle.pp_machine.proofs.machine.Machine.begin.Goals as goal

pub returns-in-Err : goal.returns-in-Err
returns-in-Err g c =
    refused_step g.S.Spec.object c.args.self _ (begin_of c.args.tx.now c.args.thread.now c.args.body.now) c.in-Err.refusal c.refused.result c.refused.ensures (c.in-Err.ensures (option_map tree c.args.body.now)) refl

pub begin-requires-clause-new : goal.begin-requires-clause-new
begin-requires-clause-new g c =
    begin_free g.S.Spec.object c.deref_mut-parts.result.now.shape c.deref_mut-parts.result.now.transactions c.deref_mut-parts.result.now.ids c.deref_mut-parts.result.now.shared c.deref_mut-parts.result.now.committed c.deref_mut-parts.result.now.count _ (lent_view c.deref_mut-parts.ensures.value c.self.view_is) (lent_holds g.S.Spec.object c.deref_mut-parts.ensures.value c.self.invariant) c.args.tx.now c.args.thread.now (option_map tree c.args.body.now) (c.in_default.ensures (option_map tree c.args.body.now)).0

pub begin-requires-clause-idle : goal.begin-requires-clause-idle
begin-requires-clause-idle g c =
    begin_idle g.S.Spec.object c.deref_mut-parts.result.now.shape c.deref_mut-parts.result.now.transactions c.deref_mut-parts.result.now.ids c.deref_mut-parts.result.now.shared c.deref_mut-parts.result.now.committed c.deref_mut-parts.result.now.count _ (lent_view c.deref_mut-parts.ensures.value c.self.view_is) (lent_holds g.S.Spec.object c.deref_mut-parts.ensures.value c.self.invariant) c.args.tx.now c.args.thread.now (option_map tree c.args.body.now) (c.in_default.ensures (option_map tree c.args.body.now)).0

pub invariant_of-self : goal.invariant_of-self
invariant_of-self g c =
    holds_begin g.S.Spec.object c.deref_mut-parts.result.now.shape c.deref_mut-parts.result.now.transactions c.deref_mut-parts.result.now.ids c.deref_mut-parts.result.now.shared c.deref_mut-parts.result.now.committed c.deref_mut-parts.result.now.count _ (lent_view c.deref_mut-parts.ensures.value c.self.view_is) (lent_holds g.S.Spec.object c.deref_mut-parts.ensures.value c.self.invariant) c.args.tx.now c.args.thread.now _ c.begin.new.self (c.in_default.ensures (option_map tree c.args.body.now)).0 c.in_ok-begin.ensures.ok

pub returns : goal.returns
returns g c =
    ((c.in_default.ensures (option_map tree c.args.body.now)).0, seen_begin g.S.Spec.object c.deref_mut-parts.result.now.shape c.deref_mut-parts.result.now.transactions c.deref_mut-parts.result.now.ids c.deref_mut-parts.result.now.shared c.deref_mut-parts.result.now.committed c.deref_mut-parts.result.now.count _ (lent_view c.deref_mut-parts.ensures.value c.self.view_is) (lent_holds g.S.Spec.object c.deref_mut-parts.ensures.value c.self.invariant) c.args.tx.now c.args.thread.now _ c.begin.new.self c.in_ok-begin.ensures.ok)
