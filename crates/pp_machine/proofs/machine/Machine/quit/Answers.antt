use Rattle.std.proofs.Common.{subst}
use Rattle.pp_model.specs.Config.{Quit}
use Rattle.pp_model.specs.Rules.{Meets}
use Rattle.pp_kind.specs.Object.{rules_of}
use Rattle.pp_machine.specs.Judges.{Refuses}
use Rattle.pp_machine.proofs.Judged.{refused_step}
use Rattle.pp_machine.proofs.Judging.{quit_1}
use Rattle.pp_machine.proofs.Keeping.{holds_quit, seen_quit}
use Rattle.pp_machine.proofs.Lent.{lent_holds, lent_view}
use Rattle.pp_machine.proofs.Opened.{holds_local, rest, uncoursed}
use Rattle.pp_machine.proofs.machine.Machine.quit.Goals as goal

pub returns-in_default : goal.returns-in_default
returns-in_default g c =
    refused_step g.S.Spec.object c.args.self _ (Quit c.args.tx.now) c.bare.result c.refused.result c.refused.ensures (quit_1 g.S.Spec.object _ _ (lent_view c.deref_mut-parts.ensures.value c.self.view_is) c.args.tx.now (uncoursed g.S.Spec.object c.deref_mut-parts.result.now.shape c.deref_mut-parts.result.now.transactions c.deref_mut-parts.result.now.ids c.deref_mut-parts.result.now.shared c.deref_mut-parts.result.now.committed c.deref_mut-parts.result.now.count (lent_holds g.S.Spec.object c.deref_mut-parts.ensures.value c.self.invariant) c.args.tx.now c.in_default.ensures.course) c.bare.result c.bare.ensures) (lent_view c.deref_mut-parts.ensures.value c.self.view_is)

pub returns-in-Err : goal.returns-in-Err
returns-in-Err g c =
    refused_step g.S.Spec.object c.args.self _ (Quit c.args.tx.now) c.in-Err.refusal c.refused-in-Err.result c.refused-in-Err.ensures (subst (λ z. Refuses g.S.Spec.object z (Quit c.args.tx.now) c.in-Err.refusal) (lent_view c.deref_mut-parts.ensures.value c.self.view_is) (c.in-Err.ensures (rest g.S.Spec.object c.deref_mut-parts.result.now.shape c.deref_mut-parts.result.now.transactions c.deref_mut-parts.result.now.ids c.deref_mut-parts.result.now.shared c.deref_mut-parts.result.now.committed c.deref_mut-parts.result.now.count (lent_holds g.S.Spec.object c.deref_mut-parts.ensures.value c.self.invariant)) c.deref_mut-parts.result.now.shared c.args.tx.now (holds_local g.S.Spec.object c.deref_mut-parts.result.now.shape c.deref_mut-parts.result.now.transactions c.deref_mut-parts.result.now.ids c.deref_mut-parts.result.now.shared c.deref_mut-parts.result.now.committed c.deref_mut-parts.result.now.count (lent_holds g.S.Spec.object c.deref_mut-parts.ensures.value c.self.invariant) c.args.tx.now c.in-Some.course.now c.in-Some.ensures.course c.local.result.now c.local.ensures))) (lent_view c.deref_mut-parts.ensures.value c.self.view_is)

pub invariant_of-self-in-Err : goal.invariant_of-self-in-Err
invariant_of-self-in-Err g c = lent_holds g.S.Spec.object c.deref_mut-parts.ensures.value c.self.invariant

pub invariant_of-self-2 : goal.invariant_of-self-2
invariant_of-self-2 g c =
    let m = subst (λ z. Meets (rules_of g.S.Spec.object z.shape) z.config (Quit c.args.tx.now)) (lent_view c.deref_mut-parts.ensures.value c.self.view_is) (c.in_default-judge_quit.ensures (rest g.S.Spec.object c.deref_mut-parts.result.now.shape c.deref_mut-parts.result.now.transactions c.deref_mut-parts.result.now.ids c.deref_mut-parts.result.now.shared c.deref_mut-parts.result.now.committed c.deref_mut-parts.result.now.count (lent_holds g.S.Spec.object c.deref_mut-parts.ensures.value c.self.invariant)) c.deref_mut-parts.result.now.shared c.args.tx.now (holds_local g.S.Spec.object c.deref_mut-parts.result.now.shape c.deref_mut-parts.result.now.transactions c.deref_mut-parts.result.now.ids c.deref_mut-parts.result.now.shared c.deref_mut-parts.result.now.committed c.deref_mut-parts.result.now.count (lent_holds g.S.Spec.object c.deref_mut-parts.ensures.value c.self.invariant) c.args.tx.now c.in-Some.course.now c.in-Some.ensures.course c.local.result.now c.local.ensures)).0 in
    holds_quit g.S.Spec.object c.deref_mut-parts.result.now.shape c.deref_mut-parts.result.now.transactions c.deref_mut-parts.result.now.ids c.deref_mut-parts.result.now.shared c.deref_mut-parts.result.now.committed c.deref_mut-parts.result.now.count _ (lent_view c.deref_mut-parts.ensures.value c.self.view_is) (lent_holds g.S.Spec.object c.deref_mut-parts.ensures.value c.self.invariant) c.args.tx.now c.end_at.new.self m (c.end_at.ensures.ended c.args.tx.now c.in-Some.ensures.place)

pub returns : goal.returns
returns g c =
    let m = subst (λ z. Meets (rules_of g.S.Spec.object z.shape) z.config (Quit c.args.tx.now)) (lent_view c.deref_mut-parts.ensures.value c.self.view_is) (c.in_default-judge_quit.ensures (rest g.S.Spec.object c.deref_mut-parts.result.now.shape c.deref_mut-parts.result.now.transactions c.deref_mut-parts.result.now.ids c.deref_mut-parts.result.now.shared c.deref_mut-parts.result.now.committed c.deref_mut-parts.result.now.count (lent_holds g.S.Spec.object c.deref_mut-parts.ensures.value c.self.invariant)) c.deref_mut-parts.result.now.shared c.args.tx.now (holds_local g.S.Spec.object c.deref_mut-parts.result.now.shape c.deref_mut-parts.result.now.transactions c.deref_mut-parts.result.now.ids c.deref_mut-parts.result.now.shared c.deref_mut-parts.result.now.committed c.deref_mut-parts.result.now.count (lent_holds g.S.Spec.object c.deref_mut-parts.ensures.value c.self.invariant) c.args.tx.now c.in-Some.course.now c.in-Some.ensures.course c.local.result.now c.local.ensures)).0 in
    (m, seen_quit g.S.Spec.object c.deref_mut-parts.result.now.shape c.deref_mut-parts.result.now.transactions c.deref_mut-parts.result.now.ids c.deref_mut-parts.result.now.shared c.deref_mut-parts.result.now.committed c.deref_mut-parts.result.now.count _ (lent_view c.deref_mut-parts.ensures.value c.self.view_is) (lent_holds g.S.Spec.object c.deref_mut-parts.ensures.value c.self.invariant) c.args.tx.now c.end_at.new.self (c.end_at.ensures.ended c.args.tx.now c.in-Some.ensures.place))
