use Rattle.std.proofs.Common.{subst, sym, ap, ◌∙◌, ◌++◌, ◌∷◌, []}
use Rattle.pp_model.specs.Config.{Cmt, own_items}
use Rattle.pp_model.specs.Rules.{Meets}
use Rattle.pp_log_shared.specs.Committing.{HoldsIdsOf}
use Rattle.pp_kind.specs.Object.{rules_of}
use Rattle.pp_machine.specs.Judges.{Refuses}
use Rattle.pp_machine.proofs.Judged.{holds_ids, refused_step}
use Rattle.pp_machine.proofs.Judging.{cmt_1}
use Rattle.pp_machine.proofs.Keeping.{holds_cmt, seen_cmt}
use Rattle.pp_machine.proofs.Lent.{lent_holds, lent_view}
use Rattle.pp_machine.proofs.Opened.{coursed, holds_course, rest, uncoursed}
use Rattle.pp_machine.proofs.machine.Machine.commit.Goals as goal

pub returns-in_default : goal.returns-in_default
returns-in_default g c =
    refused_step g.S.Spec.object c.args.self _ (Cmt c.args.tx.now) c.bare.result c.refused.result c.refused.ensures (cmt_1 g.S.Spec.object _ _ (lent_view c.deref_mut-parts.ensures.value c.self.view_is) c.args.tx.now (uncoursed g.S.Spec.object c.deref_mut-parts.result.now.shape c.deref_mut-parts.result.now.transactions c.deref_mut-parts.result.now.ids c.deref_mut-parts.result.now.shared c.deref_mut-parts.result.now.committed c.deref_mut-parts.result.now.count (lent_holds g.S.Spec.object c.deref_mut-parts.ensures.value c.self.invariant) c.args.tx.now c.in_default.ensures.course) c.bare.result c.bare.ensures) (lent_view c.deref_mut-parts.ensures.value c.self.view_is)

pub returns-in-Err : goal.returns-in-Err
returns-in-Err g c =
    refused_step g.S.Spec.object c.args.self _ (Cmt c.args.tx.now) c.in-Err.refusal c.refused-in-Err.result c.refused-in-Err.ensures (subst (λ z. Refuses g.S.Spec.object z (Cmt c.args.tx.now) c.in-Err.refusal) (lent_view c.deref_mut-parts.ensures.value c.self.view_is) (c.in-Err.ensures (rest g.S.Spec.object c.deref_mut-parts.result.now.shape c.deref_mut-parts.result.now.transactions c.deref_mut-parts.result.now.ids c.deref_mut-parts.result.now.shared c.deref_mut-parts.result.now.committed c.deref_mut-parts.result.now.count (lent_holds g.S.Spec.object c.deref_mut-parts.ensures.value c.self.invariant)) c.args.tx.now (holds_course g.S.Spec.object c.deref_mut-parts.result.now.shape c.deref_mut-parts.result.now.transactions c.deref_mut-parts.result.now.ids c.deref_mut-parts.result.now.shared c.deref_mut-parts.result.now.committed c.deref_mut-parts.result.now.count (lent_holds g.S.Spec.object c.deref_mut-parts.ensures.value c.self.invariant) c.args.tx.now c.in-Some.course.now c.in-Some.ensures.course))) (lent_view c.deref_mut-parts.ensures.value c.self.view_is)

pub invariant_of-self-in-Err : goal.invariant_of-self-in-Err
invariant_of-self-in-Err g c = lent_holds g.S.Spec.object c.deref_mut-parts.ensures.value c.self.invariant

pub invariant_of-self-2 : goal.invariant_of-self-2
invariant_of-self-2 g c =
    let m = subst (λ z. Meets (rules_of g.S.Spec.object z.shape) z.config (Cmt c.args.tx.now)) (lent_view c.deref_mut-parts.ensures.value c.self.view_is) (c.in_default-judge_cmt.ensures (rest g.S.Spec.object c.deref_mut-parts.result.now.shape c.deref_mut-parts.result.now.transactions c.deref_mut-parts.result.now.ids c.deref_mut-parts.result.now.shared c.deref_mut-parts.result.now.committed c.deref_mut-parts.result.now.count (lent_holds g.S.Spec.object c.deref_mut-parts.ensures.value c.self.invariant)) c.args.tx.now (holds_course g.S.Spec.object c.deref_mut-parts.result.now.shape c.deref_mut-parts.result.now.transactions c.deref_mut-parts.result.now.ids c.deref_mut-parts.result.now.shared c.deref_mut-parts.result.now.committed c.deref_mut-parts.result.now.count (lent_holds g.S.Spec.object c.deref_mut-parts.ensures.value c.self.invariant) c.args.tx.now c.in-Some.course.now c.in-Some.ensures.course)).0 in
    let k = (coursed g.S.Spec.object c.deref_mut-parts.result.now.shape c.deref_mut-parts.result.now.transactions c.deref_mut-parts.result.now.ids c.deref_mut-parts.result.now.shared c.deref_mut-parts.result.now.committed c.deref_mut-parts.result.now.count (lent_holds g.S.Spec.object c.deref_mut-parts.ensures.value c.self.invariant) c.args.tx.now c.in-Some.course.now c.in-Some.ensures.course) in
    holds_cmt g.S.Spec.object c.deref_mut-parts.result.now.shape c.deref_mut-parts.result.now.transactions c.deref_mut-parts.result.now.ids c.deref_mut-parts.result.now.shared c.deref_mut-parts.result.now.committed c.deref_mut-parts.result.now.count _ (lent_view c.deref_mut-parts.ensures.value c.self.view_is) (lent_holds g.S.Spec.object c.deref_mut-parts.ensures.value c.self.invariant) c.args.tx.now m (c.in-Some.course.now).local k.log c.end_at.new.self c.commit.new.self c.push.new.self (c.end_at.ensures.ended c.args.tx.now c.in-Some.ensures.place) c.commit.ensures (c.in_ok-push.ensures.ok ∙ ap (λ l. c.deref_mut-parts.result.now.committed ++ record { name = c.args.tx.now; entries = l } ∷ []) (c.in_ok-entries.ensures ∙ ap own_items c.entries.ensures ∙ ap (λ l. own_items l.1) c.local.ensures))

pub returns : goal.returns
returns g c =
    let m = subst (λ z. Meets (rules_of g.S.Spec.object z.shape) z.config (Cmt c.args.tx.now)) (lent_view c.deref_mut-parts.ensures.value c.self.view_is) (c.in_default-judge_cmt.ensures (rest g.S.Spec.object c.deref_mut-parts.result.now.shape c.deref_mut-parts.result.now.transactions c.deref_mut-parts.result.now.ids c.deref_mut-parts.result.now.shared c.deref_mut-parts.result.now.committed c.deref_mut-parts.result.now.count (lent_holds g.S.Spec.object c.deref_mut-parts.ensures.value c.self.invariant)) c.args.tx.now (holds_course g.S.Spec.object c.deref_mut-parts.result.now.shape c.deref_mut-parts.result.now.transactions c.deref_mut-parts.result.now.ids c.deref_mut-parts.result.now.shared c.deref_mut-parts.result.now.committed c.deref_mut-parts.result.now.count (lent_holds g.S.Spec.object c.deref_mut-parts.ensures.value c.self.invariant) c.args.tx.now c.in-Some.course.now c.in-Some.ensures.course)).0 in
    let k = (coursed g.S.Spec.object c.deref_mut-parts.result.now.shape c.deref_mut-parts.result.now.transactions c.deref_mut-parts.result.now.ids c.deref_mut-parts.result.now.shared c.deref_mut-parts.result.now.committed c.deref_mut-parts.result.now.count (lent_holds g.S.Spec.object c.deref_mut-parts.ensures.value c.self.invariant) c.args.tx.now c.in-Some.course.now c.in-Some.ensures.course) in
    (m, seen_cmt g.S.Spec.object c.deref_mut-parts.result.now.shape c.deref_mut-parts.result.now.transactions c.deref_mut-parts.result.now.ids c.deref_mut-parts.result.now.shared c.deref_mut-parts.result.now.committed c.deref_mut-parts.result.now.count _ (lent_view c.deref_mut-parts.ensures.value c.self.view_is) (lent_holds g.S.Spec.object c.deref_mut-parts.ensures.value c.self.invariant) c.args.tx.now (c.in-Some.course.now).local k.log c.end_at.new.self c.commit.new.self c.push.new.self (c.end_at.ensures.ended c.args.tx.now c.in-Some.ensures.place) c.commit.ensures (c.in_ok-push.ensures.ok ∙ ap (λ l. c.deref_mut-parts.result.now.committed ++ record { name = c.args.tx.now; entries = l } ∷ []) (c.in_ok-entries.ensures ∙ ap own_items c.entries.ensures ∙ ap (λ l. own_items l.1) c.local.ensures)))

pub commit-requires : goal.commit-requires
commit-requires g c =
    let k = (coursed g.S.Spec.object c.deref_mut-parts.result.now.shape c.deref_mut-parts.result.now.transactions c.deref_mut-parts.result.now.ids c.deref_mut-parts.result.now.shared c.deref_mut-parts.result.now.committed c.deref_mut-parts.result.now.count (lent_holds g.S.Spec.object c.deref_mut-parts.ensures.value c.self.invariant) c.args.tx.now c.in-Some.course.now c.in-Some.ensures.course) in
    subst (λ l. HoldsIdsOf c.args.tx.now l c.deref_mut-parts.result.now.shared.1) (sym (c.in_ok-entries.ensures ∙ ap own_items c.entries.ensures ∙ ap (λ l. own_items l.1) c.local.ensures)) (holds_ids g.S.Spec.object c.deref_mut-parts.result.now.shape c.deref_mut-parts.result.now.transactions c.deref_mut-parts.result.now.ids c.deref_mut-parts.result.now.shared c.deref_mut-parts.result.now.committed c.deref_mut-parts.result.now.count (lent_holds g.S.Spec.object c.deref_mut-parts.ensures.value c.self.invariant) c.args.tx.now (c.in-Some.course.now).local k.log)
