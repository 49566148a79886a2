use Rattle.std.proofs.Common.{◌≡◌, ◌+◌, IfOk, OnOk, [], ap, length, subst, ◌∙◌}
use Rattle.std.proofs.lemmas.Result.{IfOk-weaker}
use Rattle.pp_machine.specs.Starting.{JudgesStart}
use Rattle.pp_model.specs.Config.{start_with}
use Rattle.pp_machine.specs.Starts.{first_repeated}
use Rattle.pp_machine.proofs.Starting.{judged, repeated_refused, told_distinct}
use Rattle.pp_machine.proofs.Lent.{lent_view}
use Rattle.pp_machine.proofs.machine.Machine.judge_start.Goals as goal

pub returns-in-Some-clause-judges : goal.returns-in-Some-clause-judges
returns-in-Some-clause-judges g c =
    repeated_refused g.S.Spec.object g.met.S.Spec.lawful c.args.self.now.shape c.args.tx.now c.args.items.now c.in-Some.id (c.in-Some.ensures ∙ ap (λ l. first_repeated [] l) c.as_slice-items.ensures) _ c.told.ensures

pub posted-requires-clause-distinct : goal.posted-requires-clause-distinct
posted-requires-clause-distinct g c = told_distinct c.as_slice-items.result.now c.in_default.ensures

pub returns-clause-judges : goal.returns-clause-judges
returns-clause-judges g c =
    IfOk-weaker c.posted.result _ _
    (λ r h.
    subst (λ k. JudgesStart g.S.Spec.object k (start_with c.args.tx.now c.args.items.now) r) (ap (λ v. v.shape) (lent_view c.deref-parts.ensures c.self.view_is))
    (subst (λ l. JudgesStart g.S.Spec.object c.deref-parts.result.now.shape (start_with c.args.tx.now l) r) c.as_slice-items.ensures
    (judged g.S.Spec.object g.met.S.Spec.lawful c.deref-parts.result.now.shape c.args.tx.now c.as_slice-items.result.now (told_distinct c.as_slice-items.result.now c.in_default.ensures) r h)))
    c.posted.ensures.posts

pub returns-clause-cost : goal.returns-clause-cost
returns-clause-cost g c =
    subst (λ l. IfOk c.posted.result (λ r. OnOk r (c.posted.new.ticks ≡ c.args.ticks.now + length l))) c.as_slice-items.ensures c.posted.ensures.cost
