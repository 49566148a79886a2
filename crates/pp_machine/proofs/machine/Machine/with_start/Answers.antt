use Rattle.std.proofs.Common.{[], ◌∷◌, ◌++◌, ap, ◌∙◌, subst, sym}
use Rattle.pp_model.specs.Config.{commit_all, start_with}
use Rattle.pp_log_shared.specs.Committing.{HoldsIdsOf}
use Rattle.pp_machine.proofs.Lent.{lent_view}
use Rattle.pp_machine.proofs.Started.{holds_started, ids_posted, not_begun, seen_started}
use Rattle.pp_machine.proofs.machine.Machine.with_start.Goals as goal

pub use_name-requires : goal.use_name-requires
use_name-requires g c =
    not_begun g.S.Spec.object c.deref_mut-parts.result.now.shape c.deref_mut-parts.result.now.transactions c.deref_mut-parts.result.now.ids c.deref_mut-parts.result.now.shared c.deref_mut-parts.result.now.committed c.deref_mut-parts.result.now.count _ (lent_view c.deref_mut-parts.ensures.value c.self.view_is) c.requires.empty c.args.tx

pub commit-requires : goal.commit-requires
commit-requires g c =
    subst (λ l. HoldsIdsOf c.args.tx l c.args.shared.1) (sym c.in_ok-entries.ensures) (subst (λ z. HoldsIdsOf c.args.tx c.args.items.now z.1) (sym c.requires.log) (ids_posted c.args.tx c.args.items.now))

pub invariant_of-self : goal.invariant_of-self
invariant_of-self g c =
    holds_started g.S.Spec.object c.deref_mut-parts.result.now.shape c.deref_mut-parts.result.now.transactions c.deref_mut-parts.result.now.ids c.deref_mut-parts.result.now.shared c.deref_mut-parts.result.now.committed c.deref_mut-parts.result.now.count _ (lent_view c.deref_mut-parts.ensures.value c.self.view_is) c.requires.empty (start_with c.args.tx c.args.items.now) c.use_name.new.self c.in_ok-ids.ids c.commit.new.self c.push.new.self c.in_ok-use_name.ensures.ok c.in_ok-ids.ensures (c.commit.ensures ∙ ap (λ z. (z.0, commit_all c.args.tx z.1)) c.requires.log) (c.in_ok-push.ensures.ok ∙ ap (λ l. c.deref_mut-parts.result.now.committed ++ record { name = c.args.tx; entries = l } ∷ []) c.in_ok-entries.ensures) c.requires.asked c.requires.few c.requires.meets

pub returns : goal.returns
returns g c =
    seen_started g.S.Spec.object c.deref_mut-parts.result.now.shape c.deref_mut-parts.result.now.transactions c.deref_mut-parts.result.now.ids c.deref_mut-parts.result.now.shared c.deref_mut-parts.result.now.committed c.deref_mut-parts.result.now.count _ (lent_view c.deref_mut-parts.ensures.value c.self.view_is) c.requires.empty (start_with c.args.tx c.args.items.now) c.use_name.new.self c.in_ok-ids.ids c.commit.new.self c.push.new.self c.in_ok-use_name.ensures.ok c.in_ok-ids.ensures (c.commit.ensures ∙ ap (λ z. (z.0, commit_all c.args.tx z.1)) c.requires.log) (c.in_ok-push.ensures.ok ∙ ap (λ l. c.deref_mut-parts.result.now.committed ++ record { name = c.args.tx; entries = l } ∷ []) c.in_ok-entries.ensures) c.requires.uncounted
