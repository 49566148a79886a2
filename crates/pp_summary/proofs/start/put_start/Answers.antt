use Rattle.std.proofs.Common.{◌++◌, ◌∷◌, ◌∙◌, [], ap, refl, subst, sym}
use Rattle.pp_model.specs.Config.{commit_all}
use Rattle.pp_log_shared.specs.Committing.{HoldsIdsOf}
use Rattle.pp_summary.specs.Shown.{at, ids_at}
use Rattle.pp_summary.proofs.HeldOf.{apart_of}
use Rattle.pp_summary.proofs.Starting.{start_entries_ids, not_begun, started}
use Rattle.pp_summary.proofs.start.put_start.Goals as goal

pub commit-requires : goal.commit-requires
commit-requires g c = subst (λ z. HoldsIdsOf c.args.tx.now c.args.items.now z.1) (sym c.requires.log) (start_entries_ids c.args.tx.now c.args.items.now)

pub put_new-requires : goal.put_new-requires
put_new-requires g c =
    let apart = apart_of g.S.Spec.object g.S.Placed.place_of g.S.Placed.SameAt g.met.S.Placed.placed in
    not_begun g.S.Spec.object g.S.Placed.place_of apart c.args.parts.now c.requires.keeps c.requires.new c.args.tx.now

pub returns : goal.returns
returns g c =
    let apart = apart_of g.S.Spec.object g.S.Placed.place_of g.S.Placed.SameAt g.met.S.Placed.placed in
    started g.S.Spec.object g.S.Placed.place_of apart c.args.parts.now c.requires.keeps c.requires.new c.args.tx.now c.args.items.now _ refl refl
    c.in_ok-put_new.ensures refl c.requires.ids
    (c.commit.ensures ∙ ap (λ z. (z.0, commit_all c.args.tx.now z.1)) c.requires.log)
    (c.in_ok-push.ensures.ok ∙ ap (λ l. c.args.parts.now.committed ++ record { name = c.args.tx.now; entries = l } ∷ []) (c.in_ok-entries.ensures ∙ c.as_slice-2.ensures))
    (λ q. c.in_ok-add_commits.ensures q ∙ ap (λ l. at q c.args.parts.now.commits.items ++ ids_at g.S.Placed.place_of q l) c.as_slice.ensures)
    c.requires.few c.requires.asked c.requires.meets
