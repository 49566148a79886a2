use Rattle.std.proofs.Common.{◌∙◌, ◌++◌, ◌∷◌, [], Some, ap, refl, subst, sym}
use Rattle.std.specs.Map.{set_value}
use Rattle.std.specs.Str.{bytes_eq}
use Rattle.pp_model.specs.Body.{IsWord}
use Rattle.pp_model.specs.Rules.{calls}
use Rattle.pp_model.proofs.Finding.{decided, decided_not}
use Rattle.pp_log_shared.specs.Committing.{HoldsIdsOf}
use Rattle.pp_summary.specs.Shown.{Kept, as_held, at, ids_at, in_slot, shown_tx}
use Rattle.pp_kind.specs.Object.{rules_of}
use Rattle.pp_summary.proofs.HeldOf.{apart_of, holds_ids}
use Rattle.pp_summary.proofs.Judging.{it_is, not_open, of_it, word_is}
use Rattle.pp_summary.proofs.Moving.{committed_moves, open_there}
use Rattle.pp_summary.proofs.Lent.{given_back}
use Rattle.pp_summary.proofs.commit.commit.Goals as goal

pub returns-in_default : goal.returns-in_default
returns-in_default g c =
    let apart = apart_of g.S.Spec.object g.S.Placed.place_of g.S.Placed.SameAt g.met.S.Placed.placed in
    let now : Kept g.row.S-Shape.Denot g.row.S-Op.Denot = c.args.parts.now in (
      (λ k. not_open g.S.Spec.object g.S.Placed.place_of apart c.args.parts.now c.requires.keeps c.args.tx.now (λ x. IsWord x.body (calls (rules_of g.S.Spec.object c.args.parts.now.shape) x.own)) (sym (ap in_slot c.in_default.ensures.value)) k),
      ap (λ z. record now { slots = z }) c.get_mut.follows.holds-at-none,
    )

pub returns-in_default-take : goal.returns-in_default-take
returns-in_default-take g c =
    let apart = apart_of g.S.Spec.object g.S.Placed.place_of g.S.Placed.SameAt g.met.S.Placed.placed in
    let now : Kept g.row.S-Shape.Denot g.row.S-Op.Denot = c.args.parts.now in
    let there = sym c.in-Some.ensures.value ∙ ap (λ s. Some s) (sym c.in_default-take.ensures.value ∙ sym c.in_default-take.ensures.after) in (
      (λ k. not_open g.S.Spec.object g.S.Placed.place_of apart c.args.parts.now c.requires.keeps c.args.tx.now (λ x. IsWord x.body (calls (rules_of g.S.Spec.object c.args.parts.now.shape) x.own)) (sym (ap in_slot c.in-Some.ensures.value) ∙ sym c.in_default-take.ensures.value) k),
      ap (λ z. record now { slots = z }) (given_back _ (bytes_eq c.args.tx.now) c.args.parts.now.slots _ c.take.new.self there (c.get_mut.follows.holds c.take.new.self)),
    )

pub returns-then-not-complete : goal.returns-then-not-complete
returns-then-not-complete g c =
    let apart = apart_of g.S.Spec.object g.S.Placed.place_of g.S.Placed.SameAt g.met.S.Placed.placed in
    let now : Kept g.row.S-Shape.Denot g.row.S-Op.Denot = c.args.parts.now in
    let found = sym (ap in_slot c.in-Some.ensures.value) ∙ sym c.in-Some-take.ensures.value in
    let tells = word_is g.S.Spec.object g.S.Placed.place_of apart c.args.parts.now c.requires.keeps c.args.tx.now c.in-Some-take.it found c.complete.result c.complete.ensures in
    let there = sym c.in-Some.ensures.value ∙ ap (λ s. Some s) (sym c.in-Some-take.ensures.value) in (
      (λ k. decided_not c.complete.result _ tells c.if-not-complete.true (of_it g.S.Spec.object g.S.Placed.place_of apart c.args.parts.now c.requires.keeps c.args.tx.now c.in-Some-take.it found (λ x. IsWord x.body (calls (rules_of g.S.Spec.object c.args.parts.now.shape) x.own)) k)),
      ap (λ z. record now { slots = z }) (given_back _ (bytes_eq c.args.tx.now) c.args.parts.now.slots _ (Some c.in-Some-take.it) there (c.get_mut.follows.holds (Some c.in-Some-take.it))),
    )

pub commit-requires : goal.commit-requires
commit-requires g c =
    let apart = apart_of g.S.Spec.object g.S.Placed.place_of g.S.Placed.SameAt g.met.S.Placed.placed in
    let found = sym (ap in_slot c.in-Some.ensures.value) ∙ sym c.in-Some-take.ensures.value in
    subst (λ l. HoldsIdsOf c.args.tx.now l c.args.parts.now.shared.1) (sym c.into_items-own.ensures)
    (holds_ids g.S.Spec.object g.S.Placed.place_of apart (as_held g.S.Placed.place_of c.args.parts.now) c.requires.keeps.is_held c.args.tx.now
    (shown_tx g.S.Placed.place_of c.args.parts.now.shared.1 c.args.parts.now.commits.items c.args.tx.now c.in-Some-take.it)
    (open_there g.S.Spec.object g.S.Placed.place_of apart c.args.parts.now c.requires.keeps c.args.tx.now c.in-Some-take.it found))

pub returns : goal.returns
returns g c =
    let apart = apart_of g.S.Spec.object g.S.Placed.place_of g.S.Placed.SameAt g.met.S.Placed.placed in
    let found = sym (ap in_slot c.in-Some.ensures.value) ∙ sym c.in-Some-take.ensures.value in
    let tells = word_is g.S.Spec.object g.S.Placed.place_of apart c.args.parts.now c.requires.keeps c.args.tx.now c.in-Some-take.it found c.complete.result c.complete.ensures in
    let good = it_is g.S.Spec.object g.S.Placed.place_of apart c.args.parts.now c.requires.keeps c.args.tx.now c.in-Some-take.it found (λ x. IsWord x.body (calls (rules_of g.S.Spec.object c.args.parts.now.shape) x.own)) (decided c.complete.result _ tells c.if-not-complete.false) in
    let own_is = c.into_items-own.ensures in (
      good,
      committed_moves g.S.Spec.object g.S.Placed.place_of apart c.args.parts.now c.requires.keeps c.args.tx.now c.in-Some-take.it _ good found
          ((c.get_mut.follows.holds c.take.new.self).0 ∙ ap (set_value (bytes_eq c.args.tx.now) c.args.parts.now.slots.entries) c.in-Some-take.ensures.after)
          c.swap_remove.ensures.updates.0 refl c.commit.ensures refl
          (λ q. c.in_ok-add_commits.ensures q ∙ ap (λ l. at q c.args.parts.now.commits.items ++ ids_at g.S.Placed.place_of q l) (c.as_slice.ensures ∙ own_is))
          (c.in_ok-push.ensures.ok ∙ ap (λ l. c.args.parts.now.committed ++ record { name = c.args.tx.now; entries = l } ∷ []) own_is) refl,
    )
