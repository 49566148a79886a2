use Rattle.std.proofs.Common.{◌<◌, ◌+◌, length, get_or, refl, sym, ◌∙◌, subst, arith}
use Rattle.std.proofs.lemmas.List.{get_or_default}
use Rattle.std.proofs.lemmas.Option.{slice_get_within}
use Rattle.pp_model.specs.Object.{ops}
use Rattle.pp_log.specs.Batches.{IsAlong}
use Rattle.pp_log.specs.Leaves.{HasIdAt}
use Rattle.pp_log.proofs.Batches.{IsGathering, first_within, gathered_first, gathered_last, gathered_other, gathered_own, id_of_item, many}
use Rattle.pp_log.proofs.Others.{at_first_own, at_next_own, at_same_own}
use Rattle.pp_log.proofs.carry.gather.Goals as goal
use Rattle.pp_log.proofs.carry.gather.Goals.{then-has_id_at, else-has_id_at}

pub loop-at-init : goal.loop-at-init
loop-at-init g c =
    let o = g.S.Spec.object in
    let place = g.S.Placed.place_of in
    let batch = c.args.batch.now in
    let from = c.args.from in
    let ids = c.args.ids.now in
    let us = c.args.undos.now.items in
    let there = c.requires.1 in
    let first = first_within o place batch from ids c.requires.0 there in
    let all = many o place batch from ids c.requires.0 there in
    record {
      begun = omega arith;
      some = omega arith;
      within = omega arith;
      size = refl;
      gathers = λ items h. (at_first_own batch items from h.stand, λ b s base along. gathered_first o place batch from ids items h b s base us along);
    }

pub loop-at-preserved : goal.loop-at-preserved
loop-at-preserved g c =
    let o = g.S.Spec.object in
    let place = g.S.Placed.place_of in
    let batch = c.args.batch.now in
    let from = c.args.from in
    let ids = c.args.ids.now in
    let us = c.args.undos.now.items in
    let vs = c.loop-at.undos.items in
    let at = c.loop-at.at in
    let next = c.loop-at.next in
    let inv = c.loop-at.invariant in
    let test = c.loop-at-test.true in
    elim c.if-has_id_at.branch [
      | then-has_id_at w ↦
          let has = c.has_id_at.ensures.yes w.if-has_id_at.true in
          let bound = slice_get_within batch next has.0 has.1 in
          subst (λ n. IsGathering o place batch from ids us (at + 1) n c.if-has_id_at.undos.items) (sym w.next-is)
          (subst (λ v. IsGathering o place batch from ids us (at + 1) (next + 1) v.items) (sym w.undos-is) (record {
            begun = let begun = inv.begun in omega arith;
            some = omega arith;
            within = omega arith;
            size = inv.size;
            gathers = λ items h.
                let all = many o place batch from ids items h in
                let lt : at < length items = omega arith in
                let d = get_or items at h.stand.first in
                let is = get_or_default items at h.stand.first d lt in
                let now = inv.gathers items h in
                let next_has = subst (HasIdAt batch next) (sym (id_of_item o place batch from ids items h at lt)) has in (
                  at_next_own batch items from h.stand at next now.0 d lt is next_has,
                  λ b s base along. subst (λ l. IsAlong o b base (ops l) vs s) (sym (gathered_own o place batch from ids items h at next now.0 d lt is next_has)) (now.1 b s base along),
                );
          }))
      | else-has_id_at w ↦
          let none = c.has_id_at.ensures.no w.if-has_id_at.false in
          subst (λ n. IsGathering o place batch from ids us (at + 1) n c.if-has_id_at.undos.items) (sym w.next-is)
          (subst (λ v. IsGathering o place batch from ids us (at + 1) next v.items) (sym w.undos-is) (record {
            begun = let begun = inv.begun in omega arith;
            some = inv.some;
            within = omega arith;
            size = w.carry_all_over.ensures.size ∙ inv.size;
            gathers = λ items h.
                let all = many o place batch from ids items h in
                let lt : at < length items = omega arith in
                let d = get_or items at h.stand.first in
                let is = get_or_default items at h.stand.first d lt in
                let now = inv.gathers items h in
                let not_next : HasIdAt batch next d.id → ⊥ = λ i. none (subst (HasIdAt batch next) (id_of_item o place batch from ids items h at lt) i) in (
                  at_same_own batch items from h.stand at next now.0 d lt is not_next,
                  λ b s base along. gathered_other o place batch from ids items h at next now.0 d lt is not_next inv.some us vs w.carry_all_over.new.undos.items b s base inv.size along w.carry_all_over.ensures.carries (now.1 b s base along),
                );
          }))
    ]

pub returns-clause-gathers : goal.returns-clause-gathers
returns-clause-gathers g c = λ b s base items h along.
    let o = g.S.Spec.object in
    let place = g.S.Placed.place_of in
    let batch = c.args.batch.now in
    let from = c.args.from in
    let ids = c.args.ids.now in
    let test = c.loop-at-test.false in
    let all = many o place batch from ids items h in
    let now = c.loop-at.invariant.gathers items h in
    subst (λ l. IsAlong o b base (ops l) c.loop-at.undos.items s) (gathered_last o place batch from ids items h c.loop-at.at c.loop-at.next (omega arith) now.0) (now.1 b s base along)
