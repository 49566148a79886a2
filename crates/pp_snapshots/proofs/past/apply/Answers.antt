use Rattle.std.proofs.Common.{◌≡◌, ap, sym, refl, ◌∙◌}
use Rattle.pp_kind.specs.Object.{IsLegal}
use Rattle.pp_snapshots.proofs.Kept.{made_others, pushed}
use Rattle.pp_snapshots.proofs.Pasts.{allowed_if_legal, grown, legal_if_allowed, reached}
use Rattle.pp_snapshots.proofs.past.apply.Goals as goal

pub apply-requires-clause-reached : goal.apply-requires-clause-reached
apply-requires-clause-reached g c =
    reached g.S.Spec.object g.S.Placed.place_of g.S.Placed.SameAt g.met.S.Spec.lawful g.met.S.Placed.placed c.requires.some.0 c.args.past.now c.requires.some.1.0 c.requires.some.1.1
    c.requires.few

pub returns-in-Differs-clause-follows : goal.returns-in-Differs-clause-follows
returns-in-Differs-clause-follows g c =
    let applied = rw c.in-Differs.is at c.in_ok-apply.ensures.applied in
    let past = c.args.past.now in (
      (λ shape h is k. applied.0 (legal_if_allowed g.S.Spec.object g.S.Placed.place_of g.S.Placed.SameAt g.met.S.Spec.lawful g.met.S.Placed.placed shape past h is c.args.op.now k).1),
      ap (λ s. record { alloc = past.alloc; state = s; places = past.places; size = past.size }) applied.1,
    )

pub returns-in_ok-push-in-Done-clause-follows : goal.returns-in_ok-push-in-Done-clause-follows
returns-in_ok-push-in-Done-clause-follows g c =
    let o = g.S.Spec.object in
    let place = g.S.Placed.place_of in
    let applied = rw c.in-Done.is at c.in_ok-apply.ensures.applied in
    let past = c.args.past.now in
    let op = c.args.op.now in
    let legal : IsLegal o past.state op = (c.requires.fits, applied.0) in
    let ps = c.make_places.new.places.items in
    let p = c.from-place.result in
    let p_is : place op ≡ p = sym (c.from-place.ensures ∙ c.place.ensures) in
    let there = c.in_ok-make_places-in-Done.ensures.there in
    let same = c.in_ok-make_places-in-Done.ensures.same in (
      (λ shape h is. (
        allowed_if_legal o place g.S.Placed.SameAt g.met.S.Spec.lawful g.met.S.Placed.placed shape past h is op legal,
        grown o place g.S.Placed.SameAt g.met.S.Spec.lawful g.met.S.Placed.placed shape past h is _ op legal c.requires.ranged applied.2 refl
            (pushed past.places.items ps p (place op) c.index_mut.result.now (record { made = c.push.new.self }) (record { op = op; undo = c.in-Done.undo }) _ p_is there c.index_mut.ensures.value same
            c.in_ok-push-in-Done.ensures.items (ap (λ u. record { op = op; undo = u }) applied.1))
            (λ q n. made_others ps p q _ (λ e. n (p_is ∙ e)) ∙ same q),
      )),
      refl,
    )
