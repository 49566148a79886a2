use Rattle.std.proofs.Common.{◌≡◌, IsTrue, ap, sym, ◌∙◌, drop, subst, take}
use Rattle.pp_model.specs.Lists.{In}
use Rattle.pp_snapshots.specs.Many.{CanAllGoBack, MayFollow, ops_made}
use Rattle.pp_snapshots.specs.Past.{at_place, made_at}
use Rattle.pp_snapshots.proofs.Manies.{again, asked_there, follow_first, in_dropped, may_again, ops_there, put_on, same_past, taken_off}
use Rattle.pp_snapshots.proofs.Pasts.{shape_is}
use Rattle.pp_snapshots.proofs.many.may_follow.Goals as goal

pub take_all_back-requires-clause-can : goal.take_all_back-requires-clause-can
take_all_back-requires-clause-can g c =
    let o = g.S.Spec.object in
    let place = g.S.Placed.place_of in
    let s = c.requires.some in
    let p = c.args.place in
    let n = c.args.seen in
    let past = c.args.past.now in
    let h = s.1.0 in
    let later : c.deref.result.now ≡ drop n (h p) =
    c.deref.ensures.value ∙ c.in_ok-later.ensures ∙ ap (λ q. drop n (ops_made (made_at q past.places.items))) c.from.ensures ∙ ap (drop n) (ops_there o place s.0 past h s.1.1 p) in
    subst (CanAllGoBack o place past) (sym later) (record {
      shape = s.0;
      ops = at_place p (take n (h p)) h;
      past = same_past o place s.0 past h _ (again o place g.S.Placed.SameAt g.met.S.Spec.lawful g.met.S.Placed.placed s.0 past h p n s.1.1) s.1.1;
    })

pub can_follow-requires-clause-some : goal.can_follow-requires-clause-some
can_follow-requires-clause-some g c =
    let o = g.S.Spec.object in
    let place = g.S.Placed.place_of in
    let s = c.requires.some in
    let p = c.args.place in
    let n = c.args.seen in
    let past = c.args.past.now in
    let h = s.1.0 in
    let later : c.deref.result.now ≡ drop n (h p) =
    c.deref.ensures.value ∙ c.in_ok-later.ensures ∙ ap (λ q. drop n (ops_made (made_at q past.places.items))) c.from.ensures ∙ ap (drop n) (ops_there o place s.0 past h s.1.1 p) in
    let first = taken_off o place g.S.Placed.SameAt g.met.S.Spec.lawful g.met.S.Placed.placed s.0 past c.take_all_back.new.past h p n c.deref.result.now later c.in_ok-take_all_back.ensures.back s.1.1 in
    (s.0, (at_place p (take n (h p)) h, first))

pub can_follow-requires-clause-asked : goal.can_follow-requires-clause-asked
can_follow-requires-clause-asked g c = λ a i.
    let o = g.S.Spec.object in
    let place = g.S.Placed.place_of in
    let s = c.requires.some in
    let p = c.args.place in
    let n = c.args.seen in
    let past = c.args.past.now in
    let h = s.1.0 in
    let later : c.deref.result.now ≡ drop n (h p) =
    c.deref.ensures.value ∙ c.in_ok-later.ensures ∙ ap (λ q. drop n (ops_made (made_at q past.places.items))) c.from.ensures ∙ ap (drop n) (ops_there o place s.0 past h s.1.1 p) in
    let first = taken_off o place g.S.Placed.SameAt g.met.S.Spec.lawful g.met.S.Placed.placed s.0 past c.take_all_back.new.past h p n c.deref.result.now later c.in_ok-take_all_back.ensures.back s.1.1 in
    let old = shape_is o place g.S.Placed.SameAt g.met.S.Spec.lawful g.met.S.Placed.placed s.0 past h s.1.1 in
    let new = shape_is o place g.S.Placed.SameAt g.met.S.Spec.lawful g.met.S.Placed.placed s.0 c.take_all_back.new.past _ first in
    let asked = c.requires.asked a i in
    (subst (λ sh. IsTrue (o.fits sh a)) (old ∙ sym new) asked.0, asked.1)

pub put_again-requires-clause-may : goal.put_again-requires-clause-may
put_again-requires-clause-may g c =
    let o = g.S.Spec.object in
    let place = g.S.Placed.place_of in
    let s = c.requires.some in
    let p = c.args.place in
    let n = c.args.seen in
    let past = c.args.past.now in
    let h = s.1.0 in
    let later : c.deref.result.now ≡ drop n (h p) =
    c.deref.ensures.value ∙ c.in_ok-later.ensures ∙ ap (λ q. drop n (ops_made (made_at q past.places.items))) c.from.ensures ∙ ap (drop n) (ops_there o place s.0 past h s.1.1 p) in
    let first = taken_off o place g.S.Placed.SameAt g.met.S.Spec.lawful g.met.S.Placed.placed s.0 past c.take_all_back.new.past h p n c.deref.result.now later c.in_ok-take_all_back.ensures.back s.1.1 in
    let later_2 : c.deref-2.result.now ≡ drop n (h p) = c.deref-2.ensures.value ∙ sym c.deref.ensures.value ∙ later in
    let asked = (c.in_ok-good.ensures.tells s.0 (at_place p (take n (h p)) h) first).1 in
    record {
      shape = s.0;
      ops = at_place p (take n (h p)) h;
      past = asked;
      may = subst (MayFollow o place s.0 (at_place p (take n (h p)) h)) (sym later_2) (may_again o place g.S.Placed.SameAt g.met.S.Spec.lawful g.met.S.Placed.placed s.0 past h p n s.1.1);
    }

pub put_again-requires-clause-asked : goal.put_again-requires-clause-asked
put_again-requires-clause-asked g c = λ a i.
    let o = g.S.Spec.object in
    let place = g.S.Placed.place_of in
    let s = c.requires.some in
    let p = c.args.place in
    let n = c.args.seen in
    let past = c.args.past.now in
    let h = s.1.0 in
    let later : c.deref.result.now ≡ drop n (h p) =
    c.deref.ensures.value ∙ c.in_ok-later.ensures ∙ ap (λ q. drop n (ops_made (made_at q past.places.items))) c.from.ensures ∙ ap (drop n) (ops_there o place s.0 past h s.1.1 p) in
    let first = taken_off o place g.S.Placed.SameAt g.met.S.Spec.lawful g.met.S.Placed.placed s.0 past c.take_all_back.new.past h p n c.deref.result.now later c.in_ok-take_all_back.ensures.back s.1.1 in
    let later_2 : c.deref-2.result.now ≡ drop n (h p) = c.deref-2.ensures.value ∙ sym c.deref.ensures.value ∙ later in
    let asked = (c.in_ok-good.ensures.tells s.0 (at_place p (take n (h p)) h) first).1 in
    let there = asked_there o place g.S.Placed.SameAt g.met.S.Spec.lawful g.met.S.Placed.placed s.0 past h s.1.1 p a (in_dropped (h p) n a (subst (λ l. In a l) later_2 i)) in
    let new = shape_is o place g.S.Placed.SameAt g.met.S.Spec.lawful g.met.S.Placed.placed s.0 c.can_follow.new.past _ asked in
    (subst (λ sh. IsTrue (o.fits sh a)) (sym new) there.0, there.1)

pub returns-clause-tells : goal.returns-clause-tells
returns-clause-tells g c = λ shape h is.
    let o = g.S.Spec.object in
    let place = g.S.Placed.place_of in
    let p = c.args.place in
    let n = c.args.seen in
    let past = c.args.past.now in
    let later : c.deref.result.now ≡ drop n (h p) =
    c.deref.ensures.value ∙ c.in_ok-later.ensures ∙ ap (λ q. drop n (ops_made (made_at q past.places.items))) c.from.ensures ∙ ap (drop n) (ops_there o place shape past h is p) in
    let first = taken_off o place g.S.Placed.SameAt g.met.S.Spec.lawful g.met.S.Placed.placed shape past c.take_all_back.new.past h p n c.deref.result.now later c.in_ok-take_all_back.ensures.back is in
    let later_2 : c.deref-2.result.now ≡ drop n (h p) = c.deref-2.ensures.value ∙ sym c.deref.ensures.value ∙ later in
    let told = c.in_ok-good.ensures.tells shape (at_place p (take n (h p)) h) first in
    let same = follow_first o place g.S.Placed.SameAt g.met.S.Spec.lawful g.met.S.Placed.placed shape c.take_all_back.new.past h p n c.args.ops.now c.requires.there first in (
      ((λ good. same.0 (told.0.0 good)), (λ k. told.0.1 (same.1 k))),
      put_on o place g.S.Placed.SameAt g.met.S.Spec.lawful g.met.S.Placed.placed shape past c.can_follow.new.past c.put_again.new.past h p n c.deref-2.result.now later_2 c.in_ok-put_again.ensures.done is told.1,
    )
