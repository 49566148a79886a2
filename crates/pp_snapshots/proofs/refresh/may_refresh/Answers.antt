use Rattle.std.proofs.Common.{◌≡◌, ◌==◌, ◌∙◌, arith, ap, drop, false, length, subst, sym}
use Rattle.std.proofs.lemmas.List.{length-map}
use Rattle.pp_laws_summary.specs.Places.{ops_at}
use Rattle.pp_model.specs.Object.{ops}
use Rattle.pp_snapshots.specs.Costs.{share_part}
use Rattle.pp_snapshots.specs.Many.{AreAsked, AreThere, ops_made}
use Rattle.pp_snapshots.specs.Past.{made_at}
use Rattle.pp_snapshots.specs.Refreshing.{TellsLater, TellsRefresh}
use Rattle.pp_snapshots.proofs.Apart.{refresh_tells, unshared_tells}
use Rattle.pp_snapshots.proofs.Asking.{are_there, filter_short, ok_then, part_asked}
use Rattle.pp_snapshots.proofs.refresh.may_refresh.Goals as goal

pub returns-then-not-shares_part-clause-tells : goal.returns-then-not-shares_part-clause-tells
returns-then-not-shares_part-clause-tells g c =
    let o = g.S.Spec.object in
    let place = g.S.Placed.place_of in
    let part = g.S.Parted.part_of in
    let past = c.args.past.now in
    let x = c.args.it.now in
    let p = c.args.place in
    let n = c.seen_at-seen.result in
    let own_is = c.in_ok-own.ensures ∙ ap (λ l. ops_at place p (ops l)) c.as_slice.ensures in
    let later_is = c.deref-2.ensures.value ∙ c.in_ok-later.ensures ∙ ap (λ q. drop n (ops_made (made_at q past.places.items))) c.from.ensures in
    let none : share_part part c.deref.result.now c.deref-2.result.now ≡ false = sym c.shares_part.ensures ∙ c.if-not-shares_part.true in
    unshared_tells o place g.S.Placed.SameAt g.met.S.Spec.lawful g.met.S.Placed.placed part g.met.S.Parted.parted g.met.S.PartByPart.alone past p n x c.deref.result.now c.deref-2.result.now c.seen_at-seen.ensures
    (c.deref.ensures.value ∙ own_is) later_is none c.requires.has

pub ask_later-requires-clause-own : goal.ask_later-requires-clause-own
ask_later-requires-clause-own g c =
    let o = g.S.Spec.object in
    let place = g.S.Placed.place_of in
    let part = g.S.Parted.part_of in
    let past = c.args.past.now in
    let x = c.args.it.now in
    let p = c.args.place in
    let n = c.seen_at-seen.result in
    let own_is = c.in_ok-own.ensures ∙ ap (λ l. ops_at place p (ops l)) c.as_slice.ensures in
    subst (AreAsked o past) (sym (c.deref-3.ensures.value ∙ own_is)) (part_asked o place past p (ops x.own) c.requires.own)

pub ask_later-requires-clause-there : goal.ask_later-requires-clause-there
ask_later-requires-clause-there g c =
    let o = g.S.Spec.object in
    let place = g.S.Placed.place_of in
    let part = g.S.Parted.part_of in
    let past = c.args.past.now in
    let x = c.args.it.now in
    let p = c.args.place in
    let n = c.seen_at-seen.result in
    let own_is = c.in_ok-own.ensures ∙ ap (λ l. ops_at place p (ops l)) c.as_slice.ensures in
    subst (AreThere place p) (sym (c.deref-3.ensures.value ∙ own_is)) (are_there place p (ops x.own))

pub ask_later-requires-clause-few : goal.ask_later-requires-clause-few
ask_later-requires-clause-few g c =
    let o = g.S.Spec.object in
    let place = g.S.Placed.place_of in
    let part = g.S.Parted.part_of in
    let past = c.args.past.now in
    let x = c.args.it.now in
    let p = c.args.place in
    let n = c.seen_at-seen.result in
    let own_is = c.in_ok-own.ensures ∙ ap (λ l. ops_at place p (ops l)) c.as_slice.ensures in
    let size = ap (λ l. length l) (c.deref-3.ensures.value ∙ own_is) in
    let short = filter_short (λ a. place a == p) (ops x.own) in
    let same = length-map x.own (λ e. e.op) in
    omega (arith, size, short, same, c.requires.few)

pub returns-clause-tells : goal.returns-clause-tells
returns-clause-tells g c =
    let o = g.S.Spec.object in
    let place = g.S.Placed.place_of in
    let part = g.S.Parted.part_of in
    let past = c.args.past.now in
    let x = c.args.it.now in
    let p = c.args.place in
    let n = c.seen_at-seen.result in
    let own_is = c.in_ok-own.ensures ∙ ap (λ l. ops_at place p (ops l)) c.as_slice.ensures in
    ok_then c.ask_later.result (λ good. TellsLater o place past p n c.deref-3.result.now good c.ask_later.new.past) (λ good. TellsRefresh o place past p x good c.ask_later.new.past)
    (λ good told. refresh_tells o place past c.ask_later.new.past p n x c.deref-3.result.now good c.seen_at-seen.ensures (c.deref-3.ensures.value ∙ own_is) told)
    c.ask_later.ensures.tells
