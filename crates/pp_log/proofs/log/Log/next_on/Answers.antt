use Rattle.std.proofs.Common.{◌+◌, ◌-◌, ◌/◌, length, map, refl, sym, ◌∙◌, ap, arith}
use Rattle.std.specs.List.{slice_get}
use Rattle.std.proofs.lemmas.List.{length-map}
use Rattle.std.proofs.lemmas.Option.{slice_get_read}
use Rattle.pp_log.specs.Parts.{there}
use Rattle.pp_log.proofs.Nexts.{ahead_all, distinct_seen, found_at, if_none, if_some}
use Rattle.pp_log.proofs.Nexts.{ids_are, never_lost, next_stands, no_items, none_stands}
use Rattle.pp_log.proofs.Nexts.{stand_before, stand_behind}
use Rattle.pp_log.proofs.log.Log.next_on.Goals as goal

pub returns-in_err-ids-clause-none : goal.returns-in_err-ids-clause-none
returns-in_err-ids-clause-none g c =
    let place = g.S.Placed.place_of in
    let f = g.T.Side.item_of in
    let p = c.args.place in
    let x = c.args.self.now.1 in
    let from = c.args.from in
    let inside = c.self.inside in
    let keeps = c.self.invariant.keeps in
    let past = c.in_err-ids.ensures.lookup.3 in
    let none = no_items g.S.Spec.object place f inside.state inside.entries.items c.args.self.now inside.places.items c.deref.result.now c.from.result p c.self.view_is keeps c.deref.ensures.value c.from.ensures past in
    let size = ap length none in
    if_none c.from_residual.result _ (λ _. none_stands place f p x from (omega arith))

pub halve-init : goal.halve-init
halve-init g c =
    let place = g.S.Placed.place_of in
    let f = g.T.Side.item_of in
    let p = c.args.place in
    let x = c.args.self.now.1 in
    let from = c.args.from in
    let inside = c.self.inside in
    let keeps = c.self.invariant.keeps in
    let q = c.in_ok-ids.field-0.now in
    let lookup = c.in_ok-ids.ensures.lookup in
    let is = ids_are g.S.Spec.object place f inside.state inside.entries.items c.args.self.now inside.places.items c.deref.result.now c.from.result p q c.self.view_is keeps c.deref.ensures.value c.from.ensures lookup.3.0 lookup.1 in
    let all = ahead_all place p (map f x) from in
    let size = ap length is ∙ length-map (there place p (map f x)) (λ d. d.id) in
    record { within = omega arith; low = omega arith; high = omega arith }

pub unreachable-requires : goal.unreachable-requires
unreachable-requires g c =
    let place = g.S.Placed.place_of in
    let f = g.T.Side.item_of in
    let p = c.args.place in
    let x = c.args.self.now.1 in
    let from = c.args.from in
    let inside = c.self.inside in
    let keeps = c.self.invariant.keeps in
    let q = c.in_ok-ids.field-0.now in
    let lookup = c.in_ok-ids.ensures.lookup in
    let is = ids_are g.S.Spec.object place f inside.state inside.entries.items c.args.self.now inside.places.items c.deref.result.now c.from.result p q c.self.view_is keeps c.deref.ensures.value c.from.ensures lookup.3.0 lookup.1 in
    let ids = q.ids.items in
    let low = c.halve.low in
    let middle = low + (c.halve.high - low) / 2 in
    let e = c.index.result.now in
    let test = c.halve-test.true in
    let within = c.halve.invariant.within in
    let stands = slice_get_read ids (length ids) middle e refl (omega arith) c.index.ensures in
    never_lost place f p x ids middle e is stands c.in_default.ensures

pub halve-preserved-then-at-from : goal.halve-preserved-then-at-from
halve-preserved-then-at-from g c =
    let place = g.S.Placed.place_of in
    let f = g.T.Side.item_of in
    let p = c.args.place in
    let x = c.args.self.now.1 in
    let from = c.args.from in
    let inside = c.self.inside in
    let keeps = c.self.invariant.keeps in
    let q = c.in_ok-ids.field-0.now in
    let lookup = c.in_ok-ids.ensures.lookup in
    let is = ids_are g.S.Spec.object place f inside.state inside.entries.items c.args.self.now inside.places.items c.deref.result.now c.from.result p q c.self.view_is keeps c.deref.ensures.value c.from.ensures lookup.3.0 lookup.1 in
    let ids = q.ids.items in
    let low = c.halve.low in
    let middle = low + (c.halve.high - low) / 2 in
    let e = c.index.result.now in
    let test = c.halve-test.true in
    let within = c.halve.invariant.within in
    let stands = slice_get_read ids (length ids) middle e refl (omega arith) c.index.ensures in
    let distinct = distinct_seen f (g.S.Spec.object.shape inside.state) inside.entries.items c.args.self.now c.self.view_is keeps.distinct in
    let stand = found_at place f p x ids middle e c.in-Some.at distinct is stands c.in-Some.ensures in
    let more = stand_before place p (map f x) middle stand.0 c.in-Some.at from stand.1 c.if-at-from.true in
    record { within = within; low = omega arith; high = c.halve.invariant.high }

pub halve-preserved : goal.halve-preserved
halve-preserved g c =
    let place = g.S.Placed.place_of in
    let f = g.T.Side.item_of in
    let p = c.args.place in
    let x = c.args.self.now.1 in
    let from = c.args.from in
    let inside = c.self.inside in
    let keeps = c.self.invariant.keeps in
    let q = c.in_ok-ids.field-0.now in
    let lookup = c.in_ok-ids.ensures.lookup in
    let is = ids_are g.S.Spec.object place f inside.state inside.entries.items c.args.self.now inside.places.items c.deref.result.now c.from.result p q c.self.view_is keeps c.deref.ensures.value c.from.ensures lookup.3.0 lookup.1 in
    let ids = q.ids.items in
    let low = c.halve.low in
    let middle = low + (c.halve.high - low) / 2 in
    let e = c.index.result.now in
    let test = c.halve-test.true in
    let within = c.halve.invariant.within in
    let stands = slice_get_read ids (length ids) middle e refl (omega arith) c.index.ensures in
    let distinct = distinct_seen f (g.S.Spec.object.shape inside.state) inside.entries.items c.args.self.now c.self.view_is keeps.distinct in
    let stand = found_at place f p x ids middle e c.in-Some.at distinct is stands c.in-Some.ensures in
    record {
      within = omega arith;
      low = c.halve.invariant.low;
      high = stand_behind place p (map f x) middle stand.0 c.in-Some.at from stand.1 c.if-at-from.false;
    }

pub returns-in_err-next-clause-none : goal.returns-in_err-next-clause-none
returns-in_err-next-clause-none g c =
    let place = g.S.Placed.place_of in
    let f = g.T.Side.item_of in
    let p = c.args.place in
    let x = c.args.self.now.1 in
    let from = c.args.from in
    let inside = c.self.inside in
    let keeps = c.self.invariant.keeps in
    let q = c.in_ok-ids.field-0.now in
    let lookup = c.in_ok-ids.ensures.lookup in
    let is = ids_are g.S.Spec.object place f inside.state inside.entries.items c.args.self.now inside.places.items c.deref.result.now c.from.result p q c.self.view_is keeps c.deref.ensures.value c.from.ensures lookup.3.0 lookup.1 in
    let past = c.in_err-next.ensures.lookup.3 in
    let value = ap length c.deref-2.ensures.value in
    let size = ap length is ∙ length-map (there place p (map f x)) (λ d. d.id) in
    let high = c.halve.invariant.high in
    let low = c.halve.invariant.low in
    let test = c.halve-test.false in
    if_none c.from_residual-in_err-next.result _ (λ _. none_stands place f p x from (omega arith))

pub returns-clause-found : goal.returns-clause-found
returns-clause-found g c =
    let place = g.S.Placed.place_of in
    let f = g.T.Side.item_of in
    let p = c.args.place in
    let x = c.args.self.now.1 in
    let from = c.args.from in
    let inside = c.self.inside in
    let keeps = c.self.invariant.keeps in
    let q = c.in_ok-ids.field-0.now in
    let lookup = c.in_ok-ids.ensures.lookup in
    let is = ids_are g.S.Spec.object place f inside.state inside.entries.items c.args.self.now inside.places.items c.deref.result.now c.from.result p q c.self.view_is keeps c.deref.ensures.value c.from.ensures lookup.3.0 lookup.1 in
    let ids = q.ids.items in
    let low = c.halve.low in
    let e = c.in_ok-next.next.now in
    let found = c.in_ok-next.ensures.lookup in
    let stands = ap (λ z. slice_get z low) (sym c.deref-2.ensures.value) ∙ slice_get_read c.deref-2.result.now (length c.deref-2.result.now) low e refl found.3.0 found.1 in
    let distinct = distinct_seen f (g.S.Spec.object.shape inside.state) inside.entries.items c.args.self.now c.self.view_is keeps.distinct in
    let least = c.halve.invariant.low in
    let most = c.halve.invariant.high in
    let test = c.halve-test.false in
    if_some c.find-2.result _ (λ m is_found.
    let at = found_at place f p x ids low e m distinct is stands (sym is_found ∙ c.find-2.ensures) in
    next_stands place f p x from low at.0 m at.1 (omega arith))

pub returns-clause-none : goal.returns-clause-none
returns-clause-none g c =
    let place = g.S.Placed.place_of in
    let f = g.T.Side.item_of in
    let p = c.args.place in
    let x = c.args.self.now.1 in
    let from = c.args.from in
    let inside = c.self.inside in
    let keeps = c.self.invariant.keeps in
    let q = c.in_ok-ids.field-0.now in
    let lookup = c.in_ok-ids.ensures.lookup in
    let is = ids_are g.S.Spec.object place f inside.state inside.entries.items c.args.self.now inside.places.items c.deref.result.now c.from.result p q c.self.view_is keeps c.deref.ensures.value c.from.ensures lookup.3.0 lookup.1 in
    let ids = q.ids.items in
    let low = c.halve.low in
    let e = c.in_ok-next.next.now in
    let found = c.in_ok-next.ensures.lookup in
    let stands = ap (λ z. slice_get z low) (sym c.deref-2.ensures.value) ∙ slice_get_read c.deref-2.result.now (length c.deref-2.result.now) low e refl found.3.0 found.1 in
    if_none c.find-2.result _ (λ lost. absurd (never_lost place f p x ids low e is stands (sym lost ∙ c.find-2.ensures)))
