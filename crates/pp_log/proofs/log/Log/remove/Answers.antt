use Rattle.std.proofs.Common.{◌≡◌, ◌-◌, ◌++◌, drop, get_or, length, map, take, sym, ◌∙◌, ap, subst, arith}
use Rattle.std.proofs.lemmas.List.{length-drop, length-map}
use Rattle.std.specs.List.{slice_get, slice_set}
use Rattle.pp_model.specs.Lists.{In}
use Rattle.pp_model.specs.Object.{ops}
use Rattle.pp_kind.specs.Object.{state_after}
use Rattle.pp_log.specs.Index.{IsIndexOf}
use Rattle.pp_log.specs.Keeps.{KeepsAll}
use Rattle.pp_log.specs.Logs.{RemovesEntry, entry_ops, from_place, removal_ticks}
use Rattle.pp_log.specs.Parts.{elsewhere, with_first}
use Rattle.pp_log.specs.Room.{ids_of}
use Rattle.pp_log.specs.TakesOut.{IsWhole, TakesOut}
use Rattle.pp_log.proofs.Distinct.{apart}
use Rattle.pp_log.proofs.Grown.{ids-remove}
use Rattle.pp_log.proofs.Ids.{id_stands, ids_once}
use Rattle.pp_log.proofs.Whole.{whole_of}
use Rattle.pp_log.proofs.Lists.{all_behind}
use Rattle.pp_log.proofs.Sites.{place_there, place_at, id_there, found_in, left, tail_of}
use Rattle.pp_log.proofs.Sites.{left_else, left_over}
use Rattle.pp_log.proofs.Maps.{count_seen, entry_removed, inside, left_mapped, site_seen}
use Rattle.pp_log.proofs.log.Log.remove.Goals as goal
use Rattle.pp_log.proofs.log.Log.remove.Goals.{in-Done, in_default-removed}

pub index_mut-place-requires : goal.index_mut-place-requires
index_mut-place-requires g c =
    let o = g.S.Spec.object in
    let place = g.S.Placed.place_of in
    let f = g.T.Side.item_of in
    let x = c.self.inside.entries.items in
    let log = map f x in
    let ps = c.self.inside.places.items in
    let s = c.self.inside.state in
    let keeps = c.self.invariant.keeps in
    let e = c.item-item.result in
    let p = c.from-p.result in
    let at : c.index-all-i.result ≡ get_or x c.args.i c.index-all-i.result = c.index-all-i.is ∙ ap (λ z. get_or z c.args.i c.index-all-i.result) c.as_slice-all.ensures in
    let site = site_seen place f (o.shape s) x c.args.self c.args.i c.index-all-i.result e p c.self.view_is c.requires at c.item-item.ensures (c.from-p.ensures ∙ c.place.ensures) in
    let is = place_there o place s log ps c.args.i e p keeps site in
    omega arith

pub unreachable-requires : goal.unreachable-requires
unreachable-requires g c =
    let o = g.S.Spec.object in
    let place = g.S.Placed.place_of in
    let f = g.T.Side.item_of in
    let x = c.self.inside.entries.items in
    let log = map f x in
    let ps = c.self.inside.places.items in
    let s = c.self.inside.state in
    let keeps = c.self.invariant.keeps in
    let e = c.item-item.result in
    let p = c.from-p.result in
    let at : c.index-all-i.result ≡ get_or x c.args.i c.index-all-i.result = c.index-all-i.is ∙ ap (λ z. get_or z c.args.i c.index-all-i.result) c.as_slice-all.ensures in
    let site = site_seen place f (o.shape s) x c.args.self c.args.i c.index-all-i.result e p c.self.view_is c.requires at c.item-item.ensures (c.from-p.ensures ∙ c.place.ensures) in
    let q = c.index_mut-place.result.now in
    let value = c.index_mut-place.ensures.value in
    let none = c.in_default.ensures.none in
    id_there o place s log ps c.args.i e p q keeps site (place_at o place s log ps c.args.i e p q keeps site value) (λ k. none (subst (In e.id) (sym c.deref.ensures.value) k))

pub take_out-requires-clause-some : goal.take_out-requires-clause-some
take_out-requires-clause-some g c =
    let f = g.T.Side.item_of in
    let x = c.self.inside.entries.items in
    let lent = c.as_slice-all.result.now in
    let within = inside f (g.S.Spec.object.shape c.self.inside.state) x c.args.self c.args.i c.self.view_is c.requires in
    let size = length-map x f in
    let same = ap length c.as_slice-all.ensures in
    let behind = length-drop c.args.i lent in
    let all = ap length (all_behind lent c.args.i) in
    omega arith

pub take_out-requires-clause-whole : goal.take_out-requires-clause-whole
take_out-requires-clause-whole g c =
    let o = g.S.Spec.object in
    let place = g.S.Placed.place_of in
    let f = g.T.Side.item_of in
    let x = c.self.inside.entries.items in
    let log = map f x in
    let ps = c.self.inside.places.items in
    let s = c.self.inside.state in
    let keeps = c.self.invariant.keeps in
    let e = c.item-item.result in
    let p = c.from-p.result in
    let at : c.index-all-i.result ≡ get_or x c.args.i c.index-all-i.result = c.index-all-i.is ∙ ap (λ z. get_or z c.args.i c.index-all-i.result) c.as_slice-all.ensures in
    let site = site_seen place f (o.shape s) x c.args.self c.args.i c.index-all-i.result e p c.self.view_is c.requires at c.item-item.ensures (c.from-p.ensures ∙ c.place.ensures) in
    let q = c.index_mut-place.result.now in
    let value = c.index_mut-place.ensures.value in
    let stands = ap (λ z. slice_get z c.in-Some.from) (sym c.deref.ensures.value) ∙ c.in-Some.ensures.found in
    let within = inside f (o.shape s) x c.args.self c.args.i c.self.view_is c.requires in
    let found = found_in o place s log ps c.args.i e p c.in-Some.from q keeps within site value stands in
    let b = state_after o (o.shape s) (ops (elsewhere place p log)) in
    let tail = tail_of place f x c.as_slice-all.result.now c.args.i c.index-all-i.result e p c.as_slice-all.ensures within at c.item-item.ensures (c.from-p.ensures ∙ c.place.ensures) found.site in
    record {
      start = b;
      before = found.site.u;
      size = sym found.index;
      whole = subst (λ z. IsWhole o b z q s) (found.site.here ∙ ap (λ z. found.site.u ++ z) (sym tail)) (whole_of o place g.S.Placed.SameAt g.met.S.Spec.lawful g.met.S.Placed.placed p s log ps q keeps found.at);
    }

pub returns-in_err-removed-clause-bound : goal.returns-in_err-removed-clause-bound
returns-in_err-removed-clause-bound g c =
    let o = g.S.Spec.object in
    let place = g.S.Placed.place_of in
    let f = g.T.Side.item_of in
    let x = c.self.inside.entries.items in
    let log = map f x in
    let ps = c.self.inside.places.items in
    let s = c.self.inside.state in
    let keeps = c.self.invariant.keeps in
    let e = c.item-item.result in
    let p = c.from-p.result in
    let at : c.index-all-i.result ≡ get_or x c.args.i c.index-all-i.result = c.index-all-i.is ∙ ap (λ z. get_or z c.args.i c.index-all-i.result) c.as_slice-all.ensures in
    let site = site_seen place f (o.shape s) x c.args.self c.args.i c.index-all-i.result e p c.self.view_is c.requires at c.item-item.ensures (c.from-p.ensures ∙ c.place.ensures) in
    let q = c.index_mut-place.result.now in
    let value = c.index_mut-place.ensures.value in
    let stands = ap (λ z. slice_get z c.in-Some.from) (sym c.deref.ensures.value) ∙ c.in-Some.ensures.found in
    let within = inside f (o.shape s) x c.args.self c.args.i c.self.view_is c.requires in
    let found = found_in o place s log ps c.args.i e p c.in-Some.from q keeps within site value stands in
    let tail = tail_of place f x c.as_slice-all.result.now c.args.i c.index-all-i.result e p c.as_slice-all.ensures within at c.item-item.ensures (c.from-p.ensures ∙ c.place.ensures) site in
    let behind = ap length tail in
    let count = site.count in
    let size = count_seen place f (o.shape s) x c.args.self c.args.i c.self.view_is in
    let bound = c.take_out.ensures.bound in
    (c.take_out.ensures.rises, omega arith)

pub invariant_of-log : goal.invariant_of-log
invariant_of-log g c =
    let o = g.S.Spec.object in
    let place = g.S.Placed.place_of in
    let f = g.T.Side.item_of in
    let x = c.self.inside.entries.items in
    let log = map f x in
    let ps = c.self.inside.places.items in
    let s = c.self.inside.state in
    let keeps = c.self.invariant.keeps in
    let e = c.item-item.result in
    let p = c.from-p.result in
    let at : c.index-all-i.result ≡ get_or x c.args.i c.index-all-i.result = c.index-all-i.is ∙ ap (λ z. get_or z c.args.i c.index-all-i.result) c.as_slice-all.ensures in
    let site = site_seen place f (o.shape s) x c.args.self c.args.i c.index-all-i.result e p c.self.view_is c.requires at c.item-item.ensures (c.from-p.ensures ∙ c.place.ensures) in
    let q = c.index_mut-place.result.now in
    let value = c.index_mut-place.ensures.value in
    let stands = ap (λ z. slice_get z c.in-Some.from) (sym c.deref.ensures.value) ∙ c.in-Some.ensures.found in
    let within = inside f (o.shape s) x c.args.self c.args.i c.self.view_is c.requires in
    let found = found_in o place s log ps c.args.i e p c.in-Some.from q keeps within site value stands in
    let b = state_after o (o.shape s) (ops (elsewhere place p log)) in
    let tail = tail_of place f x c.as_slice-all.result.now c.args.i c.index-all-i.result e p c.as_slice-all.ensures within at c.item-item.ensures (c.from-p.ensures ∙ c.place.ensures) found.site in
    let parts = found.site.here ∙ ap (λ z. found.site.u ++ z) (sym tail) in
    let whole = subst (λ z. IsWhole o b z q s) parts (whole_of o place g.S.Placed.SameAt g.met.S.Spec.lawful g.met.S.Placed.placed p s log ps q keeps found.at) in
    let removed = c.in_ok-removed.removed in
    let takes = subst (λ z. TakesOut o b z c.in-Some.from c.take_out.new.place c.take_out.new.state removed) (sym parts) (c.in_ok-removed.ensures.takes b found.site.u (sym found.index) whole) in
    let done = left_over o place g.S.Placed.SameAt g.met.S.Spec.lawful g.met.S.Placed.placed s c.take_out.new.state log ps c.args.i e p c.in-Some.from q c.take_out.new.place removed keeps found takes in
    let entries : c.match-removed.entries.items ≡ left removed x c.args.i = elim c.match-removed.branch [
      | in-Done w ↦ ap (λ v. v.items) w.entries-is ∙ w.remove.ensures.items ∙ ap (λ r. left r x c.args.i) (sym w.in-Done.is)
      | in_default-removed w ↦ ap (λ v. v.items) w.entries-is ∙ sym (left_else removed x c.args.i w.in_default-removed.not-Done)
    ] in
    let index = c.self.invariant.index in
    let once = ids_once log (apart log keeps.distinct) in
    let stands_there = id_stands f (o.shape s) x c.args.self c.args.i c.index-all-i.result e c.self.view_is c.requires at c.item-item.ensures in
    let ids : IsIndexOf c.match-removed.ids (ids_of (left removed log c.args.i)) = elim c.match-removed.branch [
      | in-Done w ↦ subst (λ z. IsIndexOf z (ids_of (left removed log c.args.i))) (sym w.ids-is)
          (subst (λ z. IsIndexOf w.remove-in-Done.new.self z) (ids-remove log c.args.i ∙ ap (λ r. ids_of (left r log c.args.i)) (sym w.in-Done.is)) (w.remove-in-Done.ensures (ids_of log) index once stands_there))
      | in_default-removed w ↦ subst (λ z. IsIndexOf z (ids_of (left removed log c.args.i))) (sym w.ids-is)
          (subst (λ z. IsIndexOf c.self.inside.ids (ids_of z)) (sym (left_else removed log c.args.i w.in_default-removed.not-Done)) index)
    ] in
    subst (λ z. KeepsAll o place c.take_out.new.state z (slice_set ps p c.take_out.new.place) c.match-removed.ids) (sym (ap (map f) entries ∙ left_mapped f removed x c.args.i)) (record { keeps = done.0; index = ids })

pub returns-clause-removes : goal.returns-clause-removes
returns-clause-removes g c =
    let o = g.S.Spec.object in
    let place = g.S.Placed.place_of in
    let f = g.T.Side.item_of in
    let x = c.self.inside.entries.items in
    let log = map f x in
    let ps = c.self.inside.places.items in
    let s = c.self.inside.state in
    let keeps = c.self.invariant.keeps in
    let e = c.item-item.result in
    let p = c.from-p.result in
    let at : c.index-all-i.result ≡ get_or x c.args.i c.index-all-i.result = c.index-all-i.is ∙ ap (λ z. get_or z c.args.i c.index-all-i.result) c.as_slice-all.ensures in
    let site = site_seen place f (o.shape s) x c.args.self c.args.i c.index-all-i.result e p c.self.view_is c.requires at c.item-item.ensures (c.from-p.ensures ∙ c.place.ensures) in
    let q = c.index_mut-place.result.now in
    let value = c.index_mut-place.ensures.value in
    let stands = ap (λ z. slice_get z c.in-Some.from) (sym c.deref.ensures.value) ∙ c.in-Some.ensures.found in
    let within = inside f (o.shape s) x c.args.self c.args.i c.self.view_is c.requires in
    let found = found_in o place s log ps c.args.i e p c.in-Some.from q keeps within site value stands in
    let b = state_after o (o.shape s) (ops (elsewhere place p log)) in
    let tail = tail_of place f x c.as_slice-all.result.now c.args.i c.index-all-i.result e p c.as_slice-all.ensures within at c.item-item.ensures (c.from-p.ensures ∙ c.place.ensures) found.site in
    let parts = found.site.here ∙ ap (λ z. found.site.u ++ z) (sym tail) in
    let whole = subst (λ z. IsWhole o b z q s) parts (whole_of o place g.S.Placed.SameAt g.met.S.Spec.lawful g.met.S.Placed.placed p s log ps q keeps found.at) in
    let removed = c.in_ok-removed.removed in
    let takes = subst (λ z. TakesOut o b z c.in-Some.from c.take_out.new.place c.take_out.new.state removed) (sym parts) (c.in_ok-removed.ensures.takes b found.site.u (sym found.index) whole) in
    let done = left_over o place g.S.Placed.SameAt g.met.S.Spec.lawful g.met.S.Placed.placed s c.take_out.new.state log ps c.args.i e p c.in-Some.from q c.take_out.new.place removed keeps found takes in
    let entries : c.match-removed.entries.items ≡ left removed x c.args.i = elim c.match-removed.branch [
      | in-Done w ↦ ap (λ v. v.items) w.entries-is ∙ w.remove.ensures.items ∙ ap (λ r. left r x c.args.i) (sym w.in-Done.is)
      | in_default-removed w ↦ ap (λ v. v.items) w.entries-is ∙ sym (left_else removed x c.args.i w.in_default-removed.not-Done)
    ] in
    let answer = entry_removed o f (o.shape s) (o.shape c.take_out.new.state) x c.args.i removed done.1 in
    subst (λ z. RemovesEntry o f z c.args.i (o.shape c.take_out.new.state, c.match-removed.entries.items) removed) c.self.view_is
    (subst (λ z. RemovesEntry o f (o.shape s, x) c.args.i (o.shape c.take_out.new.state, z) removed) (sym entries) answer)

pub returns-clause-cost : goal.returns-clause-cost
returns-clause-cost g c =
    let o = g.S.Spec.object in
    let place = g.S.Placed.place_of in
    let f = g.T.Side.item_of in
    let x = c.self.inside.entries.items in
    let log = map f x in
    let ps = c.self.inside.places.items in
    let s = c.self.inside.state in
    let keeps = c.self.invariant.keeps in
    let e = c.item-item.result in
    let p = c.from-p.result in
    let at : c.index-all-i.result ≡ get_or x c.args.i c.index-all-i.result = c.index-all-i.is ∙ ap (λ z. get_or z c.args.i c.index-all-i.result) c.as_slice-all.ensures in
    let site = site_seen place f (o.shape s) x c.args.self c.args.i c.index-all-i.result e p c.self.view_is c.requires at c.item-item.ensures (c.from-p.ensures ∙ c.place.ensures) in
    let q = c.index_mut-place.result.now in
    let value = c.index_mut-place.ensures.value in
    let stands = ap (λ z. slice_get z c.in-Some.from) (sym c.deref.ensures.value) ∙ c.in-Some.ensures.found in
    let within = inside f (o.shape s) x c.args.self c.args.i c.self.view_is c.requires in
    let found = found_in o place s log ps c.args.i e p c.in-Some.from q keeps within site value stands in
    let tail = tail_of place f x c.as_slice-all.result.now c.args.i c.index-all-i.result e p c.as_slice-all.ensures within at c.item-item.ensures (c.from-p.ensures ∙ c.place.ensures) site in
    let behind = ap length tail in
    let count = site.count in
    let all = count_seen place f (o.shape s) x c.args.self c.args.i c.self.view_is in
    let lent = c.as_slice-all.result.now in
    let size : length (with_first place f (take (length lent - c.args.i) (drop c.args.i lent))) ≡ from_place place (entry_ops f c.args.self.1) c.args.i = omega arith in
    subst (λ k. removal_ticks c.in_ok-removed.removed k c.args.ticks.now c.take_out.new.ticks) size c.in_ok-removed.ensures.cost

pub returns-clause-bound : goal.returns-clause-bound
returns-clause-bound g c =
    let o = g.S.Spec.object in
    let place = g.S.Placed.place_of in
    let f = g.T.Side.item_of in
    let x = c.self.inside.entries.items in
    let log = map f x in
    let ps = c.self.inside.places.items in
    let s = c.self.inside.state in
    let keeps = c.self.invariant.keeps in
    let e = c.item-item.result in
    let p = c.from-p.result in
    let at : c.index-all-i.result ≡ get_or x c.args.i c.index-all-i.result = c.index-all-i.is ∙ ap (λ z. get_or z c.args.i c.index-all-i.result) c.as_slice-all.ensures in
    let site = site_seen place f (o.shape s) x c.args.self c.args.i c.index-all-i.result e p c.self.view_is c.requires at c.item-item.ensures (c.from-p.ensures ∙ c.place.ensures) in
    let q = c.index_mut-place.result.now in
    let value = c.index_mut-place.ensures.value in
    let stands = ap (λ z. slice_get z c.in-Some.from) (sym c.deref.ensures.value) ∙ c.in-Some.ensures.found in
    let within = inside f (o.shape s) x c.args.self c.args.i c.self.view_is c.requires in
    let found = found_in o place s log ps c.args.i e p c.in-Some.from q keeps within site value stands in
    let tail = tail_of place f x c.as_slice-all.result.now c.args.i c.index-all-i.result e p c.as_slice-all.ensures within at c.item-item.ensures (c.from-p.ensures ∙ c.place.ensures) site in
    let behind = ap length tail in
    let count = site.count in
    let size = count_seen place f (o.shape s) x c.args.self c.args.i c.self.view_is in
    let bound = c.take_out.ensures.bound in
    (c.take_out.ensures.rises, omega arith)
