use Rattle.std.proofs.Common.{get_or, sym, ◌∙◌, ap, subst, arith}
use Rattle.std.specs.List.{remove, slice_get, slice_set}
use Rattle.pp_model.specs.Lists.{In}
use Rattle.pp_log.specs.Keeps.{KeepsAll}
use Rattle.pp_log.specs.Index.{IsIndexOf}
use Rattle.pp_log.specs.Room.{ids_of}
use Rattle.pp_log.proofs.Distinct.{apart}
use Rattle.pp_log.proofs.Grown.{ids-remove}
use Rattle.pp_log.proofs.Ids.{ids_once}
use Rattle.pp_log.proofs.Leaves.{can_pass_out, has_id_there, has_place, id_at, item_within, keeps_left}
use Rattle.pp_log.proofs.leave.take_one_back.Goals as goal

pub index_mut-place-requires : goal.index_mut-place-requires
index_mut-place-requires g c =
    let h = c.requires in
    let here = has_place g.S.Spec.object g.S.Placed.place_of g.S.Placed.SameAt g.met.S.Spec.lawful g.met.S.Placed.placed
    c.args.state.now c.args.places.now.items h.log c.args.i c.args.item.now h.keeps.keeps h.stands in
    let p = c.from-p.ensures ∙ c.place.ensures in
    omega arith

pub unreachable-requires : goal.unreachable-requires
unreachable-requires g c =
    let h = c.requires in
    let q = c.index_mut-place.result.now in
    let p = c.from-p.ensures ∙ c.place.ensures in
    let value = c.index_mut-place.ensures.value ∙ ap (λ n. get_or c.args.places.now.items n q) p in
    has_id_there g.S.Spec.object g.S.Placed.place_of g.S.Placed.SameAt g.met.S.Spec.lawful g.met.S.Placed.placed
    c.args.state.now c.args.places.now.items h.log c.args.i c.args.item.now h.keeps.keeps h.stands q value
    (λ k. c.in_default.ensures.none (subst (In c.args.item.now.id) (sym c.deref.ensures.value) k))

pub pass_out-requires : goal.pass_out-requires
pass_out-requires g c =
    let h = c.requires in
    let q = c.index_mut-place.result.now in
    let p = c.from-p.ensures ∙ c.place.ensures in
    let value = c.index_mut-place.ensures.value ∙ ap (λ n. get_or c.args.places.now.items n q) p in
    let found = ap (λ l. slice_get l c.in-Some.from) (sym c.deref.ensures.value) ∙ c.in-Some.ensures.found in
    can_pass_out g.S.Spec.object g.S.Placed.place_of g.S.Placed.SameAt g.met.S.Spec.lawful g.met.S.Placed.placed
    c.args.state.now c.args.places.now.items h.log c.args.i c.args.item.now h.keeps.keeps h.stands q value c.in-Some.from found

pub remove-requires : goal.remove-requires
remove-requires g c = item_within c.args.ids.now c.requires.log c.args.i c.args.item.now c.requires.keeps.index c.requires.stands.is

pub returns-clause-leaves : goal.returns-clause-leaves
returns-clause-leaves g c = λ log keeps stands.
    let o = g.S.Spec.object in
    let place = g.S.Placed.place_of in
    let ps = c.args.places.now.items in
    let e = c.args.item.now in
    let i = c.args.i in
    let q = c.index_mut-place.result.now in
    let p = c.from-p.ensures ∙ c.place.ensures in
    let value = c.index_mut-place.ensures.value ∙ ap (λ n. get_or ps n q) p in
    let found = ap (λ l. slice_get l c.in-Some.from) (sym c.deref.ensures.value) ∙ c.in-Some.ensures.found in
    let left = keeps_left o place g.S.Placed.SameAt g.met.S.Spec.lawful g.met.S.Placed.placed c.args.state.now ps log i e keeps.keeps stands q value c.in-Some.from found
    c.pass_out.new.place c.pass_out.new.state c.in_ok-pass_out.ensures.takes in
    let at = id_at o place g.S.Placed.SameAt g.met.S.Spec.lawful g.met.S.Placed.placed c.args.state.now ps log i e keeps.keeps stands in
    let index = c.remove.ensures (ids_of log) keeps.index (ids_once log (apart log keeps.keeps.distinct)) at in
    let there = subst (λ n. KeepsAll o place c.pass_out.new.state (remove log i) (slice_set ps n c.pass_out.new.place) c.remove.new.self) (sym p)
    (record { keeps = left.0; index = subst (λ l. IsIndexOf c.remove.new.self l) (ids-remove log i) index }) in
    (there, left.1)
