use Rattle.std.proofs.Common.{◌<◌, ◌+◌, ◌-◌, length, take, drop, ap, sym, subst, arith}
use Rattle.std.specs.List.{slice_set}
use Rattle.std.specs.Vec.{with_item}
use Rattle.pp_model.specs.Object.{ops}
use Rattle.pp_log.specs.declared.gap.Crossing.TheVariants as crossing
use Rattle.pp_log.specs.declared.place.Place.{Place}
use Rattle.pp_log.specs.Gaps.{LeavesGap}
use Rattle.pp_log.specs.Parts.{items_on, with_first}
use Rattle.pp_log.proofs.Gaps.{first_there, may_close, others_have, out_apart, out_idle, out_same}
use Rattle.pp_log.proofs.take_out.leave_by_gap.Goals as goal

pub close-requires : goal.close-requires
close-requires g c =
    let o = g.S.Spec.object in
    let laws = g.met.S.Spec.lawful in
    let bears = g.S.Gapped.Bears in
    let differ = g.S.Gapped.Differ in
    let place = g.S.Placed.place_of in
    let f = g.T.Side.item_of in
    let y = c.args.entries.now in
    let d = c.index-entries-0.result in
    let rest = take (length y - 1) (drop 1 y) in
    let z = items_on place f (place (f d).op) rest in
    let is = first_there place f y d c.requires.some c.index-entries-0.is in
    let u = c.index.result.now in
    let leaves : LeavesGap o bears differ (f d).op u (ops z) (crossing.Apart c.in-Apart.gap) =
    subst (λ a. LeavesGap o bears differ a u (ops (items_on place f (place a) rest)) (crossing.Apart c.in-Apart.gap)) c.op.ensures (rw c.in-Apart.is at c.gap_behind.ensures) in
    let h = c.requires.whole in
    may_close o laws h.start c.args.state.now h.before (with_first place f y) c.args.from c.args.place.now (f d) z is h.size h.whole
    bears differ u c.index.ensures c.in-Apart.gap leaves (c.bears.ensures c.if-not-bears.false)

pub index_mut-requires : goal.index_mut-requires
index_mut-requires g c =
    let o = g.S.Spec.object in
    let laws = g.met.S.Spec.lawful in
    let bears = g.S.Gapped.Bears in
    let differ = g.S.Gapped.Differ in
    let place = g.S.Placed.place_of in
    let f = g.T.Side.item_of in
    let y = c.args.entries.now in
    let d = c.index-entries-0.result in
    let rest = take (length y - 1) (drop 1 y) in
    let z = items_on place f (place (f d).op) rest in
    let is = first_there place f y d c.requires.some c.index-entries-0.is in
    let u = c.index.result.now in
    let leaves : LeavesGap o bears differ (f d).op u (ops z) (crossing.Same c.in-Same.at c.in-Same.undo) =
    subst (λ a. LeavesGap o bears differ a u (ops (items_on place f (place a) rest)) (crossing.Same c.in-Same.at c.in-Same.undo)) c.op.ensures (rw c.in-Same.is at c.gap_behind.ensures) in
    let h = c.requires.whole in
    let within = subst (λ l. c.args.from + c.in-Same.at < length l) (sym c.forget-in-Same.ensures.undos)
    (others_have o laws h.start c.args.state.now h.before (with_first place f y) c.args.from c.args.place.now (f d) z is h.size h.whole c.in-Same.at leaves.0) in
    omega arith

pub returns-in-Idle-clause-takes : goal.returns-in-Idle-clause-takes
returns-in-Idle-clause-takes g c = λ _ b before size whole.
    let o = g.S.Spec.object in
    let laws = g.met.S.Spec.lawful in
    let bears = g.S.Gapped.Bears in
    let differ = g.S.Gapped.Differ in
    let place = g.S.Placed.place_of in
    let f = g.T.Side.item_of in
    let y = c.args.entries.now in
    let d = c.index-entries-0.result in
    let rest = take (length y - 1) (drop 1 y) in
    let z = items_on place f (place (f d).op) rest in
    let is = first_there place f y d c.requires.some c.index-entries-0.is in
    let u = c.index.result.now in
    let leaves : LeavesGap o bears differ (f d).op u (ops z) (crossing.Idle) =
    subst (λ a. LeavesGap o bears differ a u (ops (items_on place f (place a) rest)) (crossing.Idle)) c.op.ensures (rw c.in-Idle.is at c.gap_behind.ensures) in
    out_idle o laws b c.args.state.now before (with_first place f y) c.args.from c.args.place.now (f d) z is size whole
    bears differ u c.index.ensures leaves c.forget.new.self c.forget.ensures.ids c.forget.ensures.undos

pub returns-in_ok-close-in-Apart-clause-takes : goal.returns-in_ok-close-in-Apart-clause-takes
returns-in_ok-close-in-Apart-clause-takes g c = λ _ b before size whole.
    let o = g.S.Spec.object in
    let laws = g.met.S.Spec.lawful in
    let bears = g.S.Gapped.Bears in
    let differ = g.S.Gapped.Differ in
    let place = g.S.Placed.place_of in
    let f = g.T.Side.item_of in
    let y = c.args.entries.now in
    let d = c.index-entries-0.result in
    let rest = take (length y - 1) (drop 1 y) in
    let z = items_on place f (place (f d).op) rest in
    let is = first_there place f y d c.requires.some c.index-entries-0.is in
    let u = c.index.result.now in
    let leaves : LeavesGap o bears differ (f d).op u (ops z) (crossing.Apart c.in-Apart.gap) =
    subst (λ a. LeavesGap o bears differ a u (ops (items_on place f (place a) rest)) (crossing.Apart c.in-Apart.gap)) c.op.ensures (rw c.in-Apart.is at c.gap_behind.ensures) in
    out_apart o laws b c.args.state.now before (with_first place f y) c.args.from c.args.place.now (f d) z is size whole
    bears differ u c.index.ensures c.in-Apart.gap leaves (c.bears.ensures c.if-not-bears.false)
    c.close.new.state c.forget-in-Apart.new.self c.forget-in-Apart.ensures.ids c.forget-in-Apart.ensures.undos c.in_ok-close-in-Apart.ensures.ok

pub returns-in-Same-clause-takes : goal.returns-in-Same-clause-takes
returns-in-Same-clause-takes g c = λ _ b before size whole.
    let o = g.S.Spec.object in
    let laws = g.met.S.Spec.lawful in
    let bears = g.S.Gapped.Bears in
    let differ = g.S.Gapped.Differ in
    let place = g.S.Placed.place_of in
    let f = g.T.Side.item_of in
    let y = c.args.entries.now in
    let d = c.index-entries-0.result in
    let rest = take (length y - 1) (drop 1 y) in
    let z = items_on place f (place (f d).op) rest in
    let is = first_there place f y d c.requires.some c.index-entries-0.is in
    let u = c.index.result.now in
    let leaves : LeavesGap o bears differ (f d).op u (ops z) (crossing.Same c.in-Same.at c.in-Same.undo) =
    subst (λ a. LeavesGap o bears differ a u (ops (items_on place f (place a) rest)) (crossing.Same c.in-Same.at c.in-Same.undo)) c.op.ensures (rw c.in-Same.is at c.gap_behind.ensures) in
    let old = c.forget-in-Same.new.self in
    let next : Place _ = record { ids = old.ids; undos = with_item old.undos (c.args.from + c.in-Same.at) c.in-Same.undo } in
    out_same o laws b c.args.state.now before (with_first place f y) c.args.from c.args.place.now (f d) z is size whole
    bears differ u c.index.ensures c.in-Same.at c.in-Same.undo leaves next c.forget-in-Same.ensures.ids
    (ap (λ l. slice_set l (c.args.from + c.in-Same.at) c.in-Same.undo) c.forget-in-Same.ensures.undos)
