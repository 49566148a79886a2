use Rattle.std.proofs.Common.{◌+◌, subst, sym, take}
use Rattle.pp_model.specs.Config.{shared_item}
use Rattle.pp_log.specs.Leaving.{without_items}
use Rattle.pp_log.proofs.Leaving.{without_none}
use Rattle.pp_log_shared.specs.Uncommitted.{KeepsOpen}
use Rattle.pp_log_shared.proofs.Committing.{not_missing}
use Rattle.pp_log_shared.proofs.Leaving.{is_found, item_in, leaves_next}
use Rattle.pp_log_shared.proofs.shared.forget_own.Goals as goal

pub loop-item-init : goal.loop-item-init
loop-item-init g c = λ kept.
    subst (λ z. KeepsOpen g.S.Spec.object g.S.Parted.label_of g.S.Parted.part_of c.args.parts.now.slots.entries z) (sym (without_none shared_item c.args.log.now.1)) kept

pub unreachable-requires : goal.unreachable-requires
unreachable-requires g c =
    is_found g.S.Spec.object c.args.own.now c.args.log.now.1 c.requires.distinct c.requires.leave c.item-item.result
    (item_in c.args.own.now c.loop-item.item-index c.item-item.result c.loop-item-test.true c.item-item.is) (sym c.in_default.ensures)

pub unreachable-requires-in_default-get : goal.unreachable-requires-in_default-get
unreachable-requires-in_default-get g c = not_missing _ c.args.log.now.1 c.in-Some.position (sym c.in-Some.ensures) (sym c.in_default-get.ensures)

pub loop-item-preserved : goal.loop-item-preserved
loop-item-preserved g c = λ kept.
    let log = c.args.log.now.1 in
    let own = c.args.own.now in
    let i = c.loop-item.item-index in
    c.take.ensures (without_items shared_item (take i own) log) (without_items shared_item (take (i + 1) own) log) (c.loop-item.invariant kept)
    (leaves_next g.S.Spec.object own log c.requires.distinct c.requires.leave i c.item-item.result c.loop-item-test.true c.item-item.is c.in-Some.position (sym c.in-Some.ensures) c.in-Some-get.entry.now (sym c.in-Some-get.ensures) g.S.Parted.part_of)
