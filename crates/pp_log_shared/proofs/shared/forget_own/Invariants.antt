use Rattle.std.proofs.Common.{take}
use Rattle.pp_model.specs.Config.{shared_item}
use Rattle.pp_log.specs.Leaving.{without_items}
use Rattle.pp_log_shared.specs.Uncommitted.{KeepsOpen}
use Rattle.pp_log_shared.proofs.shared.forget_own.Given as goal

-- the items before this one are left out
abbrev pub invariant-loop-item : goal.invariant-loop-item
invariant-loop-item g l =
    KeepsOpen g.S.Spec.object g.S.Parted.label_of g.S.Parted.part_of l.initial.parts.slots.entries l.log.1 →
    KeepsOpen g.S.Spec.object g.S.Parted.label_of g.S.Parted.part_of l.parts.slots.entries (without_items shared_item (take l.item-index l.own) l.log.1)
