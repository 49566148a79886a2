use Rattle.std.proofs.Common.{◌<◌, arith, length, subst, sym, take}
use Rattle.pp_summary.specs.Known.{KnowsAll}
use Rattle.pp_summary.proofs.Items.{take_next}
use Rattle.pp_summary.proofs.Known.{all_known}
use Rattle.pp_summary.proofs.own.know_all.Goals as goal

pub loop-item-preserved : goal.loop-item-preserved
loop-item-preserved g c =
    let lt : c.loop-item.item-index < length c.args.items.now = omega arith in
    let e = c.item-item.result in
    subst (λ l. KnowsAll g.S.Spec.object g.S.Parted.part_of c.know.new.samples.entries l) (sym (take_next c.args.items.now c.loop-item.item-index e lt c.item-item.is))
    (all_known g.S.Spec.object g.S.Parted.part_of c.loop-item.samples.entries c.know.new.samples.entries (take c.loop-item.item-index c.args.items.now) e c.loop-item.invariant c.in_ok-know.ensures.keeps c.in_ok-know.ensures.knows)
