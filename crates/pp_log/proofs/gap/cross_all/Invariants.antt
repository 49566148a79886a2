use Rattle.std.proofs.Common.{◌≡◌, ◌≤◌, length, take}
use Rattle.pp_model.specs.Object.{ops}
use Rattle.pp_log.specs.declared.gap.Crossing.TheVariants as crossing
use Rattle.pp_log.specs.Gaps.{CrossesAll}
use Rattle.pp_log.specs.Parts.{items_on}
use Rattle.pp_log.proofs.gap.cross_all.Given as goal

-- those of the place among the first k entries are crossed
abbrev pub invariant-loop-k : goal.invariant-loop-k
invariant-loop-k g l = record {
  crosses : CrossesAll g.S.Spec.object g.S.Gapped.Bears g.S.Gapped.Differ l.fn.first
      (ops (items_on g.S.Placed.place_of g.T.Side.item_of l.place (take l.k l.entries))) (crossing.Apart l.gap);
  size : l.crossed ≡ length (items_on g.S.Placed.place_of g.T.Side.item_of l.place (take l.k l.entries));
  few : l.crossed ≤ l.k;
}
