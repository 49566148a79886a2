use Rattle.std.proofs.Common.{◌≡◌, ◌≤◌, ◌+◌, ◌++◌, List, length, take}
use Rattle.pp_core.specs.declared.entry.Item.{Item}
use Rattle.pp_log.specs.Parts.{items_on}
use Rattle.pp_log.specs.Runs.{IsRun}
use Rattle.pp_log.proofs.run.unwind.Given as goal

-- those before a position are applied
abbrev pub invariant-loop-left : goal.invariant-loop-left
invariant-loop-left g l = record {
  run : (b : _) (before : List (Item _)) → length before ≡ l.from → IsRun g.S.Spec.object b (before ++ items_on g.S.Placed.place_of g.T.Side.item_of l.place l.entries) l.initial.undos.items l.initial.state
      → IsRun g.S.Spec.object b (before ++ items_on g.S.Placed.place_of g.T.Side.item_of l.place l.entries) l.undos.items l.state;
  within : l.left ≤ length l.entries;
  left : length l.undos.items ≡ l.from + length (items_on g.S.Placed.place_of g.T.Side.item_of l.place (take l.left l.entries));
  rises : l.initial.ticks ≤ l.ticks;
  cost : l.ticks + length l.undos.items ≡ l.initial.ticks + length l.initial.undos.items;
}

abbrev pub decreases-loop-left : goal.decreases-loop-left
decreases-loop-left g l = l.left
