use Rattle.std.proofs.Common.{◌≡◌, ◌+◌, ◌++◌, List, length, take}
use Rattle.pp_core.specs.declared.entry.Item.{Item}
use Rattle.pp_log.specs.Parts.{items_on}
use Rattle.pp_log.specs.Runs.{IsRun}
use Rattle.pp_log.proofs.run.rewind.Given as goal

abbrev pub invariant-loop-at : goal.invariant-loop-at
invariant-loop-at g l = record {
  run : (b : _) (before : List (Item _)) → length before ≡ length l.initial.undos.items → IsRun g.S.Spec.object b (before ++ items_on g.S.Placed.place_of g.T.Side.item_of l.place l.entries) l.initial.undos.items l.initial.state
      → IsRun g.S.Spec.object b (before ++ items_on g.S.Placed.place_of g.T.Side.item_of l.place l.entries) l.undos.items l.state;
  size : length l.undos.items ≡ length l.initial.undos.items + length (items_on g.S.Placed.place_of g.T.Side.item_of l.place (take l.at l.entries));
  cost : l.ticks ≡ l.initial.ticks + length (items_on g.S.Placed.place_of g.T.Side.item_of l.place (take l.at l.entries));
}
