use Rattle.std.proofs.Common.{◌≡◌, ◌+◌, ◌||◌, drop}
use Rattle.pp_core.specs.Trees.{nodes_of_all, trees_of}
use Rattle.pp_body.specs.Positions.{reaches_in_turn, reaches_some}
use Rattle.pp_body.proofs.position.+reaches.Given as goal

abbrev pub invariant-reaches_in_turn-loop-part : goal.invariant-reaches_in_turn-loop-part
invariant-reaches_in_turn-loop-part l = record {
  place : l.at + nodes_of_all (trees_of (drop l.part-index l.parts)) ≡ l.initial.at + nodes_of_all (trees_of l.parts);
  same : reaches_in_turn l.more (trees_of (drop l.part-index l.parts)) l.at l.set l.entered ≡ reaches_in_turn l.more (trees_of l.parts) l.initial.at l.set l.initial.entered;
}

abbrev pub invariant-reaches_some-loop-part : goal.invariant-reaches_some-loop-part
invariant-reaches_some-loop-part l = record {
  place : l.at + nodes_of_all (trees_of (drop l.part-index l.parts)) ≡ l.initial.at + nodes_of_all (trees_of l.parts);
  same : (l.some || reaches_some l.more (trees_of (drop l.part-index l.parts)) l.at l.set l.entered) ≡ reaches_some l.more (trees_of l.parts) l.initial.at l.set l.entered;
}
