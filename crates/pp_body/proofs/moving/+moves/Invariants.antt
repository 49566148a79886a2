use Rattle.std.proofs.Common.{◌≡◌, ◌+◌, drop}
use Rattle.pp_core.specs.Trees.{nodes_of_all, trees_of}
use Rattle.pp_body.specs.Moves.{first_then, either, moves_in_turn, moves_of_some}
use Rattle.pp_body.proofs.moving.+moves.Given as goal

abbrev pub invariant-moves_in_turn-loop-part : goal.invariant-moves_in_turn-loop-part
invariant-moves_in_turn-loop-part l = record {
  place : l.at + nodes_of_all (trees_of (drop l.part-index l.parts)) ≡ l.initial.at + nodes_of_all (trees_of l.parts);
  same : first_then l.all (moves_in_turn (trees_of (drop l.part-index l.parts)) l.at l.set l.call) ≡ moves_in_turn (trees_of l.parts) l.initial.at l.set l.call;
}

abbrev pub invariant-moves_of_some-loop-part : goal.invariant-moves_of_some-loop-part
invariant-moves_of_some-loop-part l = record {
  place : l.at + nodes_of_all (trees_of (drop l.part-index l.parts)) ≡ l.initial.at + nodes_of_all (trees_of l.parts);
  same : either l.all (moves_of_some (trees_of (drop l.part-index l.parts)) l.at l.set l.call) ≡ moves_of_some (trees_of l.parts) l.initial.at l.set l.call;
}
