use Rattle.std.proofs.Common.{◌≡◌, ◌++◌, length, take, map}
use Rattle.pp_input.specs.Lines.{ended_behind, rest_behind, without_return}
use Rattle.pp_input.proofs.cut.cut.Given as goal

-- The lines that were cut, and the bytes that are still to be cut.
abbrev pub invariant-cuts : goal.invariant-cuts
invariant-cuts l = record {
  whole : l.whole.items ++ map without_return (ended_behind l.tail l.left) ≡ l.fn.whole.items ++ map without_return (ended_behind l.fn.tail l.piece);
  tail : rest_behind l.tail l.left ≡ rest_behind l.fn.tail l.piece;
  kept : take (length l.fn.whole.items) l.whole.items ≡ l.fn.whole.items;
}

abbrev pub decreases-cuts : goal.decreases-cuts
decreases-cuts l = length l.left
