use Rattle.std.proofs.Common.{◌≡◌, take}
use Rattle.pp_objects.proofs.pieces.stack_items.Given as goal

abbrev pub invariant-loop-place : goal.invariant-loop-place
invariant-loop-place l = l.items ≡ take l.place l.pile
