use Rattle.std.proofs.Common.{◌≡◌, map, take}
use Rattle.pp_objects.specs.Pieces.{alone}
use Rattle.pp_objects.proofs.pieces.numbers.Given as goal

abbrev pub invariant-loop-number : goal.invariant-loop-number
invariant-loop-number l = l.pieces ≡ map alone (take l.number-index l.numbers)
