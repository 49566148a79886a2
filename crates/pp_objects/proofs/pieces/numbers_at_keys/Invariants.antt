use Rattle.std.proofs.Common.{◌≡◌, map, take}
use Rattle.pp_objects.specs.Pieces.{at_key}
use Rattle.pp_objects.proofs.pieces.numbers_at_keys.Given as goal

abbrev pub invariant-loop-pair : goal.invariant-loop-pair
invariant-loop-pair l = l.pieces ≡ map at_key (take l.pair-index l.pairs)
