use Rattle.std.proofs.Common.{◌≡◌, take, map}
use Rattle.pp_core.specs.Trees.{tree}
use Rattle.pp_core.proofs.body.+copy.Given as goal

abbrev pub invariant-copy_all-loop-part : goal.invariant-copy_all-loop-part
invariant-copy_all-loop-part l = map tree l.copies ≡ map tree (take l.part-index l.parts)
