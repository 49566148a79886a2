use Rattle.std.proofs.Common.{take}
use Rattle.pp_styles.specs.Dropping.{HoldsLocal}
use Rattle.pp_styles.proofs.drops.positions.Given as goal

abbrev pub invariant-loop-id : goal.invariant-loop-id
invariant-loop-id g l = HoldsLocal (take l.id-index l.ids) l.local.1 l.at.items
