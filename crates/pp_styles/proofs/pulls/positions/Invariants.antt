use Rattle.std.proofs.Common.{take}
use Rattle.pp_styles.specs.Knowing.{HoldsPositions}
use Rattle.pp_styles.proofs.pulls.positions.Given as goal

abbrev pub invariant-loop-id : goal.invariant-loop-id
invariant-loop-id g l = HoldsPositions (take l.id-index l.ids) l.shared.1 l.at.items
