use Rattle.std.proofs.Common.{◌≡◌, ◌≤◌, length, drop}
use Rattle.pp_input.specs.Reaches.{IsReach, IsSkipped}
use Rattle.pp_input.proofs.reach.skipped.Given as goal

abbrev pub invariant-lines : goal.invariant-lines
invariant-lines l = record {
  left : l.left ≡ drop l.done l.piece;
  within : l.done ≤ length l.piece;
  skipped : IsSkipped l.fn.from l.piece l.done l.at;
  reached : IsReach l.at;
}

abbrev pub decreases-lines : goal.decreases-lines
decreases-lines l = length l.left
