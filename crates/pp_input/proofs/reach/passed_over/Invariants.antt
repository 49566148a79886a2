use Rattle.std.proofs.Common.{◌≡◌, ◌++◌, take, drop}
use Rattle.pp_input.specs.Reaches.{overrun_from, within_from, reach_from, IsReach}
use Rattle.pp_input.proofs.reach.passed_over.Given as goal

abbrev pub invariant-loop-i : goal.invariant-loop-i
invariant-loop-i l = record {
  reached : IsReach l.at;
  within : take l.i l.piece ++ within_from l.at (drop l.i l.piece) ≡ within_from l.fn.from l.piece;
  reach : reach_from l.at (drop l.i l.piece) ≡ reach_from l.fn.from l.piece;
  overrun : overrun_from l.at (drop l.i l.piece) ≡ overrun_from l.fn.from l.piece;
}
