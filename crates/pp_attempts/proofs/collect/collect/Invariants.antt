use Rattle.std.proofs.Common.{◌≡◌, ◌≤◌, ◌++◌, ◌*◌, List, take, drop}
use Rattle.pp_core.specs.declared.limits.TheConstants.{MOST_STEPS}
use Rattle.pp_model.specs.Names.{Name}
use Rattle.pp_model.specs.Serial.{own_of}
use Rattle.pp_attempts.specs.Lists.{IsCollected, list_of}
use Rattle.pp_attempts.specs.Peaks.{Peak, meanings, peaks, peaks_behind}
use Rattle.pp_attempts.proofs.collect.collect.Given as goal

abbrev pub invariant-loop-i : goal.invariant-loop-i
invariant-loop-i g l = record {
  lists : (t : Name) → list_of t l.lists.entries ≡ own_of t (meanings (take l.i l.steps));
  few : l.collected.total ≤ l.i * MOST_STEPS;
  so_far : (ps : List (Peak _)) × (ps ++ peaks_behind (meanings (take l.i l.steps)) (meanings (drop l.i l.steps)) ≡ peaks (meanings l.steps))
      × IsCollected l.most ps l.collected.total l.collected.peaks;
}
