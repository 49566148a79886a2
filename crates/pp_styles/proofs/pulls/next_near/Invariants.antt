use Rattle.std.proofs.Common.{◌≤◌, ◌-◌}
use Rattle.pp_log.specs.Logs.{IsOn}
use Rattle.pp_model.specs.Config.{shared_item}
use Rattle.pp_log_shared.proofs.Nexts.{NoneBetween}
use Rattle.pp_styles.proofs.pulls.next_near.Given as goal

abbrev pub decreases-look : goal.decreases-look
decreases-look g l = l.end - l.at

abbrev pub invariant-look : goal.invariant-look
invariant-look g l = record {
  above : l.from ≤ l.at;
  none : NoneBetween (IsOn g.S.Placed.place_of shared_item l.object) l.shared.1 l.from l.at;
}
