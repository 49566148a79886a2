use Rattle.std.proofs.Common.{◌≤◌, ◌-◌, length}
use Rattle.pp_log_shared.specs.Committing.{IsCommittedOn}
use Rattle.pp_log_shared.proofs.Nexts.{NoneBetween}
use Rattle.pp_log_shared.proofs.shared.Shared.next_committed.Given as goal

abbrev pub invariant-step : goal.invariant-step
invariant-step g l = record {
  above : l.from ≤ l.at;
  none : NoneBetween (IsCommittedOn g.S.Placed.place_of l.place) l.self.1 l.from l.at;
}

abbrev pub decreases-step : goal.decreases-step
decreases-step g l = length l.self.1 - l.at
