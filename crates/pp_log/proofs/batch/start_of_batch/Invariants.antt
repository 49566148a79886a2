use Rattle.std.proofs.Common.{◌≡◌, ◌<◌, drop, length}
use Rattle.pp_core.specs.declared.entry.Item.{Item}
use Rattle.pp_model.specs.Lists.{In}
use Rattle.pp_log.proofs.batch.start_of_batch.Given as goal

-- those from a position on have the place
abbrev pub invariant-loop-start : goal.invariant-loop-start
invariant-loop-start g l = record {
  within : l.start < length l.own;
  there : (p : Item _) → In p (drop l.start l.own) → g.S.Placed.place_of p.op ≡ l.place;
}

abbrev pub decreases-loop-start : goal.decreases-loop-start
decreases-loop-start g l = l.start
