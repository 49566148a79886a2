use Rattle.std.proofs.Common.{◌≤◌, ◌+◌, ◌++◌, length, take}
use Rattle.pp_model.specs.Config.{shared_ops}
use Rattle.pp_model.specs.Object.{ops}
use Rattle.pp_violations.specs.Searches.{ArePulled, IsStateOf}
use Rattle.pp_violations.proofs.pull.search_pulls.Given as goal

-- The PULLs so far meet their criteria, and the state is the one after them.
abbrev pub invariant-loop-k : goal.invariant-loop-k
invariant-loop-k g l = record {
  pulled : ArePulled g.S.Spec.object g.S.Placed.place_of l.shape (ops l.view) l.own l.entries l.k;
  state : IsStateOf g.S.Spec.object g.S.Placed.place_of l.shape l.state (ops l.view ++ shared_ops (take l.k l.entries));
  rises : l.fn.ticks ≤ l.ticks;
  bound : l.ticks ≤ l.fn.ticks + (length l.view + l.k);
}
