use Rattle.std.proofs.Common.{◌≡◌, ◌+◌, ◌++◌, List, take}
use Rattle.pp_model.specs.Object.{ops}
use Rattle.pp_violations.specs.Searches.{IsStateOf}
use Rattle.pp_conflicts.proofs.commit.search_pushes.Given as goal

-- the state after the first of them
abbrev pub invariant-loop-k : goal.invariant-loop-k
invariant-loop-k g l = record {
  state : (before : List _) → IsStateOf g.S.Spec.object g.S.Placed.place_of (g.S.Spec.object.shape l.initial.state) l.initial.state before → IsStateOf g.S.Spec.object g.S.Placed.place_of (g.S.Spec.object.shape l.initial.state) l.state (before ++ ops (take l.k l.own));
  ticks : l.ticks ≡ l.initial.ticks + l.k;
}
