use Rattle.std.proofs.Common.{◌≡◌, ◌≤◌, length, take}
use Rattle.pp_body.specs.Walks.{HasTaken}
use Rattle.pp_summary.specs.Shown.{calls_of}
use Rattle.pp_summary.proofs.open_tx.given_back.Given as goal

-- The walk has taken the calls of the items that are left.
abbrev pub invariant-loop-left : goal.invariant-loop-left
invariant-loop-left g l = record {
  within : l.left ≤ length l.own;
  body : l.walk.body ≡ l.initial.walk.body;
  taken : HasTaken l.walk (calls_of g.S.Spec.object (take l.left l.own));
}

abbrev pub decreases-loop-left : goal.decreases-loop-left
decreases-loop-left g l = l.left
