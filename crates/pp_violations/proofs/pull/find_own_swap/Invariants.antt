use Rattle.std.proofs.Common.{◌≡◌, drop}
use Rattle.pp_violations.specs.Searches.{own_swap}
use Rattle.pp_violations.proofs.pull.find_own_swap.Given as goal

-- The operations so far swap with the other one.
abbrev pub invariant-loop-item : goal.invariant-loop-item
invariant-loop-item g l = own_swap g.S.Spec.object l.own l.op ≡ own_swap g.S.Spec.object (drop l.item-index l.own) l.op
