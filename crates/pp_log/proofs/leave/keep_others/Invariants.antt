use Rattle.pp_log.proofs.Others.{IsKeeping}
use Rattle.pp_log.specs.Leaves.{StandFrom}
use Rattle.std.proofs.Common.{map}
use Rattle.pp_log.proofs.leave.keep_others.Given as goal

abbrev pub invariant-loop-at : goal.invariant-loop-at
invariant-loop-at g l =
    (st : StandFrom l.own (map g.T.Side.item_of l.initial.entries.items) l.from)
    → IsKeeping g.T.Side.item_of l.own l.initial.entries.items l.from st l.at l.kept l.next l.entries.items
