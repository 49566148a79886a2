use Rattle.std.proofs.Common.{take}
use Rattle.pp_log_shared.specs.Numbers.{CountsAll}
use Rattle.pp_log_shared.specs.Uncommitted.{open_in}
use Rattle.pp_log_shared.proofs.numbers.numbers_in.Given as goal

-- the entries before this one are counted
abbrev pub invariant-loop-entry : goal.invariant-loop-entry
invariant-loop-entry g l =
    CountsAll g.S.Parted.label_of l.numbers
    (open_in g.S.Parted.part_of l.part (take l.entry-index l.entries))
