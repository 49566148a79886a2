use Rattle.std.proofs.Common.{arith}
use Rattle.pp_certificate_exchanges.proofs.Pairs.{two_of_sum}
use Rattle.pp_certificate_exchanges.proofs.tower.sums.Goals as goal

pub overflow_add-counts : goal.overflow_add-counts
overflow_add-counts c = omega (
  arith,
  two_of_sum c.args.counts.now c.loop-i.i (omega arith),
  c.requires,
)
