use Rattle.std.proofs.Common.{length}
use Rattle.pp_certificate_exchanges.proofs.tower.+tower_over.Given as goal

abbrev pub decreases-tower_over : goal.decreases-tower_over
decreases-tower_over l = length l.counts.items
