use Rattle.pp_certificate_exchanges.proofs.Heights.{height}
use Rattle.pp_certificate_exchanges.proofs.tower.+take_one.Given as goal

abbrev pub decreases-take_one : goal.decreases-take_one
decreases-take_one l = height l.tower.now
