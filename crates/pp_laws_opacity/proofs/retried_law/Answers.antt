use Rattle.pp_laws_opacity.proofs.Examples.{retried_law}
use Rattle.pp_laws_opacity.proofs.retried_law.Goals as goal

pub returns : goal.returns
returns c = retried_law
