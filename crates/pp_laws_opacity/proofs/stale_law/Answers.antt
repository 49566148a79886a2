use Rattle.pp_laws_opacity.proofs.Examples.{stale_law}
use Rattle.pp_laws_opacity.proofs.stale_law.Goals as goal

pub returns : goal.returns
returns c = stale_law
