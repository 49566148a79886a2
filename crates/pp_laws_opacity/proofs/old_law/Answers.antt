use Rattle.pp_laws_opacity.proofs.Examples.{old_law}
use Rattle.pp_laws_opacity.proofs.old_law.Goals as goal

pub returns : goal.returns
returns c = old_law
