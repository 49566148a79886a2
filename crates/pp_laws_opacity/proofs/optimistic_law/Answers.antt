use Rattle.pp_laws_opacity.proofs.Examples.{optimistic_law}
use Rattle.pp_laws_opacity.proofs.optimistic_law.Goals as goal

pub returns : goal.returns
returns c = optimistic_law
