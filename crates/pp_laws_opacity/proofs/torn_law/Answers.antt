use Rattle.pp_laws_opacity.proofs.Examples.{torn_law}
use Rattle.pp_laws_opacity.proofs.torn_law.Goals as goal

pub returns : goal.returns
returns c = torn_law
