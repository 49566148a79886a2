use Rattle.pp_laws_opacity.proofs.Examples.{early_law}
use Rattle.pp_laws_opacity.proofs.early_law.Goals as goal

pub returns : goal.returns
returns c = early_law
