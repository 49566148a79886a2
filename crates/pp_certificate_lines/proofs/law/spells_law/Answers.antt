use Rattle.pp_certificate_lines.proofs.Back.{spells}
use Rattle.pp_certificate_lines.proofs.law.spells_law.Goals as goal

pub returns : goal.returns
returns c = λ catalog cat. spells catalog cat
