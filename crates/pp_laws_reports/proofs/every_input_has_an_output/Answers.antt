use Rattle.pp_laws_reports.proofs.Defined.{defined_laws}
use Rattle.pp_laws_reports.proofs.every_input_has_an_output.Goals as goal

pub returns : goal.returns
returns c = defined_laws
