use Rattle.pp_format_write.proofs.Headers.{short}
use Rattle.pp_format_write.proofs.Steps.{statable_short}
use Rattle.pp_format_write.proofs.law.length_law.Goals as goal

pub returns-clause-header : goal.returns-clause-header
returns-clause-header c = short

pub returns-clause-step : goal.returns-clause-step
returns-clause-step c = statable_short
