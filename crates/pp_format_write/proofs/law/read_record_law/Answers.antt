use Rattle.pp_format_write.proofs.StepsRead.{is_statable}
use Rattle.pp_format_write.proofs.law.read_record_law.Goals as goal

pub returns : goal.returns
returns c = is_statable
