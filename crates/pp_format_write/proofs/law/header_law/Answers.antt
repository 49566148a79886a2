use Rattle.pp_format_write.proofs.HeadersBack.{reads_back}
use Rattle.pp_format_write.proofs.law.header_law.Goals as goal

pub returns : goal.returns
returns c = reads_back
