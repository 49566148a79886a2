use Rattle.pp_format_read.proofs.ReadableStarts.{start_law}
use Rattle.pp_format_read.proofs.header.start_law.Goals as goal

pub returns : goal.returns
returns c = start_law
