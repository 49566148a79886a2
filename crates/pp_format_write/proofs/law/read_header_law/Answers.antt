use Rattle.pp_format_write.proofs.HeadersRead.{is_catalog, can_start}
use Rattle.pp_format_write.proofs.law.read_header_law.Goals as goal

pub returns-clause-objects : goal.returns-clause-objects
returns-clause-objects c = is_catalog

pub returns-clause-start : goal.returns-clause-start
returns-clause-start c = can_start
