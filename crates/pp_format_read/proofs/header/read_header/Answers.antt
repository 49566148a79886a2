use Rattle.std.proofs.lemmas.Result.{IfOk-at_ok}
use Rattle.pp_format_read.specs.Starts.{IsReadableStart}
use Rattle.pp_format_read.proofs.ReadableStarts.{versioned_readable}
use Rattle.pp_format_read.proofs.header.read_header.Goals as goal

pub returns-clause-readable : goal.returns-clause-readable
returns-clause-readable c =
    IfOk-at_ok (IsReadableStart c.in_ok-catalog.catalog) c.in_ok-start.ensures
    (versioned_readable c.in_ok-version.version c.in_ok-catalog.catalog _)
