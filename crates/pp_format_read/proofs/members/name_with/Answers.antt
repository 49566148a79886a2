use Rattle.std.proofs.Common.{ap, ◌∙◌}
use Rattle.pp_format_read.specs.Members.{name_from}
use Rattle.pp_format_read.proofs.Texts.{name_is}
use Rattle.pp_format_read.proofs.members.name_with.Goals as goal

pub returns : goal.returns
returns c =
    name_is c.as_bytes.result.now c.read.result c.read.ensures.name c.read.ensures.read
    ∙ ap name_from c.as_bytes.ensures.value
