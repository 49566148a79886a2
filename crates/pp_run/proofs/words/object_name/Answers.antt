use Rattle.pp_format_read.proofs.Texts.{name_is}
use Rattle.pp_run.proofs.words.object_name.Goals as goal

pub returns : goal.returns
returns c = name_is c.args.word.now c.read.result c.read.ensures.name c.read.ensures.read
