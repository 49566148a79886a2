use Rattle.pp_kind_memory.proofs.Kept.{kept_unwritten}
use Rattle.pp_kind_memory.proofs.mem.Mem.keeps_alone.Goals as goal

pub returns : goal.returns
returns c = λ t b. kept_unwritten c.args.a.now b c.is_write.result c.is_write.ensures t
