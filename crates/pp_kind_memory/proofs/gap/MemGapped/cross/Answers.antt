use Rattle.std.proofs.Common.{sym, subst}
use Rattle.pp_kind.specs.declared.gapped.Crossed.{Crossed}
use Rattle.pp_kind.specs.Gaps.{Crosses}
use Rattle.pp_kind_memory.specs.declared.gap.MemGap.{MemGap}
use Rattle.pp_kind_memory.specs.declared.undo.Undo.{Undo}
use Rattle.pp_kind_memory.specs.Memories.{memory}
use Rattle.pp_kind_memory.specs.Gaps.{Bears, Differ}
use Rattle.pp_kind_memory.proofs.Gaps.{crosses}
use Rattle.pp_kind_memory.proofs.gap.MemGapped.cross.Goals as goal

pub returns : goal.returns
returns c = subst
    (λ (x : Crossed MemGap Undo). Crosses memory Bears Differ c.args.gap.now c.args.op.now x)
    (sym c.gap_behind.ensures) (crosses c.args.gap.now c.args.op.now)
