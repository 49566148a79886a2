use Rattle.std.proofs.Common.{sym, subst}
use Rattle.pp_kind.specs.declared.gapped.Left.{Left}
use Rattle.pp_kind.specs.Gaps.{Leaves}
use Rattle.pp_kind_memory.specs.declared.gap.MemGap.{MemGap}
use Rattle.pp_kind_memory.specs.Memories.{memory}
use Rattle.pp_kind_memory.specs.Gaps.{Bears, Differ}
use Rattle.pp_kind_memory.proofs.Gaps.{leaves}
use Rattle.pp_kind_memory.proofs.gap.MemGapped.gap_of.Goals as goal

pub returns : goal.returns
returns c = subst
    (λ (x : Left MemGap). Leaves memory Bears Differ c.args.op.now c.args.undo.now x)
    (sym c.gap_left.ensures) (leaves c.args.op.now c.args.undo.now)
