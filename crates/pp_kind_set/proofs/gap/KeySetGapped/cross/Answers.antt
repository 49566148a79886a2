use Rattle.std.proofs.Common.{sym, subst}
use Rattle.pp_kind.specs.declared.gapped.Crossed.{Crossed}
use Rattle.pp_kind.specs.Gaps.{Crosses}
use Rattle.pp_kind_set.specs.declared.gap.SetGap.{SetGap}
use Rattle.pp_kind_set.specs.Sets.{key_set}
use Rattle.pp_kind_set.specs.Gaps.{Bears, Differ}
use Rattle.pp_kind_set.proofs.Gaps.{crosses}
use Rattle.pp_kind_set.proofs.gap.KeySetGapped.cross.Goals as goal

pub returns : goal.returns
returns c = subst
    (λ (x : Crossed SetGap (Unit {0})). Crosses key_set Bears Differ c.args.gap.now c.args.op.now x)
    (sym c.gap_behind.ensures) (crosses c.args.gap.now c.args.op.now)
