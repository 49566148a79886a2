use Rattle.std.proofs.Common.{sym, subst}
use Rattle.pp_kind.specs.declared.gapped.Crossed.{Crossed}
use Rattle.pp_kind.specs.Gaps.{Crosses}
use Rattle.pp_kind_map.specs.declared.gap.MapGap.{MapGap}
use Rattle.pp_kind_map.specs.KeyMap.{key_map}
use Rattle.pp_kind_map.specs.Gaps.{Bears, Differ}
use Rattle.pp_kind_map.proofs.Gaps.{crosses}
use Rattle.pp_kind_map.proofs.gap.KeyMapGapped.cross.Goals as goal

pub returns : goal.returns
returns c = subst
    (λ (x : Crossed MapGap (Unit {0})). Crosses key_map Bears Differ c.args.gap.now c.args.op.now x)
    (sym c.gap_behind.ensures) (crosses c.args.gap.now c.args.op.now)
