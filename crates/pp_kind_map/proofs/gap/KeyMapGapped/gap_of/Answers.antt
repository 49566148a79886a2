use Rattle.std.proofs.Common.{sym, subst}
use Rattle.pp_kind.specs.declared.gapped.Left.{Left}
use Rattle.pp_kind.specs.Gaps.{Leaves}
use Rattle.pp_kind_map.specs.declared.gap.MapGap.{MapGap}
use Rattle.pp_kind_map.specs.KeyMap.{key_map}
use Rattle.pp_kind_map.specs.Gaps.{Bears, Differ}
use Rattle.pp_kind_map.proofs.Gaps.{leaves}
use Rattle.pp_kind_map.proofs.gap.KeyMapGapped.gap_of.Goals as goal

pub returns : goal.returns
returns c = subst (λ (x : Left MapGap). Leaves key_map Bears Differ c.args.op.now tt x)
    (sym c.gap_left.ensures) (leaves c.args.op.now tt)
