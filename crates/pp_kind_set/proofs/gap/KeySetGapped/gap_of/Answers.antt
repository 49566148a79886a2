use Rattle.std.proofs.Common.{sym, subst}
use Rattle.pp_kind.specs.declared.gapped.Left.{Left}
use Rattle.pp_kind.specs.Gaps.{Leaves}
use Rattle.pp_kind_set.specs.declared.gap.SetGap.{SetGap}
use Rattle.pp_kind_set.specs.Sets.{key_set}
use Rattle.pp_kind_set.specs.Gaps.{Bears, Differ}
use Rattle.pp_kind_set.proofs.Gaps.{leaves}
use Rattle.pp_kind_set.proofs.gap.KeySetGapped.gap_of.Goals as goal

pub returns : goal.returns
returns c = subst (λ (x : Left SetGap). Leaves key_set Bears Differ c.args.op.now tt x)
    (sym c.gap_left.ensures) (leaves c.args.op.now tt)
