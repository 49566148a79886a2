use Rattle.std.proofs.Common.{◌∙◌, ap, subst, sym}
use Rattle.pp_snapshots.specs.ByPart.{IsListed, ops_in}
use Rattle.pp_snapshots.specs.Moving.{as_taken}
use Rattle.pp_snapshots.specs.Shown.{Keeps}
use Rattle.pp_snapshots.proofs.snapshots.Snapshots.new.Goals as goal

pub invariant_of-result : goal.invariant_of-result
invariant_of-result g c = (
  subst (Keeps g.S.Spec.object g.S.Placed.place_of) (sym c.in_ok-new.ensures.ok) c.in_ok-parts.ensures.keeps,
  subst (λ v. IsListed g.S.Placed.place_of g.S.Parted.part_of v.by_part (ops_in v.past)) (sym c.in_ok-new.ensures.ok) c.in_ok-parts.ensures.listed,
)

pub returns : goal.returns
returns g c = ap as_taken c.in_ok-new.ensures.ok ∙ c.in_ok-parts.ensures.taken
