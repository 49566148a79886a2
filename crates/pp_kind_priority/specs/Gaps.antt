-- Meaning: how a priority queue differs from the one that would be there without one of its
-- operations.
use Rattle.std.specs.Prelude.{◌≡◌, ℤ, ◌≤◌, List}
use Rattle.pp_kind.specs.declared.gapped.Crossed.TheVariants as crossed
use Rattle.pp_kind.specs.Gaps.{Crosses}
use Rattle.pp_kind_priority.specs.declared.op.PrioOp.{PrioOp}
use Rattle.pp_kind_priority.specs.declared.gap.PrioGap.{PrioGap}
use Rattle.pp_kind_priority.specs.declared.gap.PrioGap.TheVariants.{Insert, Take}
use Rattle.pp_kind_priority.specs.Values.{copies_of, with_one}
use Rattle.pp_kind_priority.specs.Prios.{prio}

-- there are so many of the value that was put in, so that the other queue has enough of them
abbrev pub Bears : PrioGap → List ℤ → Type 0
Bears (Insert v copies) values = copies ≤ copies_of v values
Bears (Take v) values = Unit {0}

-- the second queue lacks one of a value that was put in, or still has one that was taken
abbrev pub Differ : PrioGap → List ℤ → List ℤ → Type 0
Differ (Insert v copies) values others = values ≡ with_one v others
Differ (Take v) values others = others ≡ with_one v values

-- the second gap is the first after the operation
abbrev pub LeadsTo : PrioGap → PrioOp → PrioGap → Type 0
LeadsTo g b h = Crosses prio Bears Differ g b (crossed.Apart h)
