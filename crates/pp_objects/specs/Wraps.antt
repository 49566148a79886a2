-- Proof machinery: what a kind's operation makes of a gap, as what an act does.
use Rattle.pp_kind.specs.declared.gapped.Left.{Left}
use Rattle.pp_kind.specs.declared.gapped.Left.TheVariants as left
use Rattle.pp_kind.specs.declared.gapped.Crossed.{Crossed}
use Rattle.pp_kind.specs.declared.gapped.Crossed.TheVariants as crossed
use Rattle.pp_kind_memory.specs.declared.undo.Undo.{Undo}
use Rattle.pp_kind_memory.specs.declared.undo.Undo.TheVariants.{Nothing}

-- the gap that an operation leaves, by its gap in another kind
abbrev pub left_as : {G H : Type 0} → (G → H) → Left G → Left H
left_as f left.Same = left.Same
left_as f (left.Apart g) = left.Apart (f g)

-- the gap after an operation, by its gap and its undo value in another kind
abbrev pub crossed_as : {G H U V : Type 0} → (G → H) → (U → V) → Crossed G U → Crossed H V
crossed_as f k (crossed.Same u) = crossed.Same (k u)
crossed_as f k (crossed.Apart g) = crossed.Apart (f g)
crossed_as f k crossed.Unknown = crossed.Unknown

-- the undo value of an act of a kind that keeps nothing
abbrev pub nothing_for : Unit {0} → Undo
nothing_for u = Nothing

-- the undo value itself
abbrev pub itself : Undo → Undo
itself u = u
