-- Meaning: how a memory differs from the one that would be there without one of its operations.
use Rattle.std.specs.Prelude.{ℤ, Bool, true, false, not, if◌then◌else◌}
use Rattle.std.specs.Ordering.{int_eq, int_cmp}
use Rattle.std.specs.FinMap.{FinMap}
use Rattle.pp_kind.specs.declared.gapped.Left.{Left}
use Rattle.pp_kind.specs.declared.gapped.Left.TheVariants as left
use Rattle.pp_kind.specs.declared.gapped.Crossed.{Crossed}
use Rattle.pp_kind.specs.declared.gapped.Crossed.TheVariants as crossed
use Rattle.pp_kind_keyed.specs.Gaps.{DiffersAt}
use Rattle.pp_kind_memory.specs.declared.op.MemOp.{MemOp}
use Rattle.pp_kind_memory.specs.declared.op.MemOp.TheVariants.{Read, Write, Cas}
use Rattle.pp_kind_memory.specs.declared.undo.Undo.{Undo}
use Rattle.pp_kind_memory.specs.declared.undo.Undo.TheVariants.{Covered}
use Rattle.pp_kind_memory.specs.declared.gap.MemGap.{MemGap}
use Rattle.pp_kind_memory.specs.Operations.{address_of, number_of}
use Rattle.pp_kind_memory.specs.Memories.{addresses}

-- There is no condition on the state itself.
abbrev pub Bears : MemGap → FinMap int_cmp ℤ → Type 0
Bears g s = Unit {0}

-- The other memory has the number at the address, and elsewhere the same.
abbrev pub Differ : MemGap → FinMap int_cmp ℤ → FinMap int_cmp ℤ → Type 0
Differ g s t = DiffersAt addresses g.at g.number s t

-- From here on proof machinery: what the calls return.

-- The gap that an operation leaves which kept this: what it covered.
abbrev pub gap_left : MemOp → Undo → Left MemGap
gap_left (Read a v) u = left.Same
gap_left (Write a v) u = left.Apart (record { at = a; number = number_of u })
gap_left (Cas a e n true) u = left.Apart (record { at = a; number = e })
gap_left (Cas a e n false) u = left.Same

-- A gap if the operation finds what it requires; otherwise it is not known.
abbrev pub where_found : Bool → ℤ → ℤ → Crossed MemGap Undo
where_found finds a c =
    if finds then crossed.Apart (record { at = a; number = c }) else crossed.Unknown

-- The gap after an operation at the address of a gap with this number.
abbrev pub gap_there : ℤ → MemOp → Crossed MemGap Undo
gap_there c (Read a v) = where_found (int_eq v c) a c
gap_there c (Write a v) = crossed.Same (Covered a c)
gap_there c (Cas a e n true) = where_found (int_eq e c) a n
gap_there c (Cas a e n false) = where_found (not (int_eq e c)) a c

-- Operations at other addresses leave it as it is.
abbrev pub gap_behind : MemGap → MemOp → Crossed MemGap Undo
gap_behind g b = if int_eq (address_of b) g.at then gap_there g.number b else crossed.Apart g
