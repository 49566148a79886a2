-- Meaning: how a set differs from the one that would be there without one of its operations.
use Rattle.std.specs.Prelude.{if◌then◌else◌}
use Rattle.std.specs.Ordering.{int_eq, int_cmp}
use Rattle.std.specs.FinSet.{FinSet}
use Rattle.pp_kind.specs.declared.gapped.Left.{Left}
use Rattle.pp_kind.specs.declared.gapped.Left.TheVariants as left
use Rattle.pp_kind.specs.declared.gapped.Crossed.{Crossed}
use Rattle.pp_kind.specs.declared.gapped.Crossed.TheVariants as crossed
use Rattle.pp_kind_keyed.specs.Keys.{told_keys}
use Rattle.pp_kind_keyed.specs.Gaps.{DiffersAt}
use Rattle.pp_kind_set.specs.declared.op.SetOp.{SetOp}
use Rattle.pp_kind_set.specs.declared.gap.SetGap.{SetGap}
use Rattle.pp_kind_set.specs.Operations.{key_of, bit_before, bit_after}
use Rattle.pp_kind_set.specs.Sets.{bits, same_bit}

-- There is no condition on the state itself.
abbrev pub Bears : SetGap → FinSet int_cmp → Type 0
Bears g s = Unit {0}

-- The other set has the key or not, as the gap says, and else the same keys.
abbrev pub Differ : SetGap → FinSet int_cmp → FinSet int_cmp → Type 0
Differ g s t = DiffersAt (told_keys bits) g.key g.present s t

-- From here on proof machinery: what the calls return.

-- The gap that an operation leaves: what it found, if it leaves something else.
abbrev pub gap_left : SetOp → Left SetGap
gap_left a =
    if same_bit (bit_before a) (bit_after a) then left.Same
    else left.Apart (record { key = key_of a; present = bit_before a })

-- Operations at other keys leave a gap as it is. One at its key shows what was there, which is
-- another thing in the other set.
abbrev pub gap_behind : SetGap → SetOp → Crossed SetGap (Unit {0})
gap_behind g b = if int_eq (key_of b) g.key then crossed.Unknown else crossed.Apart g
