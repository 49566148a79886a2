-- Meaning: how a map differs from the one that would be there without one of its operations.
use Rattle.std.specs.Prelude.{ℤ, if◌then◌else◌}
use Rattle.std.specs.Option.{option_eq}
use Rattle.std.specs.Ordering.{int_eq, int_cmp}
use Rattle.std.specs.FinMap.{FinMap}
use Rattle.pp_kind.specs.declared.gapped.Left.{Left}
use Rattle.pp_kind.specs.declared.gapped.Left.TheVariants as left
use Rattle.pp_kind.specs.declared.gapped.Crossed.{Crossed}
use Rattle.pp_kind.specs.declared.gapped.Crossed.TheVariants as crossed
use Rattle.pp_kind_keyed.specs.Keys.{told_keys}
use Rattle.pp_kind_keyed.specs.Gaps.{DiffersAt}
use Rattle.pp_kind_map.specs.declared.op.MapOp.{MapOp}
use Rattle.pp_kind_map.specs.declared.gap.MapGap.{MapGap}
use Rattle.pp_kind_map.specs.Operations.{key_of, found_by, left_by}
use Rattle.pp_kind_map.specs.KeyMap.{map_keys}

-- There is no condition on the state itself.
abbrev pub Bears : MapGap → FinMap int_cmp ℤ → Type 0
Bears g s = Unit {0}

-- The other map has the value at the key, or none there, and elsewhere the same.
abbrev pub Differ : MapGap → FinMap int_cmp ℤ → FinMap int_cmp ℤ → Type 0
Differ g s t = DiffersAt (told_keys map_keys) g.key g.value s t

-- From here on proof machinery: what the calls return.

-- The gap that an operation leaves: what it found, if it leaves something else.
abbrev pub gap_left : MapOp → Left MapGap
gap_left a =
    if option_eq int_eq (found_by a) (left_by a) then left.Same
    else left.Apart (record { key = key_of a; value = found_by a })

-- Operations at other keys leave a gap as it is. One at its key shows what was there, which is
-- another thing in the other map.
abbrev pub gap_behind : MapGap → MapOp → Crossed MapGap (Unit {0})
gap_behind g b = if int_eq (key_of b) g.key then crossed.Unknown else crossed.Apart g
