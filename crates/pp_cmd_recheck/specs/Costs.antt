-- Meaning: the cost of `recheck`.
use Rattle.std.specs.Prelude.{◌≤◌, ◌+◌, ◌*◌, ℕ, List, length}
use Rattle.pp_core.specs.declared.call.Kind.{Kind}
use Rattle.pp_objects.specs.declared.act.Op.{Op}
use Rattle.pp_objects.specs.declared.states.ObjectState.{ObjectState}
use Rattle.pp_certificate_checker.specs.declared.shown.Shown.{Shown}
use Rattle.pp_certificate_lines.specs.Rechecked.{texts, IsChecked, Shows}

-- the counter of operations rose by at most two for each line
abbrev pub CheckCostsAtMost : List ℕ → (old new : ℕ) → Type 0
CheckCostsAtMost bytes old new = new ≤ old + 2 * length (texts bytes)

-- The least cost of what a certificate shows: one for each entry, and one more for each serial
-- entry.
abbrev pub ShownCostsAtLeast : Shown (List Kind) (List ObjectState) Op → (old new : ℕ) → Type 0
ShownCostsAtLeast h old new = old + h.operations + length h.serial ≤ new

-- The input is an accepted certificate, and the counter rose by at least its least cost.
abbrev pub CheckCostsAtLeast : List ℕ → (old new : ℕ) → Type 0
CheckCostsAtLeast bytes old new = (h : Shown (List Kind) (List ObjectState) Op)
    × IsChecked bytes (Shows h) × ShownCostsAtLeast h old new
