-- Meaning: how a stack differs from the one that would be there without one of its operations.
use Rattle.std.specs.Prelude.{◌≡◌, ◌⊎◌, ℕ, ◌+◌, ℤ, List, ◌∷◌, ◌++◌, length, Some, None}
use Rattle.pp_kind_stack.specs.declared.op.StackOp.{StackOp}
use Rattle.pp_kind_stack.specs.declared.op.StackOp.TheVariants.{Push, Pop}
use Rattle.pp_kind_stack.specs.declared.gap.StackGap.{StackGap}
use Rattle.pp_kind_stack.specs.declared.gap.StackGap.TheVariants as gap

-- The second stack lacks an item of the first, which has so many above it there.
abbrev pub Lacks : ℤ → ℕ → List ℤ → List ℤ → Type 0
Lacks v above items others =
    (low : List ℤ) × (high : List ℤ) × (items ≡ low ++ v ∷ high) × (others ≡ low ++ high)
    × (length high ≡ above)

-- The item that the other one lacks is there, with so many above it.
abbrev pub Bears : StackGap → List ℤ → Type 0
Bears (gap.Push v above) items =
    (low : List ℤ) × (high : List ℤ) × (items ≡ low ++ v ∷ high) × (length high ≡ above)
Bears (gap.Pop v above) items = Unit {0}

-- The other one lacks an item, or has one more.
abbrev pub Differ : StackGap → List ℤ → List ℤ → Type 0
Differ (gap.Push v above) items others = Lacks v above items others
Differ (gap.Pop v above) items others = Lacks v above others items

-- How many items are above an item before and after an operation. If none is, an equal item may
-- leave, and the next one then takes its part.
abbrev pub IsAboveBehind : ℤ → ℕ → StackOp → ℕ → Type 0
IsAboveBehind v above (Push w) after = after ≡ above + 1
IsAboveBehind v above (Pop (Some w)) after =
    (above ≡ after + 1) ⊎ ((above ≡ 0) × (after ≡ 0) × (w ≡ v))
IsAboveBehind v above (Pop None) after = ⊥
