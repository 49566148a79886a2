use Rattle.std.proofs.Common.{◌≡◌, ◌<◌, ◌≤◌, ◌∷◌, [], ℕ, Some, slice_get}
use Rattle.pp_summary.specs.Passing.{LetAllPass}
use Rattle.pp_summary.proofs.commits.swaps_with_entries.Given as goal

-- The own operations swap with those before position k.
abbrev pub invariant-loop-k : goal.invariant-loop-k
invariant-loop-k g l =
    (j id : ℕ) → l.from ≤ j → j < l.k → slice_get l.done j ≡ Some id → LetAllPass g.S.Spec.object g.S.Placed.place_of l.own l.shared.1 (id ∷ [])
