use Rattle.std.proofs.Common.{◌≤◌}
use Rattle.std.proofs.Common.{◌≡◌, ◌<◌, ℕ, Some}
use Rattle.std.specs.List.{slice_get}
use Rattle.pp_styles.proofs.Looking.{NeedsNoLook}
use Rattle.pp_styles.proofs.looks.first_missing.Given as goal

abbrev pub invariant-loop-at : goal.invariant-loop-at
invariant-loop-at g l =
    (l.from ≤ l.at)
    × ((i id : ℕ) → l.from ≤ i → i < l.at → slice_get l.ids i ≡ Some id → NeedsNoLook l.local.1 l.shared.1 id)
