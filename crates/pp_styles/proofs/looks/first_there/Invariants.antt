use Rattle.std.proofs.Common.{◌≡◌, ◌≤◌, ◌<◌, ◌==◌, ℕ, None, Some, position}
use Rattle.std.specs.List.{slice_get}
use Rattle.pp_styles.proofs.looks.first_there.Given as goal

abbrev pub invariant-loop-at : goal.invariant-loop-at
invariant-loop-at g l =
    (l.from ≤ l.at)
    × ((i id : ℕ) → l.from ≤ i → i < l.at → slice_get l.ids i ≡ Some id → position (λ e. e.id == id) l.shared.1 ≡ None)
