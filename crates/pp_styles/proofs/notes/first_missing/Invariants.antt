use Rattle.std.proofs.Common.{◌≡◌, ◌≤◌, ◌<◌, ℕ, true, Some}
use Rattle.std.specs.List.{slice_get}
use Rattle.pp_records.specs.Expansions.{stands_in}
use Rattle.pp_styles.proofs.notes.first_missing.Given as goal

abbrev pub invariant-loop-at : goal.invariant-loop-at
invariant-loop-at g l =
    (l.from ≤ l.at)
    × ((i id : ℕ) → l.from ≤ i → i < l.at → slice_get l.ids i ≡ Some id → stands_in l.local.1 id ≡ true)
