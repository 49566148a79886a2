use Rattle.std.proofs.Common.{◌≡◌, ◌≤◌, ◌<◌, ℕ, false, Some}
use Rattle.std.specs.List.{slice_get}
use Rattle.pp_core.specs.declared.entry.LocalEntry.{LocalEntry}
use Rattle.pp_model.specs.Config.{Unpushed, is_mark}
use Rattle.pp_styles.proofs.notes.first_unpushed.Given as goal

abbrev pub invariant-loop-at : goal.invariant-loop-at
invariant-loop-at g l =
    (l.from ≤ l.at)
    × ((i : ℕ) (e : LocalEntry g.row.S-Op.Denot) → l.from ≤ i → i < l.at → slice_get l.local.1 i ≡ Some e → is_mark e.mark Unpushed ≡ false)
