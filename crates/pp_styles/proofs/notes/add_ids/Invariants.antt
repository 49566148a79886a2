use Rattle.std.proofs.Common.{◌≡◌, ◌++◌, ℕ, take}
use Rattle.pp_styles.specs.Knowing.{ids_on}
use Rattle.pp_styles.specs.Noting.{ids_in}
use Rattle.pp_styles.proofs.notes.add_ids.Given as goal

abbrev pub invariant-loop-item : goal.invariant-loop-item
invariant-loop-item g l =
    (o : ℕ) → ids_in o l.committed.entries
    ≡ ids_in o l.fn.committed.entries ++ ids_on g.S.Placed.place_of o (take l.item-index l.items)
