-- Meaning: what is committed in the shared log.
use Rattle.std.specs.Prelude.{◌≡◌, ◌==◌, ℕ, Bool, true, false, List, Option, None, Some, find}
use Rattle.pp_core.specs.declared.entry.SharedEntry.{SharedEntry}
use Rattle.pp_model.specs.Lists.{In}

-- An entry of this id is committed in the shared log.
abbrev pub StandsCommitted : {Op : Type 0} → ℕ → List (SharedEntry Op) → Type 0
StandsCommitted {Op} id l =
    (g : SharedEntry Op) × In g l × (g.id ≡ id) × (g.committed ≡ true)

-- whether the entry that was found is committed
abbrev pub is_committed : {Op : Type 0} → Option (SharedEntry Op) → Bool
is_committed None = false
is_committed (Some g) = g.committed

-- whether the first entry of this id is committed
abbrev pub stands_committed : {Op : Type 0} → ℕ → List (SharedEntry Op) → Bool
stands_committed id l = is_committed (find (λ g. g.id == id) l)
