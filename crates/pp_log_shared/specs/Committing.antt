-- Meaning: committed entries, and what a commit must know about the entries that it commits.
use Rattle.std.specs.Prelude.{◌≡◌, ℕ, true, false, List}
use Rattle.pp_core.specs.declared.entry.Item.{Item}
use Rattle.pp_core.specs.declared.entry.SharedEntry.{SharedEntry}
use Rattle.pp_model.specs.Lists.{In}
use Rattle.pp_model.specs.Names.{Name}

-- Each uncommitted entry of the owner in the log has its id among these items.
abbrev pub HoldsIdsOf : {Op : Type 0} → Name → List (Item Op) → List (SharedEntry Op) → Type 0
HoldsIdsOf {Op} owner items log =
    (e : SharedEntry Op) → In e log → e.committed ≡ false → e.owner ≡ owner →
    (p : Item Op) × In p items × (p.id ≡ e.id)

-- The entry is committed, and its operation has this place.
abbrev pub IsCommittedOn : {Op : Type 0} → (Op → ℕ) → ℕ → SharedEntry Op → Type 0
IsCommittedOn place_of place e = (place_of e.op ≡ place) × (e.committed ≡ true)
