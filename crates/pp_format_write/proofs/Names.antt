-- The names of a catalog, and their positions.
use Rattle.std.proofs.Common.{◌<◌, ℕ, zero, suc, [], ◌∷◌, length}
use Rattle.std.proofs.Common.{arith}
use Rattle.pp_core.specs.Catalogs.{Objects, HasNames}
use Rattle.pp_core.specs.Names.{IsName}
use Rattle.pp_text.specs.Texts.{name_at}

-- If all objects have names, the name at an index below their number is a name.
pub named_at : (catalog : Objects) (i : ℕ) → HasNames catalog → i < length catalog → IsName (name_at catalog i)
named_at [] i h lt = absurd (omega arith)
named_at (e ∷ es) zero h lt = h.0
named_at (e ∷ es) (suc i) h lt = named_at es i h.1 (omega arith)
