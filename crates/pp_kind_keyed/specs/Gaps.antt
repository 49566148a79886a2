-- Meaning: states of which one has something else at a key.
use Rattle.std.specs.Prelude.{◌≡◌, ℤ, cond}
use Rattle.std.specs.Ordering.{int_eq}
use Rattle.pp_kind_keyed.specs.Keys.{Keys}

module _ {State Op Cell : Type 0} (k : Keys State Op Cell) where
  -- The second state has this at the key, and elsewhere what the first one has.
  abbrev pub DiffersAt : ℤ → Cell → State → State → Type 0
  DiffersAt q c s t = (p : ℤ) → k.cell t p ≡ cond (int_eq p q) c (k.cell s p)
