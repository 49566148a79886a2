-- Proof machinery: a list, and how many more elements it has room for.
use Rattle.std.specs.Prelude.{ℕ, List}

-- A list with room for more elements.
pub record EntryList (E : Type 0) : Type 0 where
  pub items : List E
  pub room : ℕ
