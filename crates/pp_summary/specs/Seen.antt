-- Proof machinery: how many of the commits at each place a transaction has seen.
use Rattle.std.specs.Prelude.{◌≡◌, ◌≢◌, ◌+◌, ℕ, nat_eq, List, [], ◌∷◌, take, slice_get, None, Some}
use Rattle.std.specs.Map.{keys_of, lookup}
use Rattle.pp_model.specs.Lists.{Before}

-- The places with their counts, in order.
pub record SeenCounts : Type 0 where
  pub entries : List (ℕ × ℕ)

-- The place is at the k-th of the entries, and at none before it.
pub record IsFirst (place : ℕ) (entries : List (ℕ × ℕ)) (k : ℕ) : Type 0 where
  pub count : ℕ
  pub here : slice_get entries k ≡ Some (place, count)
  pub before : lookup (nat_eq place) (take k entries) ≡ None

-- No place has two counts.
abbrev pub HaveOwnPlaces : List (ℕ × ℕ) → Type 0
HaveOwnPlaces entries = (p q : ℕ) → Before p q (keys_of entries) → p ≢ q

-- The sum of all counts.
abbrev pub seen_total : List (ℕ × ℕ) → ℕ
seen_total [] = 0
seen_total (e ∷ entries) = e.1 + seen_total entries
