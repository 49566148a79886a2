-- Meaning: lists of numbers in ascending order, repeats kept.
use Rattle.std.specs.Prelude.{ℕ, suc, ℤ, int_le, IsTrue, if◌then◌else◌, List, [], ◌∷◌}
use Rattle.std.specs.Prelude.{Option, Some, None}
use Rattle.std.specs.Ordering.{int_eq}

-- the least value, which is first, if there is one
abbrev pub least_of : List ℤ → Option ℤ
least_of [] = None
least_of (x ∷ values) = Some x

-- the values without one of the least
abbrev pub without_least : List ℤ → List ℤ
without_least [] = []
without_least (x ∷ values) = values

-- the values with one more, before the first that is not less
abbrev pub with_one : ℤ → List ℤ → List ℤ
with_one v [] = v ∷ []
with_one v (x ∷ values) = if int_le v x then v ∷ x ∷ values else x ∷ with_one v values

-- the values without one of this value, if it is there
abbrev pub without_one : ℤ → List ℤ → List ℤ
without_one v [] = []
without_one v (x ∷ values) = if int_eq v x then values else x ∷ without_one v values

-- how many of the values are this one
abbrev pub copies_of : ℤ → List ℤ → ℕ
copies_of v [] = 0
copies_of v (x ∷ values) = if int_eq v x then suc (copies_of v values) else copies_of v values

-- no value is less than this one, by the first of them
abbrev pub BeginsAt : ℤ → List ℤ → Type 0
BeginsAt v [] = Unit {0}
BeginsAt v (x ∷ values) = IsTrue (int_le v x)

-- the values ascend
abbrev pub IsAscending : List ℤ → Type 0
IsAscending [] = Unit {0}
IsAscending (x ∷ values) = BeginsAt x values × IsAscending values
