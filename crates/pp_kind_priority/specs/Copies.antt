-- Proof machinery: the list that values with the numbers of their further copies represent.
use Rattle.std.specs.Prelude.{ℕ, ℤ, zero, suc, List, [], ◌∷◌}

-- so many copies of a value before others
abbrev pub copies : ℤ → ℕ → List ℤ → List ℤ
copies x zero values = values
copies x (suc n) values = x ∷ copies x n values

-- each value with its further copies
abbrev pub spread : List (ℤ × ℕ) → List ℤ
spread [] = []
spread (e ∷ es) = e.0 ∷ copies e.0 e.1 (spread es)
