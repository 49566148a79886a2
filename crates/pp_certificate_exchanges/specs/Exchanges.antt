-- Meaning: the exchanges of neighbours that turn a list into a permutation of it.
use Rattle.std.specs.Prelude.{ℕ, zero, suc, ◌+◌, ◌-◌, ◌==◌, nat_lt, cond, count_by, List, [], ◌∷◌}
use Rattle.std.specs.Prelude.{◌++◌}
use Rattle.pp_model.specs.Lists.{In, Before}
use Rattle.pp_model.specs.Object.{Item, HasDistinctIds}

-- y is a permutation of x, whose entries are distinct by ids.
pub record Permutes {Op : Type 0} (x y : List (Item Op)) : Type 0 where
  pub distinct_x : HasDistinctIds x
  pub distinct_y : HasDistinctIds y
  pub into : (p : Item Op) → In p x → In p y
  pub back : (p : Item Op) → In p y → In p x

-- p is before q in x, and q before p in y.
abbrev pub Inverted : {Op : Type 0} → List (Item Op) → List (Item Op) → Item Op → Item Op → Type 0
Inverted x y p q = Before p q x × Before q p y

-- the position of the entry with this id, from 0
abbrev pub position : {Op : Type 0} → ℕ → List (Item Op) → ℕ
position i [] = 0
position i (e ∷ x) = cond (e.id == i) 0 (suc (position i x))

-- the number of pairs p before q in x with q before p in y
abbrev pub inverted : {Op : Type 0} → List (Item Op) → List (Item Op) → ℕ
inverted [] y = 0
inverted (p ∷ x) y = count_by (λ q. nat_lt (position q.id y) (position p.id y)) x + inverted x y

-- The entries at the positions i and i + 1 are exchanged.
abbrev pub exchanged : {A : Type 0} → List A → ℕ → List A
exchanged [] i = []
exchanged (a ∷ []) i = a ∷ []
exchanged (a ∷ b ∷ x) zero = b ∷ a ∷ x
exchanged (a ∷ b ∷ x) (suc i) = a ∷ exchanged (b ∷ x) i

-- the list after exchanges at these positions, one after another
abbrev pub after_exchanges : {A : Type 0} → List A → List ℕ → List A
after_exchanges x [] = x
after_exchanges x (i ∷ is) = after_exchanges (exchanged x i) is

-- There are entries at the positions i and i + 1, and R is true for them.
abbrev pub AtPair : {A : Type 0} → (A → A → Type 0) → List A → ℕ → Type 0
AtPair R [] i = ⊥
AtPair R (a ∷ []) i = ⊥
AtPair R (a ∷ b ∷ x) zero = R a b
AtPair R (a ∷ b ∷ x) (suc i) = AtPair R (b ∷ x) i

-- Each of these exchanges, one after another, is of a pair p before q with R p q.
abbrev pub EachExchange : {A : Type 0} → (A → A → Type 0) → List A → List ℕ → Type 0
EachExchange R x [] = Unit {0}
EachExchange R x (i ∷ is) = AtPair R x i × EachExchange R (exchanged x i) is

-- the n positions from j + n - 1 down to j
abbrev pub down_to : ℕ → ℕ → List ℕ
down_to j zero = []
down_to j (suc n) = (j + n) ∷ down_to j n

-- the exchanges that draw the entry with this id from its present position down to the position j
abbrev pub drawn : {Op : Type 0} → ℕ → ℕ → List (Item Op) → List ℕ
drawn j i now = down_to j (position i now - j)

-- The entries of y are drawn to the positions j, j + 1, .. in turn.
abbrev pub route_from : {Op : Type 0} → ℕ → List (Item Op) → List (Item Op) → List ℕ
route_from j now [] = []
route_from j now (e ∷ y) =
    drawn j e.id now ++ route_from (suc j) (after_exchanges now (drawn j e.id now)) y

-- the exchanges that turn x into y, at the position i those of the entries at i and i + 1
abbrev pub route : {Op : Type 0} → List (Item Op) → List (Item Op) → List ℕ
route x y = route_from 0 x y
