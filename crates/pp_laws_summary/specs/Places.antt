-- Meaning: an object that is made of objects at places, as the objects of a run are.
use Rattle.std.specs.Prelude.{◌≢◌, ◌↔◌, ◌==◌, ℕ, List, filter}
use Rattle.pp_model.specs.Object.{Allowed, Object, Swaps}

-- the operations at the place o, in their order
abbrev pub ops_at : {Op : Type 0} → (Op → ℕ) → ℕ → List Op → List Op
ops_at place o l = filter (λ a. place a == o) l

-- A list is allowed exactly if its operations at each place are.
pub record PlacesPart {Op State : Type 0} (O : Object Op State) (place : Op → ℕ) : Type 0 where
  pub parts : (l : List Op) → Allowed O l ↔ ((o : ℕ) → Allowed O (ops_at place o l))

-- Operations at different places swap.
pub record PlacesSwap {Op State : Type 0} (O : Object Op State) (place : Op → ℕ) : Type 0 where
  pub apart : (a b : Op) → place a ≢ place b → Swaps O a b

-- The first of them is enough for the second.
abbrev pub PartsSwapLaw : {Op State : Type 0} → Object Op State → Type 0
PartsSwapLaw {Op} O = (place : Op → ℕ) → PlacesPart O place → PlacesSwap O place
